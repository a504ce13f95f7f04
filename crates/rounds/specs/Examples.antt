-- The starred examples of document 01, and examples of our own for slips that those let pass, each as a test that computes.
-- Assumes nothing.
use Rattle.std.specs.Prelude.{ℕ, zero, suc, ◌+◌, ◌*◌, ◌-◌, Bool, true, false, ◌&&◌, List, [], ◌∷◌, ◌++◌, eqb, length}
use Rattle.sets.specs.Sets.{empty, has, with, without, union, full, only, members}
use Rattle.std.specs.Prelude.{Option, Some, None}
use Rattle.voting.specs.Voting.{opens, message, lesser, same, least, all_same, agreed, values, votes, odd_rule, even_rule, odd, rule}
use Rattle.rounds.specs.declared.Stage.TheVariants.{Sending, Collecting, Pending, Idle}
use Rattle.rounds.specs.declared.Event.{Event}
use Rattle.rounds.specs.declared.Event.TheVariants.{Send, Receive, Step, Broadcast}
use Rattle.rounds.specs.Verdicts.{Verdict}
use Rattle.rounds.specs.Limits.{window, last_round, most_events}
use Rattle.rounds.specs.Config.{Control, Config, at, at₂, at₃, open_control, open_content, opening}
use Rattle.rounds.specs.Stages.{sent_to_all, heard_from_all, waited, stage, index, one, tick}
use Rattle.rounds.specs.Verdicts.{open_verdict, refusal_number, number_of, accepted, refuse, outside, crowded, ahead, send_verdict, receive_verdict, step_verdict, first_refusal, verdict, number}
use Rattle.rounds.specs.Events.{timely, send_control, send_content, receive_control, gathered, messages, heard_by, from, step_control, step_content, sends_control, sends_content, next_control, next_content, if_accepted, apply_control, apply_content, apply}
use Rattle.rounds.specs.Runs.{after, verdicts, Report, report_of, told, reports, replay, replay_verdict, value_at}

-- ---- runs from a list of opening values
-- to unfold `run` is to unfold the whole machine: its `unfolding` line names all of it
unfoldable pub run : List ℕ → List Event → Config
unfolding has with without union full only members opens message lesser same least all_same agreed values votes odd_rule even_rule odd rule at at₂ at₃ open_control open_content opening sent_to_all heard_from_all waited stage index one tick number_of accepted refusal_number refuse outside crowded ahead send_verdict receive_verdict step_verdict first_refusal verdict number timely send_control send_content receive_control gathered messages heard_by from step_control step_content sends_control sends_content next_control next_content if_accepted apply_control apply_content apply after verdicts report_of told reports replay replay_verdict value_at
run vs es = after (opening (length vs) (value_at vs)) es

-- ---- what a test looks at
abbrev pub every : List Bool → Bool
every [] = true
every (b ∷ bs) = b && every bs

abbrev pub equal : List ℕ → List ℕ → Bool
equal [] [] = true
equal [] (y ∷ ys) = false
equal (x ∷ xs) [] = false
equal (x ∷ xs) (y ∷ ys) = eqb x y && equal xs ys

abbrev pub numbers_of : List Verdict → List ℕ
numbers_of [] = []
numbers_of (w ∷ ws) = number_of w ∷ numbers_of ws

-- the numbers that the events are answered with, one after the other
unfoldable pub numbers : List ℕ → List Event → List ℕ
numbers vs es = numbers_of (verdicts (opening (length vs) (value_at vs)) es)

abbrev pub none_refused : List ℕ → Bool
none_refused [] = true
none_refused (k ∷ ks) = eqb k 0 && none_refused ks

-- a process's round, counts S, C, P, I and reach, as the `w` line has them
abbrev pub waits : Config → ℕ → List ℕ
waits c p =
    let site = c.control.site p in
    let count = c.control.count p in
    site.round ∷ count Sending ∷ count Collecting ∷ count Pending ∷ count Idle ∷ site.reach ∷ []

-- a process's value, vote and decision are these, as the `v` line has them
abbrev pub votes_are : Config → ℕ → ℕ → Option ℕ → Option ℕ → Bool
votes_are c p x v d = let h = c.content.holding p in eqb h.value x && same h.vote v && same h.decision d

-- the lead of p over q is this
abbrev pub leads : Config → ℕ → ℕ → ℕ → Bool
leads c p q k = eqb (c.control.site p).round ((c.control.site q).round + k)

-- the process, round and set of each report, as the `h` lines have them
abbrev pub lines : List Report → List ℕ
lines [] = []
lines (r ∷ rs) = r.process ∷ r.round ∷ r.heard ∷ lines rs

unfoldable pub steps : List ℕ → List Event → List ℕ
steps vs es = lines (reports (opening (length vs) (value_at vs)) es)

-- ---- events, many at a time
-- p hears each of qs, one after the other
abbrev pub hears : ℕ → List ℕ → List Event
hears p [] = []
hears p (q ∷ qs) = Receive p q ∷ hears p qs

-- two processes: both broadcast, each hears what its list says, both step
abbrev pub round_of_two : List ℕ → List ℕ → List Event
round_of_two a b = Broadcast 0 ∷ Broadcast 1 ∷ hears 0 a ++ hears 1 b ++ (Step 0 ∷ Step 1 ∷ [])

abbrev pub round_of_three : List ℕ → List ℕ → List ℕ → List Event
round_of_three a b c =
    Broadcast 0 ∷ Broadcast 1 ∷ Broadcast 2 ∷ hears 0 a ++ hears 1 b ++ hears 2 c ++ (Step 0 ∷ Step 1 ∷ Step 2 ∷ [])

-- p goes on alone by k rounds
abbrev pub alone : ℕ → ℕ → List Event
alone p zero = []
alone p (suc k) = Broadcast p ∷ Step p ∷ alone p k

abbrev pub seven_and_four : List ℕ
seven_and_four = 7 ∷ 4 ∷ []

-- each of two processes hears only itself; each hears both
abbrev pub apart : List Event
apart = round_of_two (0 ∷ []) (1 ∷ [])

abbrev pub together : List Event
together = round_of_two (0 ∷ 1 ∷ []) (0 ∷ 1 ∷ [])

-- ---- the starred examples
-- 1: the trace that document 01 prints with its sheet
abbrev pub trace1 : List Event
trace1 = Send 0 0 ∷ Send 0 1 ∷ Receive 0 0 ∷ Send 1 0 ∷ Receive 0 1 ∷ Step 0 ∷ []

unfoldable pub example1 : Bool
example1 =
    let c = run seven_and_four trace1 in
    equal (steps seven_and_four trace1) (0 ∷ 1 ∷ 3 ∷ [])
    && equal (waits c 0) (2 ∷ 2 ∷ 2 ∷ 1 ∷ 1 ∷ 3 ∷ []) && equal (waits c 1) (1 ∷ 6 ∷ 0 ∷ 0 ∷ 0 ∷ 2 ∷ [])
    && votes_are c 0 4 None None && votes_are c 1 4 None None
    && eqb c.control.events 6 && none_refused (numbers seven_and_four trace1)

-- 2: document 003's own, values 1, 1, 0 and heard sets {0,1}, {1,2}, {0,2}
abbrev pub one_one_zero : List ℕ
one_one_zero = 1 ∷ 1 ∷ 0 ∷ []

abbrev pub split : List Event
split = round_of_three (0 ∷ 1 ∷ []) (1 ∷ 2 ∷ []) (0 ∷ 2 ∷ [])

unfoldable pub example2 : Bool
example2 =
    let c = run one_one_zero split in
    votes_are c 0 1 (Some 1) None && votes_are c 1 0 None None && votes_are c 2 0 None None
    && equal (steps one_one_zero split) (0 ∷ 1 ∷ 3 ∷ 1 ∷ 1 ∷ 6 ∷ 2 ∷ 1 ∷ 5 ∷ [])

-- 3: then all hear all in rounds 2 to 4
abbrev pub whole : List Event
whole = round_of_three (0 ∷ 1 ∷ 2 ∷ []) (0 ∷ 1 ∷ 2 ∷ []) (0 ∷ 1 ∷ 2 ∷ [])

unfoldable pub example3 : Bool
example3 =
    let c = run one_one_zero (split ++ whole) in
    let d = run one_one_zero (split ++ whole ++ whole ++ whole) in
    votes_are c 0 1 None None && votes_are c 1 1 None None && votes_are c 2 1 None None
    && votes_are d 0 1 None (Some 1) && votes_are d 1 1 None (Some 1) && votes_are d 2 1 None (Some 1)

-- 4: each hears only itself in rounds 1 and 2
unfoldable pub example4 : Bool
example4 =
    let c = run seven_and_four (apart ++ apart) in
    votes_are c 0 7 None (Some 7) && votes_are c 1 4 None (Some 4)

-- 5: then both hear both in rounds 3 to 6; what they hold after rounds 4, 5 and 6
unfoldable pub example5 : Bool
example5 =
    let c = run seven_and_four (apart ++ apart ++ together ++ together) in
    let d = run seven_and_four (apart ++ apart ++ together ++ together ++ together) in
    let e = run seven_and_four (apart ++ apart ++ together ++ together ++ together ++ together) in
    votes_are c 0 4 None (Some 7) && votes_are c 1 4 None (Some 4)
    && votes_are d 0 4 (Some 4) (Some 7) && votes_are d 1 4 (Some 4) (Some 4)
    && votes_are e 0 4 None (Some 4) && votes_are e 1 4 None (Some 4)

-- 6: each hears itself in round 1; in round 2 process 0 hears both
unfoldable pub example6 : Bool
example6 =
    let c = run seven_and_four (apart ++ round_of_two (0 ∷ 1 ∷ []) (1 ∷ [])) in
    votes_are c 0 4 None None

-- 7: a step with an empty heard set in round 1
unfoldable pub example7 : Bool
example7 =
    let c = run seven_and_four (Broadcast 0 ∷ Step 0 ∷ []) in
    votes_are c 0 7 None None && eqb (c.control.site 0).round 2

-- 8: the sender at round 8 and at round 9, the receiver at 1; so its lead is the last that is taken, and the one that is refused
unfoldable pub example8 : Bool
example8 =
    let c = run seven_and_four (alone 0 7) in
    let d = run seven_and_four (alone 0 8) in
    eqb (c.control.site 0).round 8 && eqb (c.control.site 1).round 1
    && leads c 0 1 (window - 1) && eqb (number c.control (Send 0 1)) 0
    && eqb (d.control.site 0).round 9 && eqb (d.control.site 1).round 1
    && leads d 0 1 window && eqb (number d.control (Send 0 1)) 4

-- 9: the same message received twice; in round 2, what was sent for round 1
unfoldable pub example9 : Bool
example9 =
    equal (numbers seven_and_four (Send 1 0 ∷ Receive 0 1 ∷ Receive 0 1 ∷ [])) (0 ∷ 0 ∷ 5 ∷ [])
    && equal (numbers seven_and_four (Send 1 0 ∷ Broadcast 0 ∷ Step 0 ∷ Receive 0 1 ∷ [])) (0 ∷ 0 ∷ 0 ∷ 5 ∷ [])

-- ---- our own
-- the reach that counts is the message's, {1}, and not what its sender has come to since, {1,2};
-- the value that counts is the message's, 4, and not its sender's since, 2; nor does it count as heard what was not received
abbrev pub seven_four_two : List ℕ
seven_four_two = 7 ∷ 4 ∷ 2 ∷ []

abbrev pub overtaken : List Event
overtaken = Broadcast 0 ∷ Broadcast 1 ∷ Broadcast 2 ∷ Receive 1 2 ∷ Step 1 ∷ Receive 0 1 ∷ Step 0 ∷ []

unfoldable pub carried_reach : Bool
carried_reach =
    let c = run seven_four_two overtaken in
    eqb (c.control.site 1).reach 6 && eqb (c.control.site 0).reach 3

unfoldable pub carried_value : Bool
carried_value =
    let c = run seven_four_two overtaken in
    votes_are c 1 2 (Some 2) None && votes_are c 0 4 (Some 4) None

-- a process does not hear itself without a receive: its own 1 is less than the 4 that it hears
unfoldable pub own_message : Bool
own_message =
    let c = run (1 ∷ 4 ∷ []) (Broadcast 0 ∷ Broadcast 1 ∷ Receive 0 1 ∷ Step 0 ∷ []) in
    votes_are c 0 4 (Some 4) None && eqb (c.control.site 0).reach 3

-- document 01's example 11: a late message is accepted and not put in transit, and its receiver's stages do not change through it
unfoldable pub late_message : Bool
late_message =
    let es = Broadcast 1 ∷ Step 1 ∷ Send 0 1 ∷ Broadcast 1 ∷ [] in
    let c = run seven_and_four es in
    equal (numbers seven_and_four es) (0 ∷ 0 ∷ 0 ∷ 0 ∷ [])
    && eqb (c.control.transit 1 1) 0 && eqb (c.control.transit 1 2) 2
    && equal (waits c 1) (2 ∷ 5 ∷ 1 ∷ 0 ∷ 0 ∷ 2 ∷ [])

-- an early message waits: sent with the greatest lead that is taken, it is received once its receiver has come to its round.
-- A round alone is three events: two sends and a step
unfoldable pub early_message : Bool
early_message =
    let c = run seven_and_four (alone 0 (window - 1)) in
    let d = run seven_and_four (alone 0 (window - 1) ++ (Send 0 1 ∷ []) ++ alone 1 (window - 1) ++ (Receive 1 0 ∷ [])) in
    leads c 0 1 (window - 1)
    && eqb (d.control.site 1).round window && eqb (d.control.site 1).heard 1 && eqb d.control.events (6 * (window - 1) + 2)

-- an empty heard set agrees on nothing in an even round either: no decision, and the vote is gone
unfoldable pub silent_even : Bool
silent_even =
    let c = run seven_and_four (Broadcast 0 ∷ Receive 0 0 ∷ Step 0 ∷ Broadcast 0 ∷ Step 0 ∷ []) in
    votes_are c 0 7 None None

-- who has heard everyone is at I, and no longer at P, while the other hears
unfoldable pub heard_everyone : Bool
heard_everyone =
    let c = run seven_and_four (Broadcast 0 ∷ Broadcast 1 ∷ Receive 0 0 ∷ Receive 0 1 ∷ Receive 1 0 ∷ Receive 1 1 ∷ []) in
    equal (waits c 0) (1 ∷ 2 ∷ 4 ∷ 0 ∷ 2 ∷ 1 ∷ [])

-- document 01's example 12: a broadcast after a single send to process 1 is refused with 3, and the send to 0 is not done
unfoldable pub half_broadcast : Bool
half_broadcast =
    let c = run seven_and_four (Send 0 1 ∷ Broadcast 0 ∷ []) in
    equal (numbers seven_and_four (Send 0 1 ∷ Broadcast 0 ∷ [])) (0 ∷ 3 ∷ []) && eqb (c.control.site 0).sent 2 && eqb c.control.events 1

-- one refusal before the other, at the lead that is refused: 2 comes first, and a broadcast gives the number of its first refused target
unfoldable pub refusal_order : Bool
refusal_order =
    let c = run seven_and_four (alone 0 window ++ (Send 0 0 ∷ [])) in
    leads c 0 1 window
    && eqb (number c.control (Send 0 2)) 2 && eqb (number c.control (Receive 2 0)) 2 && eqb (number c.control (Step 2)) 2
    && eqb (number c.control (Send 0 0)) 3 && eqb (number c.control (Send 0 1)) 4 && eqb (number c.control (Broadcast 0)) 3
    && eqb (number c.control (Step 1)) 6

-- an opening with values that are not N in number, and 1 before 11
unfoldable pub opening_values : Bool
unfolding number_of refusal_number refuse open_verdict
opening_values =
    eqb (number_of (open_verdict 2 2)) 0 && eqb (number_of (open_verdict 2 1)) 11 && eqb (number_of (open_verdict 2 3)) 11
    && eqb (number_of (open_verdict 0 1)) 1

-- at the limits: these many events accepted, or everyone at this round, and process 0 has sent to these
abbrev pub limits_at : ℕ → ℕ → ℕ → Control
limits_at events round sent =
    record {
      size = 2;
      events = events;
      site = λ p. record { round = round; sent = sent; heard = empty; reach = with empty p };
      transit = λ p r. empty;
      carried = λ p r q. empty;
      count = λ p s. 0;
    }

-- 2 before 8; 8 before 3, 5 and 6; a broadcast needs room for all its events; 6 before 7; the round before the last is not the last
unfoldable pub at_the_limits : Bool
at_the_limits =
    let whole = limits_at most_events 1 0 in
    let spoken = limits_at most_events 1 3 in
    let almost = limits_at (most_events - 1) 1 0 in
    eqb (number whole (Send 0 2)) 2 && eqb (number whole (Send 0 1)) 8 && eqb (number whole (Receive 0 1)) 8 && eqb (number whole (Step 0)) 8
    && eqb (number whole (Broadcast 2)) 2 && eqb (number spoken (Send 0 1)) 8 && eqb (number spoken (Broadcast 0)) 8
    && eqb (number almost (Send 0 1)) 0 && eqb (number almost (Broadcast 0)) 8
    && eqb (number (limits_at 0 last_round 0) (Step 0)) 6 && eqb (number (limits_at 0 last_round 3) (Step 0)) 7
    && eqb (number (limits_at 0 (last_round - 1) 3) (Step 0)) 0

-- ---- all of them
unfoldable pub starred : List Bool
starred = example1 ∷ example2 ∷ example3 ∷ example4 ∷ example5 ∷ example6 ∷ example7 ∷ example8 ∷ example9 ∷ []

unfoldable pub ours : List Bool
ours =
    carried_reach ∷ carried_value ∷ own_message ∷ late_message ∷ early_message ∷ silent_even ∷ heard_everyone ∷ half_broadcast ∷ refusal_order
    ∷ opening_values ∷ at_the_limits ∷ []
