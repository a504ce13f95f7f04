-- The examples of the abstract round machine, run on the words of a memory: every answer and all that is shown must be that machine's.
-- Assumes nothing.
use Rattle.std.specs.Prelude.{ℕ, zero, suc, ◌-◌, Bool, true, ◌&&◌, List, [], ◌∷◌, ◌++◌, eqb, length}
use Rattle.sets.specs.Sets.{empty}
use Rattle.rounds.specs.declared.Event.{Event}
use Rattle.rounds.specs.declared.Event.TheVariants.{Send, Receive, Step, Broadcast}
use Rattle.rounds.specs.Limits.{window}
use Rattle.rounds.specs.Verdicts.{number_of, open_verdict, verdict}
use Rattle.rounds.specs.Config.{Control, Config}
use Rattle.rounds.specs.Events.{if_accepted, apply}
use Rattle.rounds.specs.Runs.{told}
use Rattle.rounds.specs.Examples.{run, equal, leads, lines, round_of_two, alone, seven_and_four, seven_four_two, one_one_zero, apart, together, split, whole, trace1, overtaken}
use Rattle.words.specs.declared.Standing.{Standing}
use Rattle.words.specs.Layout.{Mem, VALUE, REACH, Line, Transit, get, put, ◌:=◌, writes}
use Rattle.words.specs.Spelled.{word, choice, flag_of, word_of, people, site_of, holding_of, message_of, carried_of, control_of, count_of}
use Rattle.words.specs.Calls.{blank, placed, placed_below, opened, begins, counted, settled, begun, fate, marked, posted, delivered, sent, taken, received, messages_below, reach_below, held, advanced, stepped, sent_below, done, applied, Answer, judged, finishing, step_answer, stepping, answer, nobody, standing_of}
use Rattle.words.specs.Shows.{verdict_of, actor, reported, standing}

-- the memory after the events. To unfold it is to unfold the whole machine in memory: its `unfolding` line names all of it
unfoldable pub memory : Mem → List Event → Mem
unfolding run open_verdict get put word choice flag_of word_of people site_of holding_of message_of carried_of control_of count_of blank placed placed_below opened begins counted settled begun fate marked posted delivered sent taken received messages_below reach_below held advanced stepped sent_below done applied judged finishing step_answer stepping answer nobody standing_of verdict_of actor reported standing
memory m [] = m
memory m (e ∷ es) = memory (applied m e) es

-- all that is shown of a process, as numbers
abbrev pub figures : Standing → List ℕ
figures s =
    s.round ∷ s.sending ∷ s.collecting ∷ s.pending ∷ s.idle ∷ s.reach
    ∷ s.value ∷ flag_of s.vote ∷ word_of s.vote ∷ flag_of s.decision ∷ word_of s.decision ∷ []

abbrev pub alike : ℕ → Mem → Config → Bool
alike zero m c = true
alike (suc p) m c = alike p m c && equal (figures (standing_of m p)) (figures (standing c p))

-- what an answer says: its number, and the process, round and set that it reports; and what the abstract machine says
abbrev pub says : Event → Answer → List ℕ
says e a = number_of (verdict_of a) ∷ lines (reported e a)

abbrev pub said : Control → Event → List ℕ
said c e = number_of (verdict c e) ∷ lines (if_accepted (verdict c e) (told c e) [])

-- event by event the same answers, and at the end as many events and the same figures of every process; of one more, none
unfoldable pub agreeing : Mem → Config → List Event → Bool
agreeing m c [] =
    eqb (control_of m).events c.control.events
    && alike c.control.size m c && equal (figures (standing_of m c.control.size)) (figures nobody)
agreeing m c (e ∷ es) = equal (says e (answer (control_of m) e)) (said c.control e) && agreeing (applied m e) (apply c e) es

-- the run of these events from these values
abbrev pub agrees : List ℕ → List Event → Bool
agrees xs es = agreeing (opened (length xs) xs) (run xs []) es

-- ---- document 01's starred examples, each from its beginning
-- 1
unfoldable pub example1 : Bool
example1 = agrees seven_and_four trace1

-- 2 and 3
unfoldable pub examples2_and3 : Bool
examples2_and3 = agrees one_one_zero (split ++ whole ++ whole ++ whole)

-- 4 and 5
unfoldable pub examples4_and5 : Bool
examples4_and5 = agrees seven_and_four (apart ++ apart ++ together ++ together ++ together ++ together)

-- 6
unfoldable pub example6 : Bool
example6 = agrees seven_and_four (apart ++ round_of_two (0 ∷ 1 ∷ []) (1 ∷ []))

-- 7
unfoldable pub example7 : Bool
example7 = agrees seven_and_four (Broadcast 0 ∷ Step 0 ∷ [])

-- 8: the sender at round 8, and at round 9, where its lead is the one that is refused
unfoldable pub example8 : Bool
example8 =
    leads (run seven_and_four (alone 0 8)) 0 1 window
    && agrees seven_and_four (alone 0 7 ++ (Send 0 1 ∷ [])) && agrees seven_and_four (alone 0 8 ++ (Send 0 1 ∷ []))

-- 9
unfoldable pub example9 : Bool
example9 = agrees seven_and_four (Send 1 0 ∷ Receive 0 1 ∷ Receive 0 1 ∷ Broadcast 0 ∷ Step 0 ∷ Receive 0 1 ∷ [])

-- ---- our own
-- a letter says what its sender held, whatever the sender's line says since; and a sender that has gone on
unfoldable pub carried_letter : Bool
carried_letter =
    let m = writes (memory (opened 2 seven_and_four) (Send 1 0 ∷ [])) (Line 1 VALUE := 9 ∷ Line 1 REACH := 3 ∷ []) in
    eqb (message_of m 0 1 1).value 4 && eqb (carried_of m 0 1 1) 2 && agrees seven_four_two overtaken

-- the own letter, not received
unfoldable pub own_letter : Bool
own_letter = agrees (1 ∷ 4 ∷ []) (Broadcast 0 ∷ Broadcast 1 ∷ Receive 0 1 ∷ Step 0 ∷ [])

-- a late letter has no place; nor is it there when its receiver comes to the round that would have this place, a whole window after the sender's
unfoldable pub late_letter : Bool
late_letter =
    let es = alone 1 1 ++ (Send 0 1 ∷ alone 1 (window - 1)) in
    eqb (get (memory (opened 2 seven_and_four) (alone 1 1 ++ (Send 0 1 ∷ []))) (Transit 1 1)) empty
    && leads (run seven_and_four es) 1 0 window && agrees seven_and_four (es ++ (Receive 1 0 ∷ []))

-- an early letter, sent with the greatest lead that is taken
unfoldable pub early_letter : Bool
early_letter =
    leads (run seven_and_four (alone 0 (window - 1))) 0 1 (window - 1)
    && agrees seven_and_four (alone 0 (window - 1) ++ (Send 0 1 ∷ []) ++ alone 1 (window - 1) ++ (Receive 1 0 ∷ []))

-- silence in an even round
unfoldable pub silent_even : Bool
silent_even = agrees seven_and_four (Broadcast 0 ∷ Receive 0 0 ∷ Step 0 ∷ Broadcast 0 ∷ Step 0 ∷ [])

-- everyone heard, and not everyone
unfoldable pub heard_everyone : Bool
heard_everyone = agrees seven_and_four (Broadcast 0 ∷ Broadcast 1 ∷ Receive 0 0 ∷ Receive 0 1 ∷ Receive 1 0 ∷ Receive 1 1 ∷ [])

unfoldable pub heard_itself : Bool
heard_itself = agrees seven_and_four (Broadcast 0 ∷ Receive 0 0 ∷ Send 1 1 ∷ [])

-- a broadcast half refused
unfoldable pub half_broadcast : Bool
half_broadcast = agrees seven_and_four (Send 0 1 ∷ Broadcast 0 ∷ [])

-- a letter that was not received is gone at the step; its place is used again a whole window later, and nothing of it is there
unfoldable pub place_again : Bool
place_again =
    let es = Send 1 0 ∷ alone 0 window in
    eqb (get (memory (opened 2 seven_and_four) (Send 1 0 ∷ alone 0 1)) (Transit 0 1)) empty
    && leads (run seven_and_four es) 0 1 window && agrees seven_and_four (es ++ (Receive 0 1 ∷ Send 0 0 ∷ []))

-- every refusal but those of the last round and of the events, where the lead is the one that is refused
unfoldable pub refusal_order : Bool
refusal_order =
    let es = alone 0 window ++ (Send 0 0 ∷ Send 0 0 ∷ Send 0 1 ∷ Send 0 2 ∷ Receive 2 0 ∷ Step 2 ∷ Step 1 ∷ Broadcast 0 ∷ Broadcast 2 ∷ []) in
    leads (run seven_and_four es) 0 1 window && agrees seven_and_four es

-- ---- openings over a run. The figures of two processes are the same in two memories
abbrev pub two_alike : Mem → Mem → Bool
two_alike m b = equal (figures (standing_of b 0)) (figures (standing_of m 0)) && equal (figures (standing_of b 1)) (figures (standing_of m 1))

abbrev pub before : Mem
before = memory (opened 2 seven_and_four) (Send 0 0 ∷ Receive 0 0 ∷ [])

-- one that is refused, for its size or for its values, leaves a run as it was
unfoldable pub opening_of_nobody : Bool
opening_of_nobody = two_alike before (begins before 0 [])

unfoldable pub opening_short_of_values : Bool
opening_short_of_values = two_alike before (begins before 2 (7 ∷ []))

-- one that is accepted leaves nothing of it
unfoldable pub opening_anew : Bool
opening_anew = two_alike (opened 2 seven_and_four) (begins before 2 seven_and_four)

-- ---- all of them
unfoldable pub starred : List Bool
starred = example1 ∷ examples2_and3 ∷ examples4_and5 ∷ example6 ∷ example7 ∷ example8 ∷ example9 ∷ []

unfoldable pub ours : List Bool
ours =
    carried_letter ∷ own_letter ∷ late_letter ∷ early_letter ∷ silent_even ∷ heard_everyone ∷ heard_itself ∷ half_broadcast ∷ place_again ∷ refusal_order
    ∷ opening_of_nobody ∷ opening_short_of_values ∷ opening_anew ∷ []
