-- The front page: what is shown of the round machine, each as a named theorem that cites its law.
-- `ran n v es` is any run: n processes open with the values v, and es is any list of events, refused ones and broadcasts included.
-- Assumes nothing.
use Prim.Native.Nat.{ℕ, ◌+◌, ◌≤◌, ◌<◌, ◌^◌}
use mathlib.Core.Path.{◌≡◌}
use mathlib.Core.Logic.{◌↔◌}
use mathlib.Core.Bool.{true, false}
use mathlib.Core.List.{List, ◌++◌}
use lib.ListN.{length}
use Rattle.sets.specs.Sets.{has, members}
use Rattle.voting.specs.declared.Message.{Message}
use Rattle.voting.specs.Voting.{message, rule}
use Rattle.rounds.specs.declared.Stage.{Stage}
use Rattle.rounds.specs.declared.Stage.TheVariants.{Sending, Collecting, Pending, Idle}
use Rattle.rounds.specs.declared.Event.{Event}
use Rattle.rounds.specs.declared.Event.TheVariants.{Send, Receive, Step, Broadcast}
use Rattle.rounds.specs.Verdicts.{Accepted}
use Rattle.rounds.specs.Limits.{window, last_round, most_events}
use Rattle.rounds.specs.Config.{Control, Content, Config, open_control, opening}
use Rattle.rounds.specs.Stages.{stage, tick}
use Rattle.rounds.specs.Verdicts.{open_verdict, verdict}
use Rattle.rounds.specs.Events.{send_control, send_content, gathered, messages, apply}
use Rattle.rounds.specs.Runs.{after, verdicts, Report, reports, replay, replay_verdict, heeded, value_at, night_verdict, night, night_reports, sends, deeds}
use Rattle.rounds.specs.Allowed.{Opens, Sends, Allowed}
use Rattle.rounds.specs.Course.{Course, FromOpening}
use Rattle.rounds.specs.Effects.{Posts, Takes, Advances}
use Rattle.rounds.specs.Claims.{ran, Everyone, Live, SinceStep, SentTo, Underway, Had, Stop, moments, times, total, Agree}
use Rattle.rounds.proofs.Answers.{accepted_is, refused_is, opens_right, right_opens, allowed, allows}
use Rattle.rounds.proofs.MadeOfThree.{run_course}
use Rattle.rounds.proofs.Live.{written_once}
use Rattle.rounds.proofs.InTurn.{apply_refused, broadcast_sends, broadcast_first, replay_whole, replay_stops, replay_heeded}
use Rattle.rounds.proofs.Effects.{send_does, receive_does, step_does}
use Rattle.rounds.proofs.Deeds.{after_deeds}
use Rattle.rounds.proofs.History.{sent_since, heard_since}
use Rattle.rounds.proofs.Underway.{transit_since, live_sent}
use Rattle.rounds.proofs.Throughout as throughout
use Rattle.rounds.proofs.Independence.{same_control, same_verdicts, same_reports, same_holding}
use Rattle.rounds.proofs.Nights.{same_verdict, same_night, same_told, same_held}

-- ================ Demand 1, of the abstract machine
-- a refused event changes no state and no count
pub refused_changes_nothing : (c : Config) (e : Event) → (verdict c.control e ≡ Accepted → ⊥) → apply c e ≡ c
refused_changes_nothing c e r = apply_refused c e (refused_is (verdict c.control e) r)

-- ================ Demand 2
-- an event is accepted exactly when the round machine, within the limits, allows it
pub accepted_exactly : (c : Control) (e : Event) → (verdict c e ≡ Accepted) ↔ Allowed c e
accepted_exactly c e = (λ a. allowed c e (accepted_is (verdict c e) a), allows c e)

-- an opening is accepted exactly for one process up to the most, with a value for each
pub opened_exactly : (n given : ℕ) → (open_verdict n given ≡ Accepted) ↔ Opens n given
opened_exactly n given = (λ a. opens_right n given (accepted_is (open_verdict n given) a), right_opens n given)

-- every run is made of accepted sends, receives and steps, with the heard-of sets that its steps report
pub made_of_three : (n : ℕ) (v : ℕ → ℕ) (es : List Event) → FromOpening n v (ran n v es).control (ran n v es).content (reports (opening n v) es)
made_of_three = run_course

-- an accepted broadcast is its N sends
pub broadcast_is_sends : (c : Config) (p : ℕ) → verdict c.control (Broadcast p) ≡ Accepted
    → apply c (Broadcast p) ≡ after c (sends c.control.size p)
broadcast_is_sends c p a = broadcast_sends c p (accepted_is _ a)

-- with room for N events, it is answered as the first of its sends that is refused
pub broadcast_answer : (c : Config) (p : ℕ) → p < c.control.size → c.control.events + c.control.size ≤ most_events
    → verdict c.control (Broadcast p) ≡ replay_verdict c (sends c.control.size p)
broadcast_answer = broadcast_first

-- a replay without a refusal is the run of all its events
pub replay_is_run : (c : Config) (es : List Event) → replay_verdict c es ≡ Accepted → replay c es ≡ after c es
replay_is_run c es a = replay_whole c es (accepted_is _ a)

-- any other stops at its first refused event, with the verdict on that
pub replay_stops_there : (c : Config) (es : List Event) → (replay_verdict c es ≡ Accepted → ⊥) → Stop c es
replay_stops_there c es r = replay_stops c es (refused_is _ r)

-- either way it is the run of the events that it comes to before a refused one
pub replay_goes_so_far : (c : Config) (es : List Event) → replay c es ≡ after c (heeded c.control es)
replay_goes_so_far = replay_heeded

-- ---- the counts and the stages
-- each count is the number of accepted events just before which the process was at that stage
pub counts_count : (n : ℕ) (v : ℕ → ℕ) (es : List Event) (p : ℕ) (s : Stage) → (ran n v es).control.count p s ≡ times p s (moments (open_control n) es)
counts_count = throughout.count_in

-- the four counts of a process add up to the accepted events
pub counts_add_up : (n : ℕ) (v : ℕ → ℕ) (es : List Event) (p : ℕ) → total ((ran n v es).control.count p) ≡ (ran n v es).control.events
counts_add_up = throughout.total_in

-- the stages are those of document 01's table: whichever line of it holds of a process, that is its stage
pub record Table (n : ℕ) (c : Control) (p : ℕ) : Type 0 where
  pub sending : (q : ℕ) → q < n → has (c.site p).sent q ≡ false → stage c p ≡ Sending
  pub collecting : Everyone n (c.site p).sent → (q : ℕ) → has (c.transit p (c.site p).round) q ≡ true → stage c p ≡ Collecting
  pub pending : Everyone n (c.site p).sent → ((q : ℕ) → q < n → has (c.transit p (c.site p).round) q ≡ false)
      → (q : ℕ) → q < n → has (c.site p).heard q ≡ false → stage c p ≡ Pending
  pub idle : Everyone n (c.site p).sent → Everyone n (c.site p).heard → stage c p ≡ Idle

pub stages_table : (n : ℕ) (v : ℕ → ℕ) (es : List Event) (p : ℕ) → Table n (ran n v es).control p
stages_table n v es p =
    record {
      sending = throughout.sending_in n v es p;
      collecting = throughout.collecting_in n v es p;
      pending = throughout.pending_in n v es p;
      idle = throughout.idle_in n v es p;
    }

-- ---- the limits
pub record InLimits (n : ℕ) (c : Control) : Type 0 where
  -- the lead is at most the window, of either of two processes over the other
  pub lead : (p q : ℕ) → p < n → q < n → (c.site p).round ≤ (c.site q).round + window
  -- and less over those sent to this round: the refusals 3 and 4 never both apply
  pub spoken : (p q : ℕ) → p < n → q < n → has (c.site p).sent q ≡ true → (c.site p).round < (c.site q).round + window
  -- what is in transit to p is for its own round or a later one of the window
  pub near : (p r q : ℕ) → has (c.transit p r) q ≡ true → ((c.site p).round ≤ r) × (r < (c.site p).round + window)
  pub rounds : (p : ℕ) → (1 ≤ (c.site p).round) × ((c.site p).round ≤ last_round)
  pub events : c.events ≤ most_events
  -- every set is one of processes below n
  pub sent : (p : ℕ) → (c.site p).sent < 2 ^ n
  pub heard : (p : ℕ) → (c.site p).heard < 2 ^ n
  pub transit : (p r : ℕ) → c.transit p r < 2 ^ n
  pub reach : (p : ℕ) → p < n → (c.site p).reach < 2 ^ n
  -- a process is in its own reach
  pub own : (p : ℕ) → has (c.site p).reach p ≡ true

pub limits : (n : ℕ) (v : ℕ → ℕ) (es : List Event) → InLimits n (ran n v es).control
limits n v es =
    record {
      lead = throughout.lead_in n v es;
      spoken = throughout.spoken_in n v es;
      near = throughout.near_in n v es;
      rounds = throughout.rounds_in n v es;
      events = throughout.events_in n v es;
      sent = throughout.sent_in n v es;
      heard = throughout.heard_in n v es;
      transit = throughout.transit_in n v es;
      reach = throughout.reach_in n v es;
      own = throughout.own_in n v es;
    }

pub reach_never_shrinks : (n : ℕ) (v : ℕ → ℕ) (es later : List Event) (p q : ℕ)
    → has ((ran n v es).control.site p).reach q ≡ true → has ((ran n v (es ++ later)).control.site p).reach q ≡ true
reach_never_shrinks = throughout.reach_grows_in

-- ---- what an accepted event does, whole: what changes and what stays as it was
-- a send: the sender's sent set, and the message that it posts with what the sender has, if it is in time
pub send_posts : (c : Config) (p q : ℕ) → verdict c.control (Send p q) ≡ Accepted → Posts c (apply c (Send p q)) p q
send_posts c p q a = send_does c p q (accepted_is _ a)

-- a receive: the receiver's heard set, and the one message that leaves transit
pub receive_takes : (c : Config) (p q : ℕ) → verdict c.control (Receive p q) ≡ Accepted → Takes c (apply c (Receive p q)) p q
receive_takes c p q a = receive_does c p q (accepted_is _ a)

-- a step: the next round, with both sets empty, by the rule on the messages heard; what was in transit for older rounds is gone
pub step_advances : (c : Config) (p : ℕ) → verdict c.control (Step p) ≡ Accepted → Advances c (apply c (Step p)) p
step_advances c p a = step_does c p (accepted_is _ a)

-- ---- what the deeds of a run tell: its accepted sends, receives and steps, one after the other, with a broadcast as its sends
-- a run is the run of its deeds
pub run_of_deeds : (n : ℕ) (v : ℕ → ℕ) (es : List Event) → ran n v (deeds (open_control n) es) ≡ ran n v es
unfolding opening
run_of_deeds n v es = after_deeds (opening n v) es

-- q is in p's sent set exactly when p sent to q since its last step, or since the opening
pub sent_exactly : (n : ℕ) (v : ℕ → ℕ) (es : List Event) (p q : ℕ)
    → (has ((ran n v es).control.site p).sent q ≡ true) ↔ SinceStep p (Send p q) (deeds (open_control n) es)
sent_exactly = sent_since

-- q is in p's heard set exactly when p received from q since its last step, or since the opening
pub heard_exactly : (n : ℕ) (v : ℕ → ℕ) (es : List Event) (p q : ℕ)
    → (has ((ran n v es).control.site p).heard q ≡ true) ↔ SinceStep p (Receive p q) (deeds (open_control n) es)
heard_exactly = heard_since

-- q's message for round r is in transit to p exactly when q, at round r, sent it with a lead within the window, and since then p has neither received
-- it nor stepped beyond r
pub transit_exactly : (n : ℕ) (v : ℕ → ℕ) (es : List Event) (p r q : ℕ)
    → (has ((ran n v es).control.transit p r) q ≡ true) ↔ Underway n v (deeds (open_control n) es) p r q
transit_exactly = transit_since

-- ---- mail is true
-- of a message for round r from y to x, in transit or heard this round
pub record Faithful (n : ℕ) (v : ℕ → ℕ) (es : List Event) (x r y : ℕ) : Type 0 where
  -- there was a moment at which its sender, at that round, sent it to this receiver
  pub sent : SentTo n v (deeds (open_control n) es) x r y
  -- it carries the value, vote and reach that its sender had then
  pub said : (ran n v es).content.mail x r y ≡ message ((ran n v sent.earlier).content.holding y)
  pub knew : (ran n v es).control.carried x r y ≡ ((ran n v sent.earlier).control.site y).reach
  -- and so had its sender at every moment at which it was at that round
  pub carries : (earlier later : List Event) → earlier ++ later ≡ es → ((ran n v earlier).control.site y).round ≡ r
      → ((ran n v es).content.mail x r y ≡ message ((ran n v earlier).content.holding y))
      × ((ran n v es).control.carried x r y ≡ ((ran n v earlier).control.site y).reach)

pub mail_is_true : (n : ℕ) (v : ℕ → ℕ) (es : List Event) (x r y : ℕ) → Live (ran n v es).control x r y → Faithful n v es x r y
mail_is_true n v es x r y l =
    let sent = live_sent n v es x r y l in
    let then = throughout.said_in n v es x r y l sent in
    record { sent = sent; said = then.0; knew = then.1; carries = throughout.mail_in n v es x r y l }

-- so a step applies the rule to what those it heard had to say in that round, and its reach gains what theirs was then; said and knew are any
-- functions that give this of those heard
pub step_goes_by_mail : (n : ℕ) (v : ℕ → ℕ) (es : List Event) (p : ℕ) (said : ℕ → Message) (knew : ℕ → ℕ)
    → ((q : ℕ) → has ((ran n v es).control.site p).heard q ≡ true → Had n v es q ((ran n v es).control.site p).round (said q) (knew q))
    → verdict (ran n v es).control (Step p) ≡ Accepted
    → ((apply (ran n v es) (Step p)).content.holding p
    ≡ rule ((ran n v es).control.site p).round ((ran n v es).content.holding p) (messages (members n ((ran n v es).control.site p).heard) said))
    × (((apply (ran n v es) (Step p)).control.site p).reach
    ≡ gathered (members n ((ran n v es).control.site p).heard) knew ((ran n v es).control.site p).reach)
step_goes_by_mail n v es p said knew had a =
    (throughout.votes_in n v es p said knew had (accepted_is _ a), throughout.reaches_in n v es p said knew had (accepted_is _ a))

-- no message is written twice: while a message is live, its sender may not send it anew
pub never_overwritten : (n : ℕ) (v : ℕ → ℕ) (es : List Event) (p q : ℕ)
    → Live (ran n v es).control q ((ran n v es).control.site p).round p → Sends (ran n v es).control p q → ⊥
never_overwritten = throughout.not_live_in

-- and once p has sent to q, on every course from there p may not send to q before its next round
pub never_sent_twice : (c : Control) (d : Content) {c₁ : Control} {d₁ : Content} {rs : List Report} (p q : ℕ)
    → Course (send_control (tick c) p q) (send_content c d p q) c₁ d₁ rs → (c₁.site p).round ≡ (c.site p).round → Sends c₁ p q → ⊥
never_sent_twice = written_once

-- ================ Demand 3
-- of two runs of the same events by n processes, one from the values v and one from w
pub record Independent (n : ℕ) (v w : ℕ → ℕ) (es : List Event) : Type 0 where
  -- acceptances and numbers are equal
  pub answers : verdicts (opening n v) es ≡ verdicts (opening n w) es
  -- and so are rounds, sent and heard sets, reach, stages, counts and what is in transit
  pub control : (ran n v es).control ≡ (ran n w es).control
  -- and the heard-of sets that the steps report
  pub heard_of : reports (opening n v) es ≡ reports (opening n w) es
  -- and value, vote and decision of a process, where v and w agree on its reach after these and any later events
  pub holding : (later : List Event) (p : ℕ) → Agree v w ((ran n v (es ++ later)).control.site p).reach
      → (ran n v es).content.holding p ≡ (ran n w es).content.holding p

pub independent : (n : ℕ) (v w : ℕ → ℕ) (es : List Event) → Independent n v w es
independent n v w es =
    record {
      answers = same_verdicts n v w es;
      control = same_control n v w es;
      heard_of = same_reports n v w es;
      holding = same_holding n v w es;
    }

-- of two nights of the same events, with as many opening values: how they are answered, all that never sees a value, and what is reported is equal;
-- and so is what a process holds, where the values agree on its reach after these and any later events
pub record Alike (n : ℕ) (xs ys : List ℕ) (es : List Event) : Type 0 where
  pub answer : night_verdict n xs es ≡ night_verdict n ys es
  pub control : (night n xs es).control ≡ (night n ys es).control
  pub heard_of : night_reports n xs es ≡ night_reports n ys es
  pub holding : (later : List Event) (p : ℕ) → Agree (value_at xs) (value_at ys) ((night n xs (es ++ later)).control.site p).reach
      → (night n xs es).content.holding p ≡ (night n ys es).content.holding p

pub nights_alike : (n : ℕ) (xs ys : List ℕ) (es : List Event) → length xs ≡ length ys → Alike n xs ys es
nights_alike n xs ys es same =
    record {
      answer = same_verdict n xs ys es same;
      control = same_night n xs ys es same;
      heard_of = same_told n xs ys es same;
      holding = same_held n xs ys es same;
    }

-- The examples of document 01 and our own are in AllExamples, and what the machine is not in NotAToy.
