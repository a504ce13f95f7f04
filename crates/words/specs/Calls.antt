-- What each call does to the words of a memory and what it answers, whatever the memory holds: the exact promise of every call.
-- An answer is the round machine's own, on what the words spell. Assumes nothing.
use Rattle.std.specs.Prelude.{ℕ, zero, suc, ◌+◌, ◌-◌, cond, List, [], ◌∷◌, leb, get_or, length, replicate, Option, Some, None, Result, Ok, Err}
use Rattle.sets.specs.Sets.{empty, with, without, members}
use Rattle.voting.specs.declared.Message.{Message}
use Rattle.voting.specs.declared.Holding.{Holding}
use Rattle.voting.specs.Voting.{rule}
use Rattle.rounds.specs.declared.Stage.TheVariants.{Sending, Collecting, Pending, Idle}
use Rattle.rounds.specs.declared.Event.{Event}
use Rattle.rounds.specs.declared.Event.TheVariants.{Send, Receive, Step, Broadcast}
use Rattle.rounds.specs.declared.Refusal.{Refusal}
use Rattle.rounds.specs.Config.{Control}
use Rattle.rounds.specs.Stages.{stage, index}
use Rattle.rounds.specs.Verdicts.{Verdict, Accepted, open_verdict, ahead, verdict}
use Rattle.rounds.specs.Events.{timely, gathered, messages, if_accepted}
use Rattle.words.specs.declared.Finished.{Finished}
use Rattle.words.specs.declared.Fate.{Fate}
use Rattle.words.specs.declared.Fate.TheVariants.{Discarded, Kept, Refused}
use Rattle.words.specs.declared.Standing.{Standing}
use Rattle.words.specs.Layout.{Mem, RUN, Head, Line, Transit, Mail, get, ◌:=◌, writes, SIZE, EVENTS, VALUE, VOTED, VOTE, DECIDED, DECISION, ROUND, SENT, HEARD, REACH, SINCE, COUNTS, CARRIED}
use Rattle.words.specs.Spelled.{word, flag_of, word_of, people, holding_of, message_of, carried_of, control_of, count_of}

-- ---- the opening
unfoldable pub blank : Mem
blank = replicate RUN 0

-- process p is there, with its value
unfoldable pub placed : Mem → ℕ → ℕ → Mem
placed m p x = writes m (Line p VALUE := x ∷ Line p ROUND := 1 ∷ Line p REACH := with empty p ∷ [])

-- the processes below k are
unfoldable pub placed_below : ℕ → List ℕ → Mem → Mem
placed_below zero xs m = m
placed_below (suc k) xs m = placed (placed_below k xs m) k (get_or xs k 0)

unfoldable pub opened : ℕ → List ℕ → Mem
opened n xs = placed_below n xs (writes blank (Head SIZE := n ∷ []))

-- a refused opening leaves the memory as it was
unfoldable pub begins : Mem → ℕ → List ℕ → Mem
begins m n xs = if_accepted (open_verdict n (length xs)) (opened n xs) m

-- ---- an accepted event is counted, and the processes that it can move to another stage are settled, before anything else changes
unfoldable pub counted : Mem → Mem
counted m = writes m (Head EVENTS := word (get m (Head EVENTS) + 1) ∷ [])

unfoldable pub settled : Mem → ℕ → Mem
settled m p =
    let c = Line p (COUNTS + index (stage (control_of m) p)) in
    let now = get m (Head EVENTS) in
    writes m (c := word (get m c + (now - get m (Line p SINCE))) ∷ Line p SINCE := now ∷ [])

unfoldable pub begun : Mem → ℕ → Mem
begun m p = settled (counted m) p

-- ---- a send of p to q
-- what becomes of a message of a sender at round r to a receiver at round s
unfoldable pub fate : ℕ → ℕ → Fate
fate r s = cond (timely r s) Kept (cond (ahead r s) Refused Discarded)

unfoldable pub marked : Mem → ℕ → ℕ → Mem
marked m p q = writes m (Line p SENT := with (get m (Line p SENT)) q ∷ [])

-- the message is in transit, with what p has
unfoldable pub posted : Mem → ℕ → ℕ → Mem
posted m p q =
    let r = get m (Line p ROUND) in
    writes m
    (Transit q r := with (get m (Transit q r)) p
    ∷ Mail q r p VALUE := get m (Line p VALUE)
    ∷ Mail q r p VOTED := get m (Line p VOTED)
    ∷ Mail q r p VOTE := get m (Line p VOTE)
    ∷ Mail q r p CARRIED := get m (Line p REACH)
    ∷ [])

unfoldable pub delivered : Fate → Mem → ℕ → ℕ → Mem
delivered Discarded m p q = m
delivered Kept m p q = posted m p q
delivered Refused m p q = m

unfoldable pub sent : Mem → ℕ → ℕ → Mem
sent m p q = delivered (fate (get m (Line p ROUND)) (get m (Line q ROUND))) (marked (settled (begun m p) q) p q) p q

-- ---- a receive of p from q
unfoldable pub taken : Mem → ℕ → ℕ → Mem
taken m p q =
    let r = get m (Line p ROUND) in
    writes m (Transit p r := without (get m (Transit p r)) q ∷ Line p HEARD := with (get m (Line p HEARD)) q ∷ [])

unfoldable pub received : Mem → ℕ → ℕ → Mem
received m p q = taken (begun m p) p q

-- ---- a step of p
-- the messages that p has heard this round from the processes below k, by ascending senders
unfoldable pub messages_below : ℕ → Mem → ℕ → List Message
messages_below k m p = messages (members k (get m (Line p HEARD))) (message_of m p (get m (Line p ROUND)))

-- its reach, with what these carry
unfoldable pub reach_below : ℕ → Mem → ℕ → ℕ
reach_below k m p = gathered (members k (get m (Line p HEARD))) (carried_of m p (get m (Line p ROUND))) (get m (Line p REACH))

unfoldable pub held : Mem → ℕ → Holding → Mem
held m p h =
    writes m
    (Line p VALUE := h.value
    ∷ Line p VOTED := flag_of h.vote
    ∷ Line p VOTE := word_of h.vote
    ∷ Line p DECIDED := flag_of h.decision
    ∷ Line p DECISION := word_of h.decision
    ∷ [])

-- from round r to the next
unfoldable pub advanced : Mem → ℕ → ℕ → ℕ → Mem
advanced m p r reach =
    writes m
    (Transit p r := empty
    ∷ Line p ROUND := word (r + 1)
    ∷ Line p SENT := empty
    ∷ Line p HEARD := empty
    ∷ Line p REACH := reach
    ∷ [])

unfoldable pub stepped : Mem → ℕ → Mem
stepped m p =
    let r = get m (Line p ROUND) in
    let h = rule r (holding_of m p) (messages_below (people m) m p) in
    advanced (held (begun m p) p h) p r (reach_below (people m) m p)

-- ---- a broadcast of p: its sends to the processes below k, in ascending order
unfoldable pub sent_below : ℕ → Mem → ℕ → Mem
sent_below zero m p = m
sent_below (suc k) m p = sent (sent_below k m p) p k

-- ---- any event: where it is refused the memory stays as it was
unfoldable pub done : Mem → Event → Mem
done m (Send p q) = sent m p q
done m (Receive p q) = received m p q
done m (Step p) = stepped m p
done m (Broadcast p) = sent_below (people m) m p

unfoldable pub applied : Mem → Event → Mem
applied m e = if_accepted (verdict (control_of m) e) (done m e) m

-- ---- a list of events, up to the first that is refused
unfoldable pub replayed : Mem → List Event → Mem
replayed m [] = m
replayed m (e ∷ es) = let r = replayed (applied m e) es in if_accepted (verdict (control_of m) e) r m

unfoldable pub replayed_verdict : Mem → List Event → Verdict
replayed_verdict m [] = Accepted
replayed_verdict m (e ∷ es) = let r = replayed_verdict (applied m e) es in if_accepted (verdict (control_of m) e) r (verdict (control_of m) e)

-- a night from its opening on, whatever the memory held; a refused opening leaves no run
unfoldable pub night_words : ℕ → List ℕ → List Event → Mem
night_words n xs es = if_accepted (open_verdict n (length xs)) (replayed (opened n xs) es) blank

-- ---- what an event is answered with: a refusal, or what an accepted one reports, which is nothing but of a step
abbrev pub Answer : Type 0
Answer = Result (Option Finished) Refusal

-- of an event that reports nothing
unfoldable pub judged : Verdict → Answer
judged (Ok u) = Ok None
judged (Err r) = Err r

-- of a step: its own answer always reports
unfoldable pub finishing : Verdict → Finished → Result Finished Refusal
finishing (Ok u) f = Ok f
finishing (Err r) f = Err r

unfoldable pub step_answer : Control → ℕ → Result Finished Refusal
step_answer c p = finishing (verdict c (Step p)) (record { round = (c.site p).round; heard = (c.site p).heard })

unfoldable pub stepping : Result Finished Refusal → Answer
stepping (Ok f) = Ok (Some f)
stepping (Err r) = Err r

unfoldable pub answer : Control → Event → Answer
answer c (Send p q) = judged (verdict c (Send p q))
answer c (Receive p q) = judged (verdict c (Receive p q))
answer c (Step p) = stepping (step_answer c p)
answer c (Broadcast p) = judged (verdict c (Broadcast p))

-- ---- what is shown of a process; of one that is not there, nothing
unfoldable pub nobody : Standing
nobody = record { round = 0; value = 0; vote = None; decision = None; reach = empty; sending = 0; collecting = 0; pending = 0; idle = 0 }

unfoldable pub standing_of : Mem → ℕ → Standing
standing_of m p =
    cond (leb (people m) p) nobody
    (record {
      round = get m (Line p ROUND);
      value = (holding_of m p).value;
      vote = (holding_of m p).vote;
      decision = (holding_of m p).decision;
      reach = get m (Line p REACH);
      sending = word (count_of m p Sending);
      collecting = word (count_of m p Collecting);
      pending = word (count_of m p Pending);
      idle = word (count_of m p Idle);
    })
