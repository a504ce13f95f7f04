-- When an opening or an event is refused, and with which number of document 01: the tests in its order.
-- Assumes nothing.
use Rattle.std.specs.Prelude.{ℕ, zero, suc, ◌+◌, Bool, true, false, cond, ◌||◌, not, eqb, ltb, leb, Result, Ok, Err, is_ok, ⊤}
use Rattle.sets.specs.Sets.{has}
use Rattle.rounds.specs.declared.Event.{Event}
use Rattle.rounds.specs.declared.Event.TheVariants.{Send, Receive, Step, Broadcast}
use Rattle.rounds.specs.declared.Refusal.{Refusal}
use Rattle.rounds.specs.declared.Refusal.TheVariants.{BadSize, NoProcess, AlreadySent, TooFarAhead, NothingInTransit, NotSentToAll, LastRound, TooManyEvents, WrongCount}
use Rattle.rounds.specs.Limits.{most_processes, window, last_round, most_events}
use Rattle.rounds.specs.Config.{Control}
use Rattle.rounds.specs.Stages.{sent_to_all}

-- what an opening or an event is answered with
abbrev pub Verdict : Type 0
Verdict = Result ⊤ Refusal

abbrev pub Accepted : Verdict
Accepted = Ok tt

-- the numbers of document 01
unfoldable pub refusal_number : Refusal → ℕ
refusal_number BadSize = 1
refusal_number NoProcess = 2
refusal_number AlreadySent = 3
refusal_number TooFarAhead = 4
refusal_number NothingInTransit = 5
refusal_number NotSentToAll = 6
refusal_number LastRound = 7
refusal_number TooManyEvents = 8
refusal_number WrongCount = 11

unfoldable pub number_of : Verdict → ℕ
number_of (Ok _) = 0
number_of (Err r) = refusal_number r

unfoldable pub accepted : Verdict → Bool
accepted v = is_ok v

-- the first test that holds gives the verdict
unfoldable pub refuse : Bool → Refusal → Verdict → Verdict
refuse true r rest = Err r
refuse false r rest = rest

-- ---- the opening: N, and how many values there are
unfoldable pub open_verdict : ℕ → ℕ → Verdict
open_verdict n given =
    refuse (eqb n 0 || ltb most_processes n) BadSize
    (refuse (not (eqb given n)) WrongCount Accepted)

-- ---- the tests of an event
unfoldable pub outside : Control → ℕ → Bool
outside c p = leb c.size p

-- whether k more events are too many
unfoldable pub crowded : Control → ℕ → Bool
crowded c k = ltb most_events (c.events + k)

-- whether the lead of a sender at round r over a receiver at round s is the whole window
unfoldable pub ahead : ℕ → ℕ → Bool
ahead r s = eqb r (s + window)

unfoldable pub send_verdict : Control → ℕ → ℕ → Verdict
send_verdict c p q =
    refuse (has (c.site p).sent q) AlreadySent
    (refuse (ahead (c.site p).round (c.site q).round) TooFarAhead Accepted)

unfoldable pub receive_verdict : Control → ℕ → ℕ → Verdict
receive_verdict c p q = refuse (not (has (c.transit p (c.site p).round) q)) NothingInTransit Accepted

unfoldable pub step_verdict : Control → ℕ → Verdict
step_verdict c p =
    refuse (not (sent_to_all c p)) NotSentToAll
    (refuse (eqb (c.site p).round last_round) LastRound Accepted)

-- of those below n, the first that is a refusal; accepted where none is
unfoldable pub first_refusal : ℕ → (ℕ → Verdict) → Verdict
first_refusal zero f = Accepted
first_refusal (suc n) f = let v = first_refusal n f in cond (accepted v) (f n) v

-- ---- the verdict on an event
unfoldable pub verdict : Control → Event → Verdict
verdict c (Send p q) =
    refuse (outside c p || outside c q) NoProcess
    (refuse (crowded c 1) TooManyEvents
    (send_verdict c p q))
verdict c (Receive p q) =
    refuse (outside c p || outside c q) NoProcess
    (refuse (crowded c 1) TooManyEvents
    (receive_verdict c p q))
verdict c (Step p) =
    refuse (outside c p) NoProcess
    (refuse (crowded c 1) TooManyEvents
    (step_verdict c p))
verdict c (Broadcast p) =
    refuse (outside c p) NoProcess
    (refuse (crowded c c.size) TooManyEvents
    (first_refusal c.size (send_verdict c p)))

unfoldable pub number : Control → Event → ℕ
number c e = number_of (verdict c e)
