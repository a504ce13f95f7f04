-- The four stages, and how an accepted event is counted.
-- Assumes nothing.
use Rattle.std.specs.Prelude.{ℕ, ◌+◌, Bool, cond, not, eqb}
use Rattle.sets.specs.Sets.{empty, full}
use Rattle.rounds.specs.declared.Stage.{Stage}
use Rattle.rounds.specs.declared.Stage.TheVariants.{Sending, Collecting, Pending, Idle}
use Rattle.rounds.specs.Config.{Control}

unfoldable pub sent_to_all : Control → ℕ → Bool
sent_to_all c p = eqb (c.site p).sent (full c.size)

unfoldable pub heard_from_all : Control → ℕ → Bool
heard_from_all c p = eqb (c.site p).heard (full c.size)

-- whether a message to p for its current round is in transit
unfoldable pub waited : Control → ℕ → Bool
waited c p = not (eqb (c.transit p (c.site p).round) empty)

unfoldable pub stage : Control → ℕ → Stage
stage c p = cond (not (sent_to_all c p)) Sending (cond (waited c p) Collecting (cond (not (heard_from_all c p)) Pending Idle))

-- their order in document 01: S, C, P, I
unfoldable pub index : Stage → ℕ
index Sending = 0
index Collecting = 1
index Pending = 2
index Idle = 3

-- 1 where the two are the same
unfoldable pub one : Stage → Stage → ℕ
one a s = cond (eqb (index a) (index s)) 1 0

-- an event is accepted: each process's count for the stage it is at now rises by one
unfoldable pub tick : Control → Control
tick c =
    record {
      size = c.size;
      events = c.events + 1;
      site = c.site;
      transit = c.transit;
      carried = c.carried;
      count = λ p s. c.count p s + one (stage c p) s;
    }
