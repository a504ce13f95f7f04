-- What the counts count: each is the number of accepted events just before which the stage held, and the four add up to the accepted events.
-- Assumes nothing.
use Prim.Native.Nat.{ℕ, zero, suc, ◌+◌}
use native.Mathlib.Omega.{arith}
use mathlib.Core.Path.{◌≡◌, refl}
use mathlib.Core.Bool.{Bool, true, false, cond}
use mathlib.Core.List.{List, [], ◌∷◌, ◌++◌}
use Rattle.rounds.specs.declared.Stage.{Stage}
use Rattle.rounds.specs.declared.Stage.TheVariants.{Sending, Collecting, Pending, Idle}
use Rattle.rounds.specs.declared.Event.{Event}
use Rattle.rounds.specs.declared.Event.TheVariants.{Send, Receive, Step, Broadcast}
use Rattle.rounds.specs.Config.{Control, Config}
use Rattle.rounds.specs.Stages.{stage, index, one, tick}
use Rattle.rounds.specs.Verdicts.{accepted, verdict}
use Rattle.rounds.specs.Events.{send_control, receive_control, step_control, sends_control, next_control, if_accepted, apply_control, apply}
use Rattle.rounds.specs.Runs.{after}
use Rattle.rounds.specs.Claims.{send_moments, event_moments, moments, times, total}
use Rattle.rounds.proofs.Kept.{Kept}

times_append : (p : ℕ) (s : Stage) (a b : List Control) → times p s (a ++ b) ≡ times p s a + times p s b
unfolding times
times_append p s [] b = omega arith
times_append p s (c ∷ a) b = let ih = times_append p s a b in omega arith

sends_count : (k : ℕ) (c : Control) (p x : ℕ) (s : Stage) → (sends_control k c p).count x s ≡ c.count x s + times x s (send_moments k c p)
unfolding sends_control send_control tick times send_moments
sends_count zero c p x s = omega arith
sends_count (suc k) c p x s =
    let ih = sends_count k c p x s in
    let more = times_append x s (send_moments k c p) (sends_control k c p ∷ []) in
    omega arith

next_count : (c : Control) (e : Event) (x : ℕ) (s : Stage) → (next_control c e).count x s ≡ c.count x s + times x s (event_moments c e)
unfolding next_control send_control receive_control step_control tick times event_moments
next_count c (Send p q) x s = omega arith
next_count c (Receive p q) x s = omega arith
next_count c (Step p) x s = omega arith
next_count c (Broadcast p) x s = sends_count c.size c p x s

apply_count : (c : Control) (e : Event) (x : ℕ) (s : Stage)
    → (apply_control c e).count x s ≡ c.count x s + times x s (if_accepted (verdict c e) (event_moments c e) [])
unfolding apply_control if_accepted times
apply_count c e x s = go (accepted (verdict c e))
  where
    go : (b : Bool) → (cond b (next_control c e) c).count x s ≡ c.count x s + times x s (cond b (event_moments c e) [])
    go true = next_count c e x s
    go false = omega arith

-- from any configuration: each count rises by the number of accepted events just before which the stage held
pub counts : (c : Config) (es : List Event) (x : ℕ) (s : Stage)
    → (after c es).control.count x s ≡ c.control.count x s + times x s (moments c.control es)
unfolding after apply moments times
counts c [] x s = omega arith
counts c (e ∷ es) x s =
    let ih = counts (apply c e) es x s in
    let now = apply_count c.control e x s in
    let more = times_append x s (if_accepted (verdict c.control e) (event_moments c.control e) []) (moments (apply_control c.control e) es) in
    omega arith

-- ---- the four of a process add up to the accepted events
one_of_four : (a : Stage) → one a Sending + one a Collecting + one a Pending + one a Idle ≡ 1
unfolding one index
one_of_four Sending = refl
one_of_four Collecting = refl
one_of_four Pending = refl
one_of_four Idle = refl

pub total_kept : Kept (λ c d. (x : ℕ) → total (c.count x) ≡ c.events)
unfolding send_control receive_control step_control tick total
total_kept =
    record {
      send = λ c d p q h k x. ticked c x (k x);
      receive = λ c d p q h k x. ticked c x (k x);
      step = λ c d p h k x. ticked c x (k x);
    }
  where
    ticked : (c : Control) (x : ℕ) → total (c.count x) ≡ c.events → total ((tick c).count x) ≡ c.events + 1
    ticked c x e = omega (arith, one_of_four (stage c x))
