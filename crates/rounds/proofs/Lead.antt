-- The lead of one process over another is never more than the window: its round is at most so far above the other's, whichever of the two is meant.
-- Assumes nothing.
use Prim.Native.Nat.{ℕ, ◌+◌, ◌≤◌, ◌<◌}
use native.Mathlib.Omega.{arith}
use mathlib.Core.Path.{◌≡◌}
use mathlib.Core.Logic.{⊎_elim}
use mathlib.Core.Bool.{true}
use Rattle.sets.specs.Sets.{has}
use Rattle.sets.proofs.Membership.{with_cases, full_has, empty_none}
use Rattle.rounds.specs.Limits.{window}
use Rattle.rounds.specs.Config.{Site, Control, open_control}
use Rattle.rounds.specs.Stages.{tick}
use Rattle.rounds.specs.Events.{send_control, receive_control, step_control}
use Rattle.rounds.specs.Allowed.{Sends, Steps}
use Rattle.rounds.proofs.Updates.{at_two}
use Rattle.rounds.proofs.Kept.{Kept}

-- at most a window ahead of every process, and less than that ahead of those it has sent to this round
abbrev Near : ℕ → ℕ → Site → ℕ → Site → Type 0
Near n x s y t = x < n → y < n → (s.round ≤ t.round + window) × (has s.sent y ≡ true → s.round < t.round + window)

abbrev Led : Control → Type 0
Led c = (x y : ℕ) → Near c.size x (c.site x) y (c.site y)

send_led : (c : Control) (p q : ℕ) → Sends c p q → Led c → Led (send_control (tick c) p q)
unfolding send_control tick
send_led c p q h k =
    at_two (Near c.size) c.site p _
    (λ hx hy. (omega arith, λ t. omega arith))
    (λ y hx hy. ((k p y hx hy).0, λ t. ⊎_elim (k p y hx hy).1 (below y) (with_cases _ q y t)))
    (λ x. k x p)
    k
  where
    near : (c.site p).round < (c.site q).round + window
    near = let far = (k p q h.from h.to).0 in omega (arith, h.may.near)

    below : (y : ℕ) → y ≡ q → (c.site p).round < (c.site y).round + window
    below y e = rw e near

receive_led : (c : Control) (p q : ℕ) → Led c → Led (receive_control (tick c) p q)
unfolding receive_control tick
receive_led c p q k = at_two (Near c.size) c.site p _ (k p p) (k p) (λ x. k x p) k

step_led : (c : Control) (p : ℕ) → Steps c p → Led c → Led (step_control (tick c) p)
unfolding step_control tick
step_led c p h k =
    at_two (Near c.size) c.site p _
    (λ hx hy. (omega arith, λ t. absurd (empty_none p t)))
    (λ y hx hy. (let less = spoken y hy in omega arith, λ t. absurd (empty_none y t)))
    (λ x hx hy. let most = (k x p hx hy).0 in (omega arith, λ t. omega arith))
    k
  where
    spoken : (y : ℕ) → y < c.size → (c.site p).round < (c.site y).round + window
    spoken y hy = (k p y h.who hy).1 (rw h.spoken (full_has c.size y hy))

pub led_kept : Kept (λ c d. Led c)
led_kept =
    record {
      send = λ c d p q h k. send_led c p q h k;
      receive = λ c d p q h k. receive_led c p q k;
      step = λ c d p h k. step_led c p h k;
    }

pub open_led : (n : ℕ) → Led (open_control n)
unfolding open_control
open_led n x y hx hy = (omega arith, λ t. omega arith)
