-- The four stages are document 01's table, word by word. Where all is heard nothing is in transit, so that I needs no more than it says.
-- Assumes nothing.
use Prim.Native.Nat.{ℕ, ◌<◌, ◌^◌}
use mathlib.Core.Path.{◌≡◌, refl, sym, ap, ◌∙◌}
use mathlib.Core.Logic.{⊎_elim}
use mathlib.Core.Bool.{Bool, true, false, not, true≢false}
use lib.Dec.{eqb}
use borrow.Author.Tests.{eq-eqb, ne_eqb}
use Rattle.sets.specs.Sets.{empty, has, with, full}
use Rattle.sets.proofs.Membership.{with_cases, without_own, without_was, empty_none, full_has}
use Rattle.sets.proofs.Bounds.{full_only, empty_only}
use Rattle.rounds.specs.declared.Stage.TheVariants.{Sending, Collecting, Pending, Idle}
use Rattle.rounds.specs.Config.{Control, at₂, open_control}
use Rattle.rounds.specs.Stages.{sent_to_all, heard_from_all, waited, stage, tick}
use Rattle.rounds.specs.Events.{timely, send_control, receive_control, step_control}
use Rattle.rounds.specs.Allowed.{Sends}
use Rattle.rounds.specs.Claims.{Everyone}
use Rattle.rounds.specs.Claims.Live.{taken}
use Rattle.rounds.proofs.Updates.{at_one, at_each, at_both, at₂_one, cond_either}
use Rattle.rounds.proofs.Kept.{Kept}
use Rattle.rounds.proofs.Limits.{Within}
use Rattle.rounds.proofs.Live.{Spoken, spoken_kept, not_live}

-- ---- what is heard is not in transit
abbrev pub Once : Control → Type 0
Once c = (x r y : ℕ) → r ≡ (c.site x).round → has (c.site x).heard y ≡ true → has (c.transit x r) y ≡ true → ⊥

send_once : (c : Control) (p q : ℕ) → Sends c p q → Spoken c → Once c → Once (send_control (tick c) p q)
unfolding send_control tick
send_once c p q h spoken k x r y =
    at_one (λ x s. r ≡ s.round → has s.heard y ≡ true → has ((send_control (tick c) p q).transit x r) y ≡ true → ⊥) c.site p _
    (there p r y) (λ x. there x r y) x
  where
    again : (y : ℕ) → (c.site p).round ≡ (c.site q).round → has (c.site q).heard y ≡ true → y ≡ p → ⊥
    again y e t f = not_live c p q spoken h (taken e (rw f at t))

    there : (x r y : ℕ) → r ≡ (c.site x).round → has (c.site x).heard y ≡ true → has ((send_control (tick c) p q).transit x r) y ≡ true → ⊥
    there =
        cond_either (λ (T : ℕ → ℕ → ℕ). (x r y : ℕ) → r ≡ (c.site x).round → has (c.site x).heard y ≡ true → has (T x r) y ≡ true → ⊥)
        (timely (c.site p).round (c.site q).round) _ _
        (λ e. at₂_one (λ x r s. (y : ℕ) → r ≡ (c.site x).round → has (c.site x).heard y ≡ true → has s y ≡ true → ⊥) c.transit q (c.site p).round _
        (λ y e t u. ⊎_elim (k q (c.site p).round y e t) (again y e t) (with_cases _ p y u))
        k)
        (λ e. k)

receive_once : (c : Control) (p q : ℕ) → Once c → Once (receive_control (tick c) p q)
unfolding receive_control tick at₂
receive_once c p q k x r y =
    at_both (λ x s T. r ≡ s.round → has s.heard y ≡ true → has (T r) y ≡ true → ⊥) c.site c.transit p _ _
    (at_each (λ r t. r ≡ (c.site p).round → has (with (c.site p).heard q) y ≡ true → has t y ≡ true → ⊥) (c.transit p) (c.site p).round _
    (λ e t u. ⊎_elim
    (λ old. k p (c.site p).round y refl old (without_was _ q y u))
    (λ new. true≢false (sym u ∙ rw new (without_own _ q)))
    (with_cases _ q y t))
    (λ r other e. absurd (other e)) r)
    (λ x. k x r y) x

step_once : (c : Control) (p : ℕ) → Once c → Once (step_control (tick c) p)
unfolding step_control tick
step_once c p k x r y =
    at_both (λ x s T. r ≡ s.round → has s.heard y ≡ true → has (T r) y ≡ true → ⊥) c.site c.transit p _ _
    (λ e t u. empty_none y t) (λ x. k x r y) x

pub once_kept : Kept (λ c d. Spoken c × Once c)
once_kept =
    record {
      send = λ c d p q h k. (spoken_kept.send c d p q h k.0, send_once c p q h k.0 k.1);
      receive = λ c d p q h k. (spoken_kept.receive c d p q h k.0, receive_once c p q k.1);
      step = λ c d p h k. (spoken_kept.step c d p h k.0, step_once c p k.1);
    }

pub open_once : (n : ℕ) → Once (open_control n)
unfolding open_control
open_once n x r y e t u = empty_none y t

-- ---- the table
module _ (c : Control) (within : Within c) (p : ℕ) where
  lacks : (s q : ℕ) → q < c.size → has s q ≡ false → eqb s (full c.size) ≡ false
  lacks s q h t = ne_eqb s (full c.size) (λ e. true≢false (sym (full_has c.size q h) ∙ ap (λ (x : ℕ). has x q) (sym e) ∙ t))

  whole : (s : ℕ) → s < 2 ^ c.size → Everyone c.size s → eqb s (full c.size) ≡ true
  whole s h all = eq-eqb s (full c.size) (full_only c.size s h all)

  some_waits : (q : ℕ) → has (c.transit p (c.site p).round) q ≡ true → waited c p ≡ true
  unfolding waited
  some_waits q t = ap not (ne_eqb (c.transit p (c.site p).round) empty (λ e. empty_none q (rw e at t)))

  none_waits : ((q : ℕ) → q < c.size → has (c.transit p (c.site p).round) q ≡ false) → waited c p ≡ false
  unfolding waited
  none_waits none = ap not (eq-eqb _ empty (empty_only c.size _ (within.transit p (c.site p).round) none))

  pub at_sending : (q : ℕ) → q < c.size → has (c.site p).sent q ≡ false → stage c p ≡ Sending
  unfolding stage sent_to_all
  at_sending q h t = rw (lacks (c.site p).sent q h t)

  pub at_collecting : Everyone c.size (c.site p).sent → (q : ℕ) → has (c.transit p (c.site p).round) q ≡ true → stage c p ≡ Collecting
  unfolding stage sent_to_all
  at_collecting all q t = rw (whole (c.site p).sent (within.sent p) all, some_waits q t)

  pub at_pending : Everyone c.size (c.site p).sent → ((q : ℕ) → q < c.size → has (c.transit p (c.site p).round) q ≡ false)
      → (q : ℕ) → q < c.size → has (c.site p).heard q ≡ false → stage c p ≡ Pending
  unfolding stage sent_to_all heard_from_all
  at_pending all none q h t = rw (whole (c.site p).sent (within.sent p) all, none_waits none, lacks (c.site p).heard q h t)

  pub at_idle : Once c → Everyone c.size (c.site p).sent → Everyone c.size (c.site p).heard → stage c p ≡ Idle
  unfolding stage sent_to_all heard_from_all
  at_idle once all heard =
      rw (whole (c.site p).sent (within.sent p) all, none_waits gone, whole (c.site p).heard (within.heard p) heard)
    where
      gone : (q : ℕ) → q < c.size → has (c.transit p (c.site p).round) q ≡ false
      gone q h = go (has (c.transit p (c.site p).round) q) refl
        where
          go : (b : Bool) → has (c.transit p (c.site p).round) q ≡ b → has (c.transit p (c.site p).round) q ≡ false
          go true e = absurd (once p (c.site p).round q refl (heard q h) e)
          go false e = e
