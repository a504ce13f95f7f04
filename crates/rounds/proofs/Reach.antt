-- The reach of a process never shrinks, and it is in it itself.
-- Assumes nothing.
use Prim.Native.Nat.{ℕ}
use mathlib.Core.Path.{◌≡◌}
use mathlib.Core.Bool.{true}
use mathlib.Core.List.{List, [], ◌∷◌}
use Rattle.sets.specs.Sets.{has, union}
use Rattle.sets.proofs.Membership.{in_left, with_own}
use Rattle.rounds.specs.Config.{Control, Content, open_control}
use Rattle.rounds.specs.Stages.{tick}
use Rattle.rounds.specs.Events.{send_control, receive_control, gathered, step_control}
use Rattle.rounds.specs.Runs.{Report}
use Rattle.rounds.specs.Course.{Course, FromOpening}
use Rattle.rounds.proofs.Updates.{at_one}
use Rattle.rounds.proofs.Kept.{Kept, kept}

-- every member of the first is one of the second
abbrev pub Inside : ℕ → ℕ → Type 0
Inside s t = (q : ℕ) → has s q ≡ true → has t q ≡ true

-- what is gathered holds what was there
pub gathered_keeps : (qs : List ℕ) (f : ℕ → ℕ) (s : ℕ) → Inside s (gathered qs f s)
unfolding gathered
gathered_keeps [] f s k t = t
gathered_keeps (q ∷ qs) f s k t = gathered_keeps qs f (union s (f q)) k (in_left s (f q) k t)

grows : (c₀ : Control) → Kept (λ c d. (x : ℕ) → Inside (c₀.site x).reach (c.site x).reach)
unfolding send_control receive_control step_control tick
grows c₀ =
    record {
      send = λ c d p q h k. at_one (λ x s. Inside (c₀.site x).reach s.reach) c.site p _ (k p) k;
      receive = λ c d p q h k. at_one (λ x s. Inside (c₀.site x).reach s.reach) c.site p _ (k p) k;
      step = λ c d p h k.
          at_one (λ x s. Inside (c₀.site x).reach s.reach) c.site p _ (λ y t. gathered_keeps _ _ _ y (k p y t)) k;
    }

pub reach_grows : {c₀ : Control} {d₀ : Content} {c : Control} {d : Content} {rs : List Report} → Course c₀ d₀ c d rs
    → (x : ℕ) → Inside (c₀.site x).reach (c.site x).reach
reach_grows {c₀ = c₀} l = kept _ (grows c₀) l (λ x y t. t)

pub own_reach : (n : ℕ) (v : ℕ → ℕ) {c : Control} {d : Content} {rs : List Report} → FromOpening n v c d rs → (x : ℕ) → has (c.site x).reach x ≡ true
unfolding open_control
own_reach n v l x = reach_grows l x x (with_own _ x)
