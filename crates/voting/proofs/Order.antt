-- The order in which the messages are heard does not matter to the rule.
-- Assumes nothing.
use Prim.Native.Nat.{ℕ}
use mathlib.Core.Path.{◌≡◌, refl, sym, ap, ◌∙◌}
use mathlib.Core.List.{List, ◌∷◌}
use Rattle.voting.specs.declared.Message.{Message}
use Rattle.voting.specs.declared.Holding.{Holding}
use Rattle.voting.specs.declared.Tally.{Tally}
use Rattle.voting.specs.Voting.{rule}
use Rattle.voting.specs.Tally.{hear, tally, ruled}
use Rattle.voting.proofs.Tallies.{rule_tally, hear_swap}

-- the same things in another order
pub data Reordered {A : Type 0} : List A → List A → Type 0 where
  unmoved : {l : List A} → Reordered l l
  more : {a : A} {l k : List A} → Reordered l k → Reordered (a ∷ l) (a ∷ k)
  swapped : {a b : A} {l : List A} → Reordered (a ∷ b ∷ l) (b ∷ a ∷ l)
  after : {l k j : List A} → Reordered l k → Reordered k j → Reordered l j

tally_order : {ms ks : List Message} → Reordered ms ks → tally ms ≡ tally ks
unfolding tally
tally_order unmoved = refl
tally_order (more {a = m} s) = ap (λ (t : Tally). hear t m) (tally_order s)
tally_order (swapped {a = m} {b = k} {l = l}) = hear_swap (tally l) k m
tally_order (after s t) = tally_order s ∙ tally_order t

pub rule_order : (r : ℕ) (h : Holding) {ms ks : List Message} → Reordered ms ks → rule r h ms ≡ rule r h ks
rule_order r h {ms} {ks} s = sym (rule_tally r h ms) ∙ ap (ruled r h) (tally_order s) ∙ rule_tally r h ks
