-- What writing 0 over words one by one leaves: where all of them are written, as many zeros. Assumes nothing.
use Rattle.std.proofs.Common.{◌≡◌, ℕ, zero, suc, List, [], ◌∷◌, length, set, replicate, refl, ap, ◌∙◌}

-- ---- the first i words are 0
unfoldable pub zeroed : ℕ → List ℕ → List ℕ
zeroed zero l = l
zeroed (suc i) l = set (zeroed i l) i 0

zeroed_more : (i x : ℕ) (l : List ℕ) → zeroed (suc i) (x ∷ l) ≡ 0 ∷ zeroed i l
unfolding zeroed
zeroed_more zero x l = refl
zeroed_more (suc i) x l = ap (λ (k : List ℕ). set k (suc i) 0) (zeroed_more i x l)

pub zeroed_all : (l : List ℕ) → zeroed (length l) l ≡ replicate (length l) 0
unfolding zeroed
zeroed_all [] = refl
zeroed_all (x ∷ l) = zeroed_more (length l) x l ∙ ap (λ (k : List ℕ). 0 ∷ k) (zeroed_all l)
