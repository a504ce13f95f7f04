-- The members of a set as a list: which processes it names, in ascending order, and that the least member and the rest give it one by one.
-- Assumes nothing.
use Prim.Native.Nat.{ℕ, zero, suc, ◌-◌, ◌/◌, ◌%◌, ◌^◌, ◌≤◌, ◌<◌}
use native.Mathlib.Nat.{pow-suc, eq-zero-or-pos, eq-or-lt_of_le, lt_of_lt_of_le, le_of_suc-le-suc}
use native.Mathlib.Omega.{arith}
use mathlib.Core.Path.{◌≡◌, refl, sym, ap, ◌∙◌, subst}
use mathlib.Core.Logic.{◌⊎◌, inl, inr, ⊎_elim}
use mathlib.Core.Bool.{Bool, true, false, ◌&&◌, not, and-true, and-false, false≢true}
use mathlib.Core.List.Memᴰ.{append_cases as among_cases}
use mathlib.Core.List.Memᴰ.{append_left as among-left}
use mathlib.Core.List.Memᴰ.{append_right as among-right}
use mathlib.Core.List.Memᴰ.{eq_of_singleton as among_one}
use mathlib.Core.List.Memᴰ.{head as here}
use mathlib.Core.List.Memᴰ.{not-nil as among_none}
use mathlib.Core.List.Memᴰ.{tail as there}
use mathlib.Core.List.{List, [], ◌∷◌, ◌++◌, append-nil, Memᴰ as Among}
use lib.Dec.{eqb, eqb-suc-zero, eqb-suc-suc}
use lib.Bits.{bit_and, and_step, and_self, and_le_r}
use lib.Count.{count_trailing_zeros}
use lib.Pow.{pow_mono}
use Rattle.sets.specs.Sets.{empty, has, only, members, lowest, rest}
use Rattle.sets.proofs.Membership.{minus_own, minus_other, has_zero, has_suc, has_empty}
use Rattle.sets.proofs.Bounds.{has_within}

-- ---- one process more to look at
pub members_more : (n s : ℕ) → has s n ≡ true → members (suc n) s ≡ members n s ++ (n ∷ [])
unfolding members only
members_more n s h = ap (λ (b : Bool). members n s ++ only b n) h

pub members_past : (n s : ℕ) → has s n ≡ false → members (suc n) s ≡ members n s
unfolding members only
members_past n s h = ap (λ (b : Bool). members n s ++ only b n) h ∙ append-nil (members n s)

-- ---- the list names the members below n
in_only : (b : Bool) (k n : ℕ) → Among k (only b n) → (k ≡ n) × (b ≡ true)
unfolding only
in_only true k n m = (among_one m, refl)
in_only false k n m = absurd (among_none m)

only_in : (b : Bool) (k n : ℕ) → k ≡ n → b ≡ true → Among k (only b n)
unfolding only
only_in true k n e h = here e
only_in false k n e h = absurd (false≢true h)

pub members_in : (n s k : ℕ) → Among k (members n s) → (k < n) × (has s k ≡ true)
unfolding members
members_in zero s k m = absurd (among_none m)
members_in (suc n) s k m =
    ⊎_elim
    (λ below. let known = members_in n s k below in (omega (arith, known.0), known.1))
    (λ last. let known = in_only (has s n) k n last in (omega (arith, known.0), ap (has s) known.0 ∙ known.1))
    (among_cases (members n s) m)

pub in_members : (n s k : ℕ) → k < n → has s k ≡ true → Among k (members n s)
unfolding members
in_members zero s k l h = absurd (omega arith)
in_members (suc n) s k l h =
    ⊎_elim
    (λ last. among-right (members n s) (only_in (has s n) k n last (ap (has s) (sym last) ∙ h)))
    (λ below. among-left (only (has s n) n) (in_members n s k below h))
    (eq-or-lt_of_le (le_of_suc-le-suc l))

-- ---- the list ascends
-- every number of the list is at least b, and each is less than the next
abbrev pub Rising : ℕ → List ℕ → Type 0
Rising b [] = Unit {0}
Rising b (x ∷ xs) = (b ≤ x) × Rising (suc x) xs

rising_more : (b n : ℕ) (xs : List ℕ) → b ≤ n → ((k : ℕ) → Among k xs → k < n) → Rising b xs → Rising b (xs ++ (n ∷ []))
rising_more b n [] l below r = (l, tt)
rising_more b n (x ∷ xs) l below r = (r.0, rising_more (suc x) n xs (below x (here refl)) (λ k m. below k (there m)) r.1)

rising_only : (x : Bool) (n : ℕ) (xs : List ℕ) → ((k : ℕ) → Among k xs → k < n) → Rising 0 xs → Rising 0 (xs ++ only x n)
unfolding only
rising_only true n xs below r = rising_more 0 n xs (omega arith) below r
rising_only false n xs below r = subst (Rising 0) (sym (append-nil xs)) r

pub members_rising : (n s : ℕ) → Rising 0 (members n s)
unfolding members
members_rising zero s = tt
members_rising (suc n) s = rising_only (has s n) n (members n s) (λ k m. (members_in n s k m).0) (members_rising n s)

-- ---- no member
none_below : (n s : ℕ) → ((k : ℕ) → k < n → has s k ≡ false) → members n s ≡ []
unfolding members
none_below zero s none = refl
none_below (suc n) s none = members_past n s (none n (omega arith)) ∙ none_below n s (λ k l. none k (omega arith))

pub members_none : (n : ℕ) → members n empty ≡ []
members_none n = none_below n empty (λ k l. has_empty k)

-- ---- the least member, in a word of any width
digit : (m : ℕ) → (m % 2 ≡ 0) ⊎ (m % 2 ≡ 1)
digit m = ⊎_elim (λ e. inl e) (λ p. inr (omega arith)) (eq-zero-or-pos (m % 2))

trailing_in : (w s : ℕ) → 0 < s → s < 2 ^ w → has s (count_trailing_zeros w s) ≡ true
unfolding count_trailing_zeros
trailing_in zero s p h = absurd (omega arith)
trailing_in (suc w) s p h =
    ⊎_elim
    (λ (e : s % 2 ≡ 0). rw (e, has_suc) (trailing_in w (s / 2) (omega arith) (omega (arith, pow-suc 2 w))))
    (λ (e : s % 2 ≡ 1). rw (e, has_zero, e))
    (digit s)

trailing_even : (w s k : ℕ) → k < count_trailing_zeros (suc w) s → s % 2 ≡ 0
unfolding count_trailing_zeros
trailing_even w s k l = ⊎_elim (λ (e : s % 2 ≡ 0). e) (λ (e : s % 2 ≡ 1). let none = rw e at l in absurd (omega arith)) (digit s)

trailing_least : (w s k : ℕ) → k < count_trailing_zeros w s → has s k ≡ false
unfolding count_trailing_zeros
trailing_least zero s k l = absurd (omega arith)
trailing_least (suc w) s zero l = has_zero s ∙ ap (λ (x : ℕ). eqb x 1) (trailing_even w s 0 l)
trailing_least (suc w) s (suc k) l = has_suc s k ∙ trailing_least w (s / 2) k (le_of_suc-le-suc (rw (trailing_even w s (suc k) l) at l))

trailing_rest : (w s k : ℕ) → 0 < s → s < 2 ^ w → has (bit_and s (s - 1)) k ≡ (has s k && not (eqb k (count_trailing_zeros w s)))
unfolding count_trailing_zeros
trailing_rest zero s k p h = absurd (omega arith)
trailing_rest (suc w) s zero p h =
    let clear : bit_and s (s - 1) % 2 ≡ 0 = omega (arith, and_step s (s - 1)) in
    has_zero (bit_and s (s - 1))
    ∙ ap (λ (x : ℕ). eqb x 1) clear
    ∙ ⊎_elim (λ (e : s % 2 ≡ 0). rw (has_zero s, e)) (λ (e : s % 2 ≡ 1). rw e (sym (and-false (has s 0)))) (digit s)
trailing_rest (suc w) s (suc k) p h =
    let half : bit_and s (s - 1) / 2 ≡ bit_and (s / 2) ((s - 1) / 2) = omega (arith, and_step s (s - 1)) in
    has_suc (bit_and s (s - 1)) k
    ∙ ⊎_elim
    (λ (e : s % 2 ≡ 0).
    let borrowed : (s - 1) / 2 ≡ s / 2 - 1 = omega arith in
    rw (half, borrowed, e, has_suc, eqb-suc-suc) (trailing_rest w (s / 2) k (omega arith) (omega (arith, pow-suc 2 w))))
    (λ (e : s % 2 ≡ 1).
    let same : (s - 1) / 2 ≡ s / 2 = omega arith in
    rw (half, same, and_self, e, has_suc, eqb-suc-zero) (sym (and-true (has (s / 2) k))))
    (digit s)

pub lowest_in : (s : ℕ) → 0 < s → s < 2 ^ 32 → has s (lowest s) ≡ true
unfolding lowest
lowest_in s p h = trailing_in 32 s p h

pub lowest_least : (s k : ℕ) → k < lowest s → has s k ≡ false
unfolding lowest
lowest_least s k l = trailing_least 32 s k l

pub has_rest : (s k : ℕ) → 0 < s → s < 2 ^ 32 → has (rest s) k ≡ (has s k && not (eqb k (lowest s)))
unfolding lowest rest
has_rest s k p h = trailing_rest 32 s k p h

pub rest_less : (s : ℕ) → 0 < s → rest s < s
unfolding rest
rest_less s p = omega (arith, and_le_r s (s - 1))

-- ---- the least member comes first in the list, and then the rest
rest_other : (s k : ℕ) → 0 < s → s < 2 ^ 32 → (k ≡ lowest s → ⊥) → has (rest s) k ≡ has s k
rest_other s k p h n = has_rest s k p h ∙ minus_other (has s k) k (lowest s) n

rest_least : (s k : ℕ) → 0 < s → s < 2 ^ 32 → k ≤ lowest s → has (rest s) k ≡ false
rest_least s k p h l =
    ⊎_elim
    (λ (e : k ≡ lowest s). has_rest s k p h ∙ minus_own (has s k) k (lowest s) e)
    (λ (m : k < lowest s). rest_other s k p h (λ e. omega arith) ∙ lowest_least s k m)
    (eq-or-lt_of_le l)

first_then_rest : (n s : ℕ) → 0 < s → s < 2 ^ 32 → lowest s < n → members n s ≡ lowest s ∷ members n (rest s)
unfolding members
first_then_rest zero s p h l = absurd (omega arith)
first_then_rest (suc n) s p h l =
    ⊎_elim
    (λ (e : lowest s ≡ n).
    members_more n s (ap (has s) (sym e) ∙ lowest_in s p h)
    ∙ ap (λ (xs : List ℕ). xs ++ (n ∷ [])) (none_below n s (λ k m. lowest_least s k (omega arith)))
    ∙ ap (λ (k : ℕ). k ∷ []) (sym e)
    ∙ ap (λ (xs : List ℕ). lowest s ∷ xs) (sym (none_below (suc n) (rest s) (λ k m. rest_least s k p h (omega arith)))))
    (λ (m : lowest s < n).
    rw (rest_other s n p h (λ e. omega arith)) (ap (λ (xs : List ℕ). xs ++ only (has s n) n) (first_then_rest n s p h m)))
    (eq-or-lt_of_le (le_of_suc-le-suc l))

pub members_next : (n s : ℕ) → n ≤ 32 → 0 < s → s < 2 ^ n → members n s ≡ lowest s ∷ members n (rest s)
members_next n s fits p h =
    let wide : s < 2 ^ 32 = lt_of_lt_of_le h (pow_mono fits) in
    first_then_rest n s p wide (has_within n s (lowest s) h (lowest_in s p wide))
