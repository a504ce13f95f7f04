-- Numbers in decimal, by their last digit or their last two, and the writing of them. Assumes nothing.
use Prim.Native.Nat.{ℕ, zero, suc, ◌/◌, ◌%◌, ◌≤◌, ◌<◌}
use native.Mathlib.Decide.{le_ind}
use native.Mathlib.Omega.{arith}
use mathlib.Core.Path.{◌≡◌, refl, sym, ap, ◌∙◌}
use mathlib.Core.List.{List, [], ◌∷◌, ◌++◌, append_assoc}
use lib.ListN.{length-append, length-set}
use lib.Seq.{length-sets}
use Rattle.lines.specs.Text.{glyph, digits, decimal}
use Rattle.sheet_text.proofs.Writing.{sets_one}

-- ---- one digit, or the last digit behind those of the tenth
digits_none : (k : ℕ) → digits k 0 ≡ []
unfolding digits
digits_none zero = refl
digits_none (suc k) = refl

-- room for more digits than there are changes nothing
digits_more : (k n : ℕ) → n ≤ k → digits (suc k) n ≡ digits k n
unfolding digits
digits_more zero zero h = refl
digits_more zero (suc n) h = absurd (omega arith)
digits_more (suc k) zero h = refl
digits_more (suc k) (suc n) h = ap (λ (w : List ℕ). w ++ (glyph (suc n % 10) ∷ [])) (digits_more k (suc n / 10) (omega arith))

digits_enough : (k n : ℕ) → n ≤ k → digits k n ≡ digits n n
digits_enough k n h = le_ind (λ (j : ℕ). digits j n ≡ digits n n) refl (λ j l e. digits_more j n l ∙ e) k h

digits_some : (n : ℕ) → 0 < n → digits n n ≡ decimal n
unfolding digits decimal
digits_some zero h = absurd (omega arith)
digits_some (suc n) h = ap (λ (w : List ℕ). w ++ (glyph (suc n % 10) ∷ [])) (sym (digits_more n (suc n / 10) (omega arith)))

pub decimal_one : (n : ℕ) → n < 10 → decimal n ≡ glyph n ∷ []
unfolding decimal
decimal_one n h =
    let none : n / 10 ≡ 0 = omega arith in
    let same : n % 10 ≡ n = omega arith in
    rw (none, same, digits_none n)

pub decimal_more : (n : ℕ) → 10 ≤ n → decimal n ≡ decimal (n / 10) ++ (glyph (n % 10) ∷ [])
unfolding decimal
decimal_more n h = ap (λ (w : List ℕ). w ++ (glyph (n % 10) ∷ [])) (digits_enough n (n / 10) (omega arith) ∙ digits_some (n / 10) (omega arith))

-- both digits of a number below a hundred
abbrev pub two : ℕ → List ℕ
two n = glyph (n / 10) ∷ glyph (n % 10) ∷ []

-- two digits, or the last two behind those of the hundredth
pub decimal_two : (n : ℕ) → 10 ≤ n → n < 100 → decimal n ≡ two n
decimal_two n h g = rw (decimal_more n h, decimal_one (n / 10) (omega arith))

pub decimal_hundreds : (n : ℕ) → 100 ≤ n → decimal n ≡ decimal (n / 100) ++ two (n % 100)
decimal_hundreds n h =
    let hundreds : n / 10 / 10 ≡ n / 100 = omega arith in
    let tens : n / 10 % 10 ≡ n % 100 / 10 = omega arith in
    let ones : n % 10 ≡ n % 100 % 10 = omega arith in
    rw (decimal_more n (omega arith), decimal_more (n / 10) (omega arith), hundreds, tens, ones)
    (append_assoc (decimal (n / 100)) (glyph (n % 100 / 10) ∷ []) (glyph (n % 100 % 10) ∷ []))

-- ---- what the writer of a number goes by
pub ruleset writing_digits = (length-append, length-set, length-sets, sets_one, decimal_one, decimal_two, decimal_hundreds)
