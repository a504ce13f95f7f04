-- Which processes a set has, after each operation and for every process number.
-- Assumes nothing.
use Prim.Native.Nat.{ℕ, zero, suc, ◌+◌, ◌-◌, ◌*◌, ◌/◌, ◌%◌, ◌^◌, ◌<◌}
use native.Mathlib.Nat.{pow-succ', div-div-eq-div-mul, mod-lt, div-one, div-eq_of_lt, mul-mod_left, pow-suc, mul-div-mul_right, zero-div}
use native.Mathlib.Omega.{arith}
use mathlib.Core.Path.{◌≡◌, refl, sym, ap, ◌∙◌}
use mathlib.Core.Logic.{◌⊎◌, inl, inr, ⊎_map}
use mathlib.Core.Bool.{Bool, true, false, ◌||◌, ◌&&◌, not, beq, or-true, or-false, and-true, and-false, false≢true}
use lib.Dec.{eqb, ltb, leb-suc-suc, lit<, eqb-zero-suc, eqb-suc-zero, eqb-suc-suc}
use lib.Bits.{bit_and, bit_or, bit_xor, or_shr, or_mod, and_shr, and_mod, xor_shr, xor_mod}
use lib.Pow.{pow_pos, pow-lt}
use lib.Arith.{dbl_pred, digits_div, digits_mod}
use borrow.Author.Tests.{le-ltb, lt-ltb, eqb-true, eq-eqb, ne_eqb}
use Rattle.sets.specs.Sets.{empty, has, with, without, union, full}

-- ---- the digits one by one
pub has_zero : (s : ℕ) → has s 0 ≡ eqb (s % 2) 1
unfolding has
has_zero s = ap (λ (x : ℕ). eqb (x % 2) 1) (div-one s)

pub has_suc : (s k : ℕ) → has s (suc k) ≡ has (s / 2) k
unfolding has
has_suc s k = ap (λ (x : ℕ). eqb (x % 2) 1) (ap (λ (x : ℕ). s / x) (pow-succ' 2 k) ∙ sym (div-div-eq-div-mul s 2 (2 ^ k)))

-- a law of two digits, from its four cases
pub digits : (P : ℕ → ℕ → Type 0) → P 0 0 → P 0 1 → P 1 0 → P 1 1 → (x y : ℕ) → x < 2 → y < 2 → P x y
digits P p q r t zero zero h g = p
digits P p q r t zero (suc zero) h g = q
digits P p q r t zero (suc (suc y)) h g = absurd (omega arith)
digits P p q r t (suc zero) zero h g = r
digits P p q r t (suc zero) (suc zero) h g = t
digits P p q r t (suc zero) (suc (suc y)) h g = absurd (omega arith)
digits P p q r t (suc (suc x)) y h g = absurd (omega arith)

-- an operation on two sets that goes digit by digit, as `f` does on two tests
digitwise : (op : ℕ → ℕ → ℕ) (f : Bool → Bool → Bool)
    → ((a b k : ℕ) → op a b / 2 ^ k ≡ op (a / 2 ^ k) (b / 2 ^ k))
    → ((a b k : ℕ) → op a b % 2 ^ k ≡ op (a % 2 ^ k) (b % 2 ^ k))
    → ((x y : ℕ) → x < 2 → y < 2 → eqb (op x y) 1 ≡ f (eqb x 1) (eqb y 1))
    → (a b k : ℕ) → has (op a b) k ≡ f (has a k) (has b k)
unfolding has
digitwise op f high low digit a b k =
    ap (λ (x : ℕ). eqb (x % 2) 1) (high a b k)
    ∙ ap (λ (x : ℕ). eqb x 1) (low (a / 2 ^ k) (b / 2 ^ k) 1)
    ∙ digit (a / 2 ^ k % 2) (b / 2 ^ k % 2) (mod-lt (a / 2 ^ k) (lit< tt)) (mod-lt (b / 2 ^ k) (lit< tt))

has_and : (a b k : ℕ) → has (bit_and a b) k ≡ (has a k && has b k)
has_and = digitwise bit_and ◌&&◌ and_shr and_mod (digits (λ x y. eqb (bit_and x y) 1 ≡ (eqb x 1 && eqb y 1)) refl refl refl refl)

has_xor : (a b k : ℕ) → has (bit_xor a b) k ≡ not (beq (has a k) (has b k))
has_xor =
    digitwise bit_xor (λ p q. not (beq p q)) xor_shr xor_mod (digits (λ x y. eqb (bit_xor x y) 1 ≡ not (beq (eqb x 1) (eqb y 1))) refl refl refl refl)

-- ---- the members of either
pub has_union : (a b k : ℕ) → has (union a b) k ≡ (has a k || has b k)
unfolding union
has_union = digitwise bit_or ◌||◌ or_shr or_mod (digits (λ x y. eqb (bit_or x y) 1 ≡ (eqb x 1 || eqb y 1)) refl refl refl refl)

pub in_left : (a b k : ℕ) → has a k ≡ true → has (union a b) k ≡ true
in_left a b k h = has_union a b k ∙ ap (λ (x : Bool). x || has b k) h

pub in_right : (a b k : ℕ) → has b k ≡ true → has (union a b) k ≡ true
in_right a b k h = has_union a b k ∙ ap (λ (x : Bool). has a k || x) h ∙ or-true (has a k)

-- ---- one process
has_power : (k j : ℕ) → has (2 ^ k) j ≡ eqb j k
unfolding has
has_power zero zero = refl
has_power zero (suc j) = ap (λ (x : ℕ). eqb (x % 2) 1) (div-eq_of_lt (pow-lt {i = 0} {j = suc j} (omega arith))) ∙ sym (eqb-suc-zero j)
has_power (suc k) zero =
    ap (λ (x : ℕ). eqb (x % 2) 1) (div-one (2 ^ suc k) ∙ pow-suc 2 k) ∙ ap (λ (x : ℕ). eqb x 1) (mul-mod_left (2 ^ k) 2) ∙ sym (eqb-zero-suc k)
has_power (suc k) (suc j) =
    rw (pow-suc 2 k, pow-suc 2 j, mul-div-mul_right (2 ^ k) (2 ^ j) (lit< tt), eqb-suc-suc j k) (has_power k j)

-- ---- a process that joins
pub has_with : (s k j : ℕ) → has (with s k) j ≡ (has s j || eqb j k)
unfolding with union
has_with s k j = has_union s (2 ^ k) j ∙ ap (λ (b : Bool). has s j || b) (has_power k j)

pub with_own : (s k : ℕ) → has (with s k) k ≡ true
with_own s k = has_with s k k ∙ ap (λ (b : Bool). has s k || b) (eq-eqb k k refl) ∙ or-true (has s k)

pub with_kept : (s k j : ℕ) → has s j ≡ true → has (with s k) j ≡ true
with_kept s k j h = has_with s k j ∙ ap (λ (b : Bool). b || eqb j k) h

pub with_other : (s k j : ℕ) → (j ≡ k → ⊥) → has (with s k) j ≡ has s j
with_other s k j n = has_with s k j ∙ ap (λ (b : Bool). has s j || b) (ne_eqb j k n) ∙ or-false (has s j)

or_cases : (a b : Bool) → (a || b) ≡ true → (a ≡ true) ⊎ (b ≡ true)
or_cases true b t = inl refl
or_cases false b t = inr t

pub with_cases : (s k j : ℕ) → has (with s k) j ≡ true → (has s j ≡ true) ⊎ (j ≡ k)
with_cases s k j h = ⊎_map (λ i. i) (eqb-true j k) (or_cases (has s j) (eqb j k) (sym (has_with s k j) ∙ h))

-- ---- a process that leaves
xor_and : (a b : Bool) → not (beq a (a && b)) ≡ (a && not b)
xor_and true true = refl
xor_and true false = refl
xor_and false b = refl

pub minus_own : (b : Bool) (j k : ℕ) → j ≡ k → (b && not (eqb j k)) ≡ false
minus_own b j k e = ap (λ (t : Bool). b && not t) (eq-eqb j k e) ∙ and-false b

pub minus_other : (b : Bool) (j k : ℕ) → (j ≡ k → ⊥) → (b && not (eqb j k)) ≡ b
minus_other b j k n = ap (λ (t : Bool). b && not t) (ne_eqb j k n) ∙ and-true b

pub has_without : (s k j : ℕ) → has (without s k) j ≡ (has s j && not (eqb j k))
unfolding without
has_without s k j =
    has_xor s (bit_and s (2 ^ k)) j
    ∙ ap (λ (b : Bool). not (beq (has s j) b)) (has_and s (2 ^ k) j ∙ ap (λ (b : Bool). has s j && b) (has_power k j))
    ∙ xor_and (has s j) (eqb j k)

pub without_own : (s k : ℕ) → has (without s k) k ≡ false
without_own s k = has_without s k k ∙ minus_own (has s k) k k refl

pub without_other : (s k j : ℕ) → (j ≡ k → ⊥) → has (without s k) j ≡ has s j
without_other s k j n = has_without s k j ∙ minus_other (has s j) j k n

and_left : (a b : Bool) → (a && b) ≡ true → a ≡ true
and_left true b t = refl
and_left false b t = t

pub without_was : (s k j : ℕ) → has (without s k) j ≡ true → has s j ≡ true
without_was s k j h = and_left (has s j) (not (eqb j k)) (sym (has_without s k j) ∙ h)

-- ---- no process, and every process below n
pub has_empty : (k : ℕ) → has empty k ≡ false
unfolding has
has_empty k = rw zero-div

pub empty_none : (k : ℕ) → has empty k ≡ true → ⊥
empty_none k h = false≢true (sym (has_empty k) ∙ h)

full_suc : (n : ℕ) → full (suc n) ≡ full n * 2 + 1
unfolding full
full_suc n = ap (λ (x : ℕ). x - 1) (pow-suc 2 n) ∙ dbl_pred (pow_pos n)

pub has_full : (n k : ℕ) → has (full n) k ≡ ltb k n
unfolding full
has_full zero k = has_empty k ∙ sym (le-ltb k 0 (omega arith))
has_full (suc n) zero =
    ap (λ (x : ℕ). has x 0) (full_suc n)
    ∙ has_zero (full n * 2 + 1)
    ∙ ap (λ (x : ℕ). eqb x 1) (digits_mod (full n) (lit< tt))
    ∙ sym (lt-ltb 0 (suc n) (omega arith))
has_full (suc n) (suc k) =
    ap (λ (x : ℕ). has x (suc k)) (full_suc n)
    ∙ has_suc (full n * 2 + 1) k
    ∙ ap (λ (x : ℕ). has x k) (digits_div (full n) (lit< tt))
    ∙ has_full n k
    ∙ sym (leb-suc-suc (suc k) n)

pub full_has : (n k : ℕ) → k < n → has (full n) k ≡ true
full_has n k h = has_full n k ∙ lt-ltb k n h
