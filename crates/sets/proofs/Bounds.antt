-- Sets of processes below n are the numbers below 2 ^ n: each operation keeps to them, and two with the same members are equal.
-- Assumes nothing.
use Prim.Native.Nat.{ℕ, zero, suc, ◌*◌, ◌/◌, ◌%◌, ◌^◌, ◌≤◌, ◌<◌}
use native.Mathlib.Nat.{pow-suc, div-eq_of_lt, one-mul, lt_of_lt_of_le, lt_of_not-le}
use native.Mathlib.Omega.{arith}
use mathlib.Core.Path.{◌≡◌, refl, sym, ap, ◌∙◌}
use mathlib.Core.Bool.{true, false, false≢true, true≢false}
use lib.Dec.{eqb}
use lib.Bits.{bit_and, or_lt, xor_lt, and_le_l}
use lib.Pow.{pow_pos, pow-lt, pow_mono, ones_lt, shl_exact}
use Rattle.sets.specs.Sets.{empty, has, with, without, union, full}
use Rattle.sets.proofs.Membership.{digits, has_zero, has_suc, has_empty, full_has, without_other}

-- ---- each operation keeps to the processes below n
pub with_below : (n s k : ℕ) → s < 2 ^ n → k < n → with s k < 2 ^ n
unfolding with
with_below n s k h l = or_lt n s (2 ^ k) h (pow-lt l)

pub without_below : (n s k : ℕ) → s < 2 ^ n → without s k < 2 ^ n
unfolding without
without_below n s k h = xor_lt n s (bit_and s (2 ^ k)) h (omega (arith, and_le_l s (2 ^ k)))

pub union_below : (n a b : ℕ) → a < 2 ^ n → b < 2 ^ n → union a b < 2 ^ n
unfolding union
union_below n a b h g = or_lt n a b h g

pub full_below : (n : ℕ) → full n < 2 ^ n
unfolding full
full_below n = ones_lt n

pub empty_below : (n : ℕ) → empty < 2 ^ n
empty_below n = pow_pos n

-- ---- no member lies beyond
pub has_beyond : (n s k : ℕ) → s < 2 ^ n → n ≤ k → has s k ≡ false
unfolding has
has_beyond n s k h l = ap (λ (x : ℕ). eqb (x % 2) 1) (div-eq_of_lt (lt_of_lt_of_le h (pow_mono l)))

pub has_within : (n s k : ℕ) → s < 2 ^ n → has s k ≡ true → k < n
has_within n s k h t = lt_of_not-le (λ l. false≢true (sym (has_beyond n s k h l) ∙ t))

-- ---- the members are all there is to a set
-- a digit is known by whether it is set
same_digit : (x y : ℕ) → x < 2 → y < 2 → eqb x 1 ≡ eqb y 1 → x ≡ y
same_digit = digits (λ x y. eqb x 1 ≡ eqb y 1 → x ≡ y) (λ e. refl) (λ e. absurd (false≢true e)) (λ e. absurd (true≢false e)) (λ e. refl)

pub same_members : (n a b : ℕ) → a < 2 ^ n → b < 2 ^ n → ((k : ℕ) → k < n → has a k ≡ has b k) → a ≡ b
same_members zero a b h g same = omega arith
same_members (suc n) a b h g same =
    let high : a / 2 ≡ b / 2 =
    same_members n (a / 2) (b / 2) (omega (arith, pow-suc 2 n)) (omega (arith, pow-suc 2 n))
    (λ k l. sym (has_suc a k) ∙ same (suc k) (omega arith) ∙ has_suc b k)
    in
    let low : a % 2 ≡ b % 2 = same_digit (a % 2) (b % 2) (omega arith) (omega arith) (sym (has_zero a) ∙ same 0 (omega arith) ∙ has_zero b) in
    omega arith

pub full_only : (n s : ℕ) → s < 2 ^ n → ((k : ℕ) → k < n → has s k ≡ true) → s ≡ full n
full_only n s h all = same_members n s (full n) h (full_below n) (λ k l. all k l ∙ sym (full_has n k l))

pub empty_only : (n s : ℕ) → s < 2 ^ n → ((k : ℕ) → k < n → has s k ≡ false) → s ≡ empty
empty_only n s h all = same_members n s empty h (empty_below n) (λ k l. all k l ∙ sym (has_empty k))

-- a process beyond is no member, so nothing changes where it leaves
pub without_beyond : (n s k : ℕ) → s < 2 ^ n → n ≤ k → without s k ≡ s
without_beyond n s k h l = same_members n (without s k) s (without_below n s k h) h (λ j m. without_other s k j (λ e. omega arith))

-- ---- what the code's `1 << k` is
pub one_shifted : (k : ℕ) → k < 32 → 1 * 2 ^ k % 2 ^ 32 ≡ 2 ^ k
one_shifted k h = shl_exact 1 k 32 (omega arith) (omega arith) ∙ one-mul (2 ^ k)
