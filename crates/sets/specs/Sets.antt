-- Sets of processes as masks, as document 01 prints them: process k is bit k. Also the word that holds one in code.
-- Assumes nothing.
use Rattle.std.specs.Prelude.{ℕ, zero, suc, ◌-◌, ◌/◌, ◌%◌, ◌^◌, Bool, true, false, cond, List, [], ◌∷◌, ◌++◌, eqb, ltb}
use Rattle.std.specs.Int.Bits.{bit_and, bit_or, bit_xor}
use Rattle.std.specs.Int.Count.{count_trailing_zeros}

-- the set with no member
abbrev pub empty : ℕ
empty = 0

-- whether k is a member
unfoldable pub has : ℕ → ℕ → Bool
has s k = eqb (s / 2 ^ k % 2) 1

-- the set, with k a member
unfoldable pub with : ℕ → ℕ → ℕ
with s k = bit_or s (2 ^ k)

-- the set, with k no member
unfoldable pub without : ℕ → ℕ → ℕ
without s k = bit_xor s (bit_and s (2 ^ k))

-- the members of either
unfoldable pub union : ℕ → ℕ → ℕ
union a b = bit_or a b

-- every process below n
unfoldable pub full : ℕ → ℕ
full n = 2 ^ n - 1

-- ---- the members one by one
-- k alone where the test is true, and nothing where it is false
unfoldable pub only : Bool → ℕ → List ℕ
only true k = k ∷ []
only false k = []

-- the members below n, in ascending order
unfoldable pub members : ℕ → ℕ → List ℕ
members zero s = []
members (suc n) s = members n s ++ only (has s n) n

-- ---- a set in a word of code
-- the processes that a word has room for
abbrev pub wide : ℕ
wide = 32

-- the set with k a member, where a word has room for k
unfoldable pub with_room : ℕ → ℕ → ℕ
with_room s k = cond (ltb k wide) (with s k) s

-- every process below n that a word has room for
unfoldable pub full_room : ℕ → ℕ
full_room n = cond (ltb n wide) (full n) (full wide)

-- the least member; the number of bits of a word where there is none
unfoldable pub lowest : ℕ → ℕ
lowest s = count_trailing_zeros wide s

-- the set without its least member
unfoldable pub rest : ℕ → ℕ
rest s = bit_and s (s - 1)
