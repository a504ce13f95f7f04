-- Bytes stored one after the other from a place on: two runs of stores in a row are one, and from the first place on they stand before what is left.
-- Assumes nothing.
use Prim.Native.Nat.{ℕ, suc, ◌+◌, ◌≤◌}
use native.Mathlib.Omega.{arith}
use mathlib.Core.Path.{◌≡◌}
use mathlib.Core.List.{List, [], ◌∷◌, ◌++◌}
use lib.ListN.{length, set}
use lib.Seq.{sets, sets-eq}
use Rattle.records.specs.Stored.{over}

-- ---- stores in a row
pub sets_sets : (v l : List ℕ) (at : ℕ) (w : List ℕ) → sets (sets l at v) (at + length v) w ≡ sets l at (v ++ w)
sets_sets [] l at w = let e : at + 0 ≡ at = omega arith in rw e
sets_sets (x ∷ v) l at w = let e : at + suc (length v) ≡ suc at + length v = omega arith in rw e (sets_sets v (set l at x) (suc at) w)

-- ---- from the first place on
pub sets_over : (w l : List ℕ) → length w ≤ length l → sets l 0 w ≡ over w l
unfolding over
sets_over w l h = let e : 0 + length w ≡ length w = omega arith in rw e at (sets-eq w l 0 (omega arith))
