-- Bytes that are cut short are fewer than those of the longest record: so a buffer of that many bytes has room for more of them.
-- Assumes nothing.
use Prim.Native.Nat.{ℕ, ◌+◌, ◌*◌, ◌<◌}
use native.Mathlib.Omega.{arith}
use mathlib.Core.Path.{◌≡◌, subst}
use mathlib.Core.List.{List}
use lib.ListN.{length, get_or, drop}
use lib.Seq.{get_or-drop}
use Rattle.std.specs.Prelude.{Some, None, Ok, Err}
use Rattle.records.specs.declared.Place.{Place}
use Rattle.records.specs.declared.Place.TheVariants.{First, Later, Behind}
use Rattle.records.specs.Records.{Reading, parse, longest}
use Rattle.records.proofs.Whole.{holds_first, holds_later, holds_behind}

-- ---- n is below the longest where a record is cut
Short : ℕ → Reading → Type 0
Short n (Err f) = Unit {0}
Short n (Ok None) = n < longest
Short n (Ok (Some r)) = Unit {0}

-- ---- the fourth byte is one: it may be the N of an opening
module _ (w : List ℕ) (byte : get_or w 3 0 < 256) where
  few : length w < 5 → Short (length w) (Ok None)
  unfolding Short
  few l = omega arith

  lacks : length w < 4 + 4 * get_or (drop 3 w) 0 0 → Short (length w) (Ok None)
  unfolding Short
  lacks l = let n : get_or (drop 3 w) 0 0 < 256 = rw (get_or-drop 3 w 0 0) byte in omega arith

  short : (pl : Place) → Short (length w) (parse pl w)
  unfolding Short
  short First = holds_first w (Short (length w)) few lacks (λ f. tt) (λ h. tt)
  short Later = holds_later w (Short (length w)) few lacks (λ f. tt) (λ t b h. tt)
  short Behind = holds_behind w (Short (length w)) few lacks (λ f. tt)

pub cut_short : (pl : Place) (w : List ℕ) → get_or w 3 0 < 256 → parse pl w ≡ Ok None → length w < longest
unfolding Short
cut_short pl w s e = subst (Short (length w)) e (short w s pl)
