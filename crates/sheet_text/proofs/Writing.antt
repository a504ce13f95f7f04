-- Text written piece by piece, each piece behind the one before. Assumes nothing.
use Prim.Native.Nat.{ℕ, ◌+◌, ◌≤◌}
use native.Mathlib.Nat.{add-zero}
use native.Mathlib.Omega.{arith}
use mathlib.Core.Path.{◌≡◌, refl, sym, ◌∙◌}
use mathlib.Core.List.{List, [], ◌++◌}
use lib.ListN.{length, length-append}
use lib.Seq.{sets, length-sets}
use Rattle.records.proofs.Stored.{sets_sets}
use Rattle.sheet_text.specs.declared.text.Pen.{Pen}
use Rattle.sheet_text.specs.Written.{Wrote}

-- ---- what is written
pub wrote_none : {p : Pen} → p.at ≤ length p.out.now → Wrote p p []
wrote_none {p} h = record { same = refl; place = sym (add-zero p.at); bytes = refl; long = refl; within = h }

-- two texts, one behind the other, are one
pub wrote_one : {p q r : Pen} {v w : List ℕ} → Wrote p q v → Wrote q r w → Wrote p r (v ++ w)
wrote_one {p} {q} {r} {v} {w} g h = record {
  same = h.same ∙ g.same;
  place = omega (arith, g.place, h.place, length-append v w);
  bytes = rw (h.bytes, g.bytes, g.place) (sets_sets v p.out.now p.at w);
  long = h.long ∙ g.long;
  within = h.within;
}

-- ---- what the writers of fields and lines go by
pub sets_one : (l : List ℕ) (at : ℕ) (v w : List ℕ) → sets l at (v ++ w) ≡ sets (sets l at v) (at + length v) w
sets_one l at v w = sym (sets_sets v l at w)

pub ruleset writing = (length-append, length-sets, sets_one)
