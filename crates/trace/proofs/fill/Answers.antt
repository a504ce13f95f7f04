-- What is left to show of `fill`; Invariants.antt says how it goes.
-- Assumes nothing.
use Rattle.std.proofs.Common.{◌≡◌, ℕ, ◌+◌, ◌*◌, ◌<◌, List, length, take, set, add-one, refl, arith}
use lib.Seq.{take-suc-set}
use Rattle.records.specs.Script.{word, words}
use Rattle.trace.proofs.fill.Goals as goal

filled : (v b : List ℕ) (i x : ℕ) → i < length v → take i v ≡ words i b → x ≡ word b (4 * i) → take (i + 1) (set v i x) ≡ words (i + 1) b
unfolding words
filled v b i x l e q = rw (add-one, take-suc-set v i x l, e, q)

pub loop-i-init : goal.loop-i-init
unfolding words
loop-i-init c = refl

pub loop-i-preserved : goal.loop-i-preserved
loop-i-preserved c = filled _ _ _ _ (omega arith) c.loop-i.invariant c.word.ensures
