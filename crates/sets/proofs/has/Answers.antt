-- A set in a word has no member from 32 on.
-- Assumes nothing.
use mathlib.Core.Path.{sym}
use native.Mathlib.Omega.{arith}
use Rattle.sets.proofs.Bounds.{has_beyond}
use Rattle.sets.proofs.has.Goals as goal

pub returns-then-k-ge32 : goal.returns-then-k-ge32
returns-then-k-ge32 c = sym (has_beyond 32 c.args.set c.args.k (omega arith) c.if-k-ge32.true)
