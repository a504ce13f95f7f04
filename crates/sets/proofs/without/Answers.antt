-- A process from 32 on is no member.
-- Assumes nothing.
use mathlib.Core.Path.{sym}
use native.Mathlib.Omega.{arith}
use Rattle.sets.proofs.Bounds.{without_beyond}
use Rattle.sets.proofs.without.Goals as goal

pub returns-then-k-ge32 : goal.returns-then-k-ge32
returns-then-k-ge32 c = sym (without_beyond 32 c.args.set c.args.k (omega arith) c.if-k-ge32.true)
