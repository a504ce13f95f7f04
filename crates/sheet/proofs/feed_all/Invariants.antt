-- `feed_all` feeds until the sheet is whole; what is held leaves room to read on.
-- Assumes nothing.
use Prim.Native.Nat.{◌<◌}
use Rattle.records.specs.Records.{longest}
use Rattle.sheet.proofs.feed_all.Given as goal

abbrev pub invariant-loop : goal.invariant-loop
invariant-loop g l = l.held.len < longest
