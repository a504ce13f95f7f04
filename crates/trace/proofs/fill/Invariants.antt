-- `fill` goes over the values; those before are the words of the bytes.
-- Assumes nothing.
use Rattle.std.proofs.Common.{◌≡◌, take}
use Rattle.records.specs.Script.{words}
use Rattle.trace.proofs.fill.Given as goal

abbrev pub invariant-loop-i : goal.invariant-loop-i
invariant-loop-i l = take l.i l.values ≡ words l.i l.bytes
