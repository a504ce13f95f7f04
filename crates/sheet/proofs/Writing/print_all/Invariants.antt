-- `print_all` writes piece after piece; each brings it nearer to the end of the bytes.
-- Assumes nothing.
use Prim.Native.Nat.{◌≤◌}
use lib.ListN.{length, drop}
use Rattle.lines.specs.Claims.{ahead}
use Rattle.sheet.proofs.Writing.print_all.Given as goal

abbrev pub invariant-loop-p : goal.invariant-loop-p
invariant-loop-p g l = l.used ≤ length l.bytes

abbrev pub decreases-loop-p : goal.decreases-loop-p
decreases-loop-p g l = ahead l.self.stand l.self.run (drop l.used l.bytes)
