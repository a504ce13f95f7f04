-- `print` writes the piece out, whole or not at all as far as the program is concerned; one that waits for room has come nearer to the end.
-- Assumes nothing.
use Prim.Native.Nat.{◌≤◌}
use lib.ListN.{length}
use Rattle.std.proofs.Common.{rules}
use Rattle.lines.specs.Pieces.{line_room}
use Rattle.sheet.proofs.Printing.{printed}
use Rattle.sheet.proofs.Writing.print.Goals as goal

pub returns-in-Ok-clause-nearer : goal.returns-in-Ok-clause-nearer
returns-in-Ok-clause-nearer g c =
    let wide : line_room ≤ length c.args.self.now.out = search rules in
    (printed _ _ _ wide c.write-p.ensures).2
