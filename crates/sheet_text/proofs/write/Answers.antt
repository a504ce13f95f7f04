-- The bytes at hand are nothing to the lines that follow the `h` lines.
-- Assumes nothing.
use Rattle.lines.specs.Pieces as Pieces
use Rattle.sheet_text.proofs.Pacing.{any_bytes}
use Rattle.sheet_text.proofs.write.Goals as goal

pub returns-in-Closes : goal.returns-in-Closes
unfolding Pieces.piece
returns-in-Closes c = rw c.in-Closes.is (any_bytes _ _ _ _ _ c.close.ensures)
