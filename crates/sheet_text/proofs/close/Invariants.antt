-- `close` writes line after line; before each, the piece is what is written so far and a piece from there on.
-- Assumes nothing.
use Prim.Native.Nat.{◌-◌, ◌≤◌, max}
use lib.ListN.{length}
use Rattle.lines.specs.Pieces as Pieces
use Rattle.sheet_text.proofs.Pacing.{Shut}
use Rattle.sheet_text.proofs.close.Given as goal

abbrev pub invariant-loop-k : goal.invariant-loop-k
invariant-loop-k l =
    (Shut (Pieces.closing (length l.initial.pen.out.now) (Pieces.closing_count l.run - l.from) l.number l.from l.run) l.run l.number l.initial.pen l.pen l.k)
    × (l.k ≤ max l.from l.end)
