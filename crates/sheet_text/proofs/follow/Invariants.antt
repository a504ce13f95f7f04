-- `follow` takes a turn for each record, sends and receives all at once; before each, the piece is what is written so far and a piece from there on.
-- Assumes nothing.
use Prim.Native.Nat.{◌-◌}
use lib.ListN.{length}
use Rattle.lines.specs.Pieces as Pieces
use Rattle.sheet_text.proofs.Pacing.{Along}
use Rattle.sheet_text.proofs.follow.Given as goal

abbrev pub invariant-loop-here : goal.invariant-loop-here
invariant-loop-here l =
    Along l.last (Pieces.follow l.last (length l.initial.pen.out.now) 0 l.initial.here l.initial.run l.bytes) l.bytes l.here l.run l.initial.pen l.pen l.used

abbrev pub decreases-loop-here : goal.decreases-loop-here
decreases-loop-here l = length l.bytes - l.used
