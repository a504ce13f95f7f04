-- `replay` takes a turn for each record: what is ahead of the bytes that are left is what is ahead of the whole trace.
-- Assumes nothing.
use lib.ListN.{length}
use Rattle.trace.proofs.Looping.{ComeTo}
use Rattle.trace.proofs.replay.Given as goal

abbrev pub invariant-loop-gone : goal.invariant-loop-gone
invariant-loop-gone l = ComeTo l.trace l.place l.run l.rest

abbrev pub decreases-loop-gone : goal.decreases-loop-gone
decreases-loop-gone l = length l.rest
