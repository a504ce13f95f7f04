-- `hasten_all` goes over the records that are accepted: what is taken of all the bytes is what was taken so far, and what is taken of those that are left.
-- Assumes nothing.
use lib.ListN.{length}
use Rattle.trace.proofs.Hastening.{Hastened}
use Rattle.trace.proofs.hasten_all.Given as goal

abbrev pub invariant-loop-rest : goal.invariant-loop-rest
invariant-loop-rest l = Hastened l.initial.run l.bytes l.run l.rest

abbrev pub decreases-loop-rest : goal.decreases-loop-rest
decreases-loop-rest l = length l.rest
