-- `follow` goes over the list up to the first event that is refused; at each the rest of the list comes to what the whole list comes to.
-- Assumes nothing.
use Rattle.listed.proofs.Turning.{Remains}
use Rattle.listed.proofs.follow.Given as goal

abbrev pub invariant-loop-e : goal.invariant-loop-e
invariant-loop-e l = Remains l.initial.run l.events l.e-index l.run
