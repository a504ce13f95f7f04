-- `receives` goes over all processes; at each the memory shows the run of the events so far.
-- Assumes nothing.
use Rattle.lockstep.specs.LockStep.{receives_below}
use Rattle.lockstep.proofs.Joining.{Runs}
use Rattle.lockstep.proofs.receives.Given as goal

abbrev pub invariant-loop-q : goal.invariant-loop-q
invariant-loop-q l = Runs l.initial.run l.run (receives_below l.q l.p)
