-- `all_send` goes over all processes; at each the memory shows the run of the events so far.
-- Assumes nothing.
use Rattle.lockstep.specs.LockStep.{all_send}
use Rattle.lockstep.proofs.Joining.{Runs}
use Rattle.lockstep.proofs.all_send.Given as goal

abbrev pub invariant-loop-p : goal.invariant-loop-p
invariant-loop-p l = Runs l.initial.run l.run (all_send l.p)
