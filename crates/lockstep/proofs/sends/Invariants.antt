-- `sends` goes over all processes; at each the memory shows the run of the events so far.
-- Assumes nothing.
use Rattle.rounds.specs.Runs.{sends}
use Rattle.lockstep.proofs.Joining.{Runs}
use Rattle.lockstep.proofs.sends.Given as goal

abbrev pub invariant-loop-q : goal.invariant-loop-q
invariant-loop-q l = Runs l.initial.run l.run (sends l.q l.p)
