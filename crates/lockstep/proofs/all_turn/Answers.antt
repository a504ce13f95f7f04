-- What is left to show of `all_turn`; Invariants.antt says how it goes.
-- Assumes nothing.
use Rattle.rounds.specs.Runs.{after}
use Rattle.lockstep.specs.LockStep.{all_turn}
use Rattle.lockstep.proofs.Joining.{all_turned_next}
use Rattle.lockstep.proofs.all_turn.Goals as goal

pub loop-p-init : goal.loop-p-init
unfolding all_turn after
loop-p-init c = λ d s. s

pub loop-p-preserved : goal.loop-p-preserved
loop-p-preserved c = all_turned_next c.loop-p.p c.loop-p.invariant c.turn.ensures
