-- What is left to show of `all_send`; Invariants.antt says how it goes.
-- Assumes nothing.
use Rattle.rounds.specs.Runs.{after}
use Rattle.lockstep.specs.LockStep.{all_send}
use Rattle.lockstep.proofs.Joining.{all_sent_next}
use Rattle.lockstep.proofs.all_send.Goals as goal

pub loop-p-init : goal.loop-p-init
unfolding all_send after
loop-p-init c = λ d s. s

pub loop-p-preserved : goal.loop-p-preserved
loop-p-preserved c = all_sent_next c.loop-p.p c.loop-p.invariant c.sends.ensures
