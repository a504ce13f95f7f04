-- What is left to show of `receives`; Invariants.antt says how it goes.
-- Assumes nothing.
use Rattle.rounds.specs.Runs.{after}
use Rattle.lockstep.specs.LockStep.{receives_below}
use Rattle.lockstep.proofs.Joining.{received_next}
use Rattle.lockstep.proofs.receives.Goals as goal

pub loop-q-init : goal.loop-q-init
unfolding receives_below after
loop-q-init c = λ d s. s

pub loop-q-preserved : goal.loop-q-preserved
loop-q-preserved c = received_next c.loop-q.q c.args.p c.loop-q.invariant (λ d s. (c.receive.ensures.meaning d s).shows)
