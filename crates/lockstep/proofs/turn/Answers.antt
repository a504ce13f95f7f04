-- `turn` is the receives, and then the step.
-- Assumes nothing.
use Rattle.lockstep.proofs.Joining.{turned}
use Rattle.lockstep.proofs.turn.Goals as goal

pub returns : goal.returns
returns c = turned c.args.p c.receives.ensures (λ d s. (c.step.ensures.meaning d s).shows)
