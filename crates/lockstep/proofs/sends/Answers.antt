-- What is left to show of `sends`; Invariants.antt says how it goes.
-- Assumes nothing.
use Rattle.rounds.specs.Runs.{after, sends}
use Rattle.lockstep.proofs.Joining.{sent_next}
use Rattle.lockstep.proofs.sends.Goals as goal

pub loop-q-init : goal.loop-q-init
unfolding sends after
loop-q-init c = λ d s. s

pub loop-q-preserved : goal.loop-q-preserved
loop-q-preserved c = sent_next c.loop-q.q c.args.p c.loop-q.invariant (λ d s. (c.send.ensures.meaning d s).shows)
