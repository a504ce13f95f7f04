-- `judge_targets` hands on the first refusal; Invariants.antt says how it comes there.
-- Assumes nothing.
use Rattle.std.proofs.Common.{◌∙◌}
use Rattle.rounds.proofs.Answers.{handed_on}
use Rattle.machine.proofs.Told.{first_is}
use Rattle.machine.proofs.broadcasting.judge_targets.Goals as goal

pub returns-in_err-judge_target : goal.returns-in_err-judge_target
returns-in_err-judge_target c =
    handed_on c.from_residual.ensures.1
    ∙ rw (← c.people-q-end.ensures.0) (first_is _ c.loop-q.q _ _ c.loop-q-test.true c.loop-q.invariant (rw c.new.ensures at c.in_err-judge_target.ensures))
