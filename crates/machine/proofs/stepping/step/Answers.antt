-- `step` hands on a refusal, and carries out what is accepted, with the round and the set that it read before.
-- Assumes nothing.
use Rattle.std.proofs.Common.{refl}
use Rattle.rounds.specs.Verdicts.{accepted}
use Rattle.rounds.specs.Events.{if_accepted}
use Rattle.words.specs.Spelled.{site_of, control_of}
use Rattle.words.specs.Calls.{done, applied, finishing, step_answer}
use Rattle.words.proofs.Meaning.{stepped_meant}
use Rattle.rounds.proofs.Answers.{handed_on}
use Rattle.machine.proofs.Told.{step_told}
use Rattle.machine.proofs.stepping.step.Goals as goal

pub new-p-requires : goal.new-p-requires
new-p-requires c = step_told _ _ c.in_ok-judge_step.ensures

pub returns-in_err-judge_step : goal.returns-in_err-judge_step
unfolding applied if_accepted accepted step_answer finishing
returns-in_err-judge_step c =
    let judged = rw c.from-i.ensures at c.in_err-judge_step.ensures in
    let t = stepped_meant c.args.run.now c.args.p (rw (← judged) (handed_on c.from_residual.ensures.1, refl)) in
    record { exact = t.0; meaning = t.1 }

pub returns : goal.returns
unfolding applied done if_accepted accepted step_answer finishing control_of site_of
returns c =
    let judged = rw c.from-i.ensures at c.in_ok-judge_step.ensures in
    let t = stepped_meant c.args.run.now c.args.p (rw (← judged, c.line.ensures, c.line-2.ensures, c.new-p.ensures, c.from-i.ensures) (refl, rw (c.new-p.ensures, c.from-i.ensures) at c.carry_step.ensures)) in
    record { exact = t.0; meaning = t.1 }
