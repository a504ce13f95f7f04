-- `begin` hands on a refusal, and makes the opening that is accepted; what is accepted tells that there are as many values as processes.
-- Assumes nothing.
use Rattle.std.proofs.Common.{sym, ◌∙◌}
use Rattle.rounds.specs.Verdicts.{accepted}
use Rattle.rounds.specs.Events.{if_accepted}
use Rattle.rounds.proofs.Answers.{handed_on, accepted_is, opens_right}
use Rattle.words.specs.Calls.{opened, begins}
use Rattle.words.proofs.Meaning.{begin_meant}
use Rattle.machine.proofs.Told.{opening_told}
use Rattle.machine.proofs.opening.begin.Goals as goal

pub place_all-requires : goal.place_all-requires
place_all-requires c = opening_told _ _ c.in_ok-judge_opening.ensures

pub returns-in_err-judge_opening-clause-exact : goal.returns-in_err-judge_opening-clause-exact
unfolding begins if_accepted accepted
returns-in_err-judge_opening-clause-exact c =
    let judged = c.in_err-judge_opening.ensures in
    (handed_on c.from_residual.ensures.1 ∙ judged, rw (← judged))

pub returns : goal.returns
unfolding begins opened if_accepted accepted
returns c =
    let judged = c.in_ok-judge_opening.ensures in
    let each = (opens_right _ _ (accepted_is _ (sym judged))).each in
    let t = begin_meant c.args.run.now c.args.n c.args.values.now (judged, rw (← judged, c.place_all.ensures, c.set_head.ensures, c.clear.ensures.exact, each)) in
    record { exact = t.0; meaning = t.1 }
