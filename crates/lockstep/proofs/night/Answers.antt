-- What is left to show of `night`; Invariants.antt says how it goes.
-- Assumes nothing.
use native.Mathlib.Omega.{arith}
use mathlib.Core.Path.{◌≡◌, ◌∙◌, ap}
use Rattle.rounds.specs.Limits.{most_processes}
use Rattle.rounds.specs.Config.{opening}
use Rattle.rounds.specs.Verdicts.{open_verdict}
use Rattle.rounds.specs.Runs.{after}
use Rattle.words.proofs.Reading.{events_means}
use Rattle.lockstep.specs.LockStep.{many_rounds}
use Rattle.lockstep.proofs.Joining.{most_open, rounds_next}
use Rattle.lockstep.proofs.Accepting.{all_counted}
use Rattle.lockstep.proofs.night.Goals as goal

pub loop-init : goal.loop-init
unfolding many_rounds after
loop-init c =
    λ v e g. c.begin.ensures.meaning (c.begin.ensures.exact.0 ∙ ap (open_verdict most_processes) e ∙ most_open) v g

pub loop-preserved : goal.loop-preserved
loop-preserved c =
    let l = c.loop in
    λ v e g. rounds_next (opening most_processes v) l.counter (l.invariant v e g) c.round.ensures

pub returns : goal.returns
returns c =
    let l = c.loop in
    let f : l.counter ≡ 1890 = omega arith in
    let runs = rw f at l.invariant in
    λ v e g. (runs v e g, events_means _ _ (runs v e g) ∙ all_counted v 1890 (omega arith))
