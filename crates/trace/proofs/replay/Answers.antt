-- What is left to show of `replay`; Invariants.antt says how it goes.
-- Assumes nothing.
use Rattle.std.proofs.Common.{arith, length-drop, ◌∙◌, ap, Ok, drop}
use Rattle.std.proofs.lemmas.List.{take_rest}
use Rattle.rounds.proofs.Answers.{handed_on}
use Rattle.trace.proofs.Looping.{hastened, hastened_within, goes_far, goes_on, more_last, ends_last}
use Rattle.trace.proofs.Meaning.{replay_meant}
use Rattle.trace.proofs.replay.Goals as goal

pub loop-gone-init : goal.loop-gone-init
loop-gone-init c = record { ahead_of = rw c.clear.ensures.exact }

pub slice_bounds-rest-count : goal.slice_bounds-rest-count
slice_bounds-rest-count c = hastened_within _ _ _ c.hasten-hasty.ensures

pub slice_bounds-rest-start : goal.slice_bounds-rest-start
slice_bounds-rest-start c = hastened_within _ _ _ c.hasten-hasty.ensures

pub returns-in_err-gone : goal.returns-in_err-gone
returns-in_err-gone c =
    let last = ends_last c.loop-gone.rest.now c.hasten-hasty.result (hastened c.loop-gone.invariant c.hasten-hasty.ensures) c.one_record.ensures.exact c.in_err-gone.was in
    let t = replay_meant c.args.trace.now (handed_on c.from_residual.ensures.1 ∙ last.0, last.1) in
    record { exact = t.0; meaning = t.1 }

pub returns-in_default : goal.returns-in_default
returns-in_default c =
    let last = more_last c.loop-gone.rest.now c.hasten-hasty.result (hastened c.loop-gone.invariant c.hasten-hasty.ensures) c.one_record.ensures.exact (c.in_ok-gone.was ∙ ap Ok c.in_default.is) in
    let t = replay_meant c.args.trace.now (c.at_end.ensures ∙ last.0, last.1) in
    record { exact = t.0; meaning = t.1 }

pub slice_bounds-rest-count-in-loop-gone : goal.slice_bounds-rest-count-in-loop-gone
slice_bounds-rest-count-in-loop-gone c =
    (goes_far c.loop-gone.rest.now c.hasten-hasty.result (hastened c.loop-gone.invariant c.hasten-hasty.ensures) c.one_record.ensures.exact (c.in_ok-gone.was ∙ ap Ok c.in-Some.is)).1

pub slice_bounds-rest-start-in-loop-gone : goal.slice_bounds-rest-start-in-loop-gone
slice_bounds-rest-start-in-loop-gone c =
    (goes_far c.loop-gone.rest.now c.hasten-hasty.result (hastened c.loop-gone.invariant c.hasten-hasty.ensures) c.one_record.ensures.exact (c.in_ok-gone.was ∙ ap Ok c.in-Some.is)).1

pub loop-gone-smaller : goal.loop-gone-smaller
loop-gone-smaller c =
    let far = goes_far c.loop-gone.rest.now c.hasten-hasty.result (hastened c.loop-gone.invariant c.hasten-hasty.ensures) c.one_record.ensures.exact (c.in_ok-gone.was ∙ ap Ok c.in-Some.is) in
    rw (take_rest, take_rest) (omega (arith, rw take_rest at far.1, far.0, length-drop c.hasten-hasty.result c.loop-gone.rest.now, length-drop c.in-Some.gone.used (drop c.hasten-hasty.result c.loop-gone.rest.now)))

pub loop-gone-preserved : goal.loop-gone-preserved
loop-gone-preserved c =
    rw (take_rest, take_rest)
    (goes_on c.loop-gone.rest.now c.hasten-hasty.result (hastened c.loop-gone.invariant c.hasten-hasty.ensures) c.one_record.ensures.exact (c.in_ok-gone.was ∙ ap Ok c.in-Some.is))
