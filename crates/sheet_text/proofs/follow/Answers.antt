-- What is left to show of `follow`; Invariants.antt says how it goes.
-- Assumes nothing.
use Rattle.std.proofs.Common.{rules}
use native.Mathlib.Omega.{arith}
use mathlib.Core.Path.{refl, ap, ◌∙◌}
use Rattle.std.specs.Prelude.{Ok}
use Rattle.sheet_text.proofs.Pacing.{back, none_gone, full_came, took, goes_far, goes_on, ends_came, more_came, last_came}
use Rattle.sheet_text.proofs.follow.Goals.{then-room-lt-LINE, else-room-lt-LINE+in-Ok-None+then-last, else-room-lt-LINE+in-Ok-None+else-last, else-room-lt-LINE+in-Err}
use Rattle.sheet_text.proofs.follow.Goals as goal

pub loop-here-init : goal.loop-here-init
loop-here-init c = none_gone _ _ _ _ refl

pub overflow_add-used-in-Ok-Some : goal.overflow_add-used-in-Ok-Some
overflow_add-used-in-Ok-Some c =
    let far = goes_far (took c.loop-here.invariant (omega arith) c.hasten-used.ensures c.one_record.ensures.exact) (c.in-Ok-Some.is ∙ ap Ok c.in-Ok-Some.field-0-is) in
    search (rules, far)

pub loop-here-smaller : goal.loop-here-smaller
loop-here-smaller c =
    let far = goes_far (took c.loop-here.invariant (omega arith) c.hasten-used.ensures c.one_record.ensures.exact) (c.in-Ok-Some.is ∙ ap Ok c.in-Ok-Some.field-0-is) in
    omega arith

pub loop-here-preserved : goal.loop-here-preserved
loop-here-preserved c =
    goes_on (took c.loop-here.invariant (omega arith) c.hasten-used.ensures c.one_record.ensures.exact) (c.in-Ok-Some.is ∙ ap Ok c.in-Ok-Some.field-0-is) c.put_told.ensures

pub returns : goal.returns
returns c = elim c.if-room-lt-LINE.branch [
  | then-room-lt-LINE w ↦ rw (w.run-is, w.used-is, w.stand-is) (back (full_came c.loop-here.invariant (omega arith)) (search rules))
  | else-room-lt-LINE+in-Ok-None+then-last w ↦
      let turn = took c.loop-here.invariant (omega arith) w.hasten-used.ensures w.one_record.ensures.exact in
      rw (w.run-is, w.used-is, w.stand-is) (back (last_came turn (w.in-Ok-None.is ∙ ap Ok w.in-Ok-None.field-0-is) w.if-last.true w.at_end.ensures w.number.ensures) (search rules))
  | else-room-lt-LINE+in-Ok-None+else-last w ↦
      let turn = took c.loop-here.invariant (omega arith) w.hasten-used.ensures w.one_record.ensures.exact in
      rw (w.run-is, w.used-is, w.stand-is) (back (more_came turn (λ i. omega (arith, c.type_inv.bytes i)) (w.in-Ok-None.is ∙ ap Ok w.in-Ok-None.field-0-is) w.if-last.false) (search rules))
  | else-room-lt-LINE+in-Err w ↦
      let turn = took c.loop-here.invariant (omega arith) w.hasten-used.ensures w.one_record.ensures.exact in
      rw (w.run-is, w.used-is, w.stand-is) (back (ends_came turn w.in-Err.is w.number-in-Err.ensures) (search rules))
]
