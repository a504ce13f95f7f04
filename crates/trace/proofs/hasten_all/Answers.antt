-- What is left to show of `hasten_all`; Invariants.antt says how it goes.
-- Assumes nothing.
use native.Mathlib.Omega.{arith}
use lib.ListN.{length-drop}
use Rattle.std.proofs.lemmas.List.{take_rest}
use Rattle.trace.proofs.Hastening.{hastens_far, hastens_on, hastens_no_more}
use Rattle.trace.proofs.hasten_all.Goals as goal

pub slice_bounds-rest-count : goal.slice_bounds-rest-count
slice_bounds-rest-count c = hastens_far c.loop-rest.invariant c.hasten_one.ensures c.loop-rest-test.true

pub slice_bounds-rest-start : goal.slice_bounds-rest-start
slice_bounds-rest-start c = hastens_far c.loop-rest.invariant c.hasten_one.ensures c.loop-rest-test.true

pub loop-rest-smaller : goal.loop-rest-smaller
loop-rest-smaller c =
    let far = hastens_far c.loop-rest.invariant c.hasten_one.ensures c.loop-rest-test.true in
    rw take_rest (omega (arith, length-drop 5 c.loop-rest.rest.now))

pub loop-rest-preserved : goal.loop-rest-preserved
loop-rest-preserved c = rw take_rest (hastens_on c.loop-rest.invariant c.hasten_one.ensures c.loop-rest-test.true)

pub returns : goal.returns
returns c = hastens_no_more c.loop-rest.invariant c.hasten_one.ensures c.loop-rest-test.false
