-- What is left to show of `follow`; Invariants.antt says how it goes.
-- Assumes nothing.
use Rattle.listed.proofs.Turning.{stops, goes_on, ends}
use Rattle.listed.proofs.follow.Goals as goal

pub returns-in_err-apply : goal.returns-in_err-apply
returns-in_err-apply c = stops _ _ _ _ _ c.loop-e.invariant c.loop-e-test.true c.from_residual.ensures.1 (rw c.into.ensures at (c.in_err-apply.ensures.exact))

pub loop-e-preserved : goal.loop-e-preserved
loop-e-preserved c = goes_on _ _ _ _ _ c.loop-e.invariant c.loop-e-test.true (rw c.into.ensures at (c.in_ok-apply.ensures.exact))

pub returns : goal.returns
returns c = ends _ _ _ _ c.loop-e.invariant c.loop-e-test.false
