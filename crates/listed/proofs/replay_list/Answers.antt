-- `replay_list` opens the run, and follows the list where that is accepted.
-- Assumes nothing.
use Rattle.listed.proofs.Turning.{list_stops, list_goes_on}
use Rattle.listed.proofs.replay_list.Goals as goal

pub returns-in_err-begin : goal.returns-in_err-begin
returns-in_err-begin c =
    let did = rw c.clear.ensures.exact at c.in_err-begin.ensures.exact in
    list_stops _ _ _ c.from_residual.ensures.1 did.0 did.1

pub returns : goal.returns
returns c =
    let did = rw c.clear.ensures.exact at c.in_ok-begin.ensures.exact in
    list_goes_on _ _ _ did.0 did.1 c.follow.ensures
