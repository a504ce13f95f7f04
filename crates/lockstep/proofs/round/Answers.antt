-- `round` is the sends of all, and then the turns of all.
-- Assumes nothing.
use Rattle.lockstep.proofs.Joining.{round_done}
use Rattle.lockstep.proofs.round.Goals as goal

pub returns : goal.returns
returns c = round_done c.all_send.ensures c.all_turn.ensures
