-- `broadcast` hands on a refusal, and carries out what is accepted; what is accepted tells that its processes are there.
-- Assumes nothing.
use Rattle.std.proofs.Common.{refl}
use Rattle.rounds.specs.declared.Event.TheVariants.{Broadcast}
use Rattle.words.specs.Calls.{done, answer}
use Rattle.machine.proofs.Told.{broadcast_told, accepted_call, refused_call}
use Rattle.machine.proofs.broadcasting.broadcast.Goals as goal

pub new-requires : goal.new-requires
new-requires c = broadcast_told _ _ c.in_ok-judge_broadcast.ensures

pub returns-in_err-judge_broadcast : goal.returns-in_err-judge_broadcast
unfolding answer
returns-in_err-judge_broadcast c =
    let t = refused_call c.args.run.now (Broadcast c.args.p) refl c.from_residual.ensures.1 (rw c.from-i.ensures at c.in_err-judge_broadcast.ensures) in
    record { exact = t.0; meaning = t.1 }

pub returns : goal.returns
unfolding answer done
returns c =
    let t = accepted_call c.args.run.now (Broadcast c.args.p) refl (rw c.from-i.ensures at c.in_ok-judge_broadcast.ensures) (rw (c.new.ensures, c.from-i.ensures) at c.carry_sends.ensures) in
    record { exact = t.0; meaning = t.1 }
