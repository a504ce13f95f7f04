-- `receive` hands on a refusal, and carries out what is accepted; what is accepted tells that its processes are there.
-- Assumes nothing.
use Rattle.std.proofs.Common.{refl}
use Rattle.rounds.specs.declared.Event.TheVariants.{Receive}
use Rattle.words.specs.Calls.{done, answer}
use Rattle.machine.proofs.Told.{receive_told, accepted_call, refused_call}
use Rattle.machine.proofs.receiving.receive.Goals as goal

pub new-requires : goal.new-requires
new-requires c = (receive_told _ _ _ c.in_ok-judge_receive.ensures).0

pub new-requires-2 : goal.new-requires-2
new-requires-2 c = (receive_told _ _ _ c.in_ok-judge_receive.ensures).1

pub returns-in_err-judge_receive : goal.returns-in_err-judge_receive
unfolding answer
returns-in_err-judge_receive c =
    let t = refused_call c.args.run.now (Receive c.args.p c.args.q) refl c.from_residual.ensures.1 (rw (c.from-i.ensures, c.from-j.ensures) at c.in_err-judge_receive.ensures) in
    record { exact = t.0; meaning = t.1 }

pub returns : goal.returns
unfolding answer done
returns c =
    let t = accepted_call c.args.run.now (Receive c.args.p c.args.q) refl (rw (c.from-i.ensures, c.from-j.ensures) at c.in_ok-judge_receive.ensures) (rw (c.new.ensures, c.new-2.ensures, c.from-i.ensures, c.from-j.ensures) at c.carry_receive.ensures) in
    record { exact = t.0; meaning = t.1 }
