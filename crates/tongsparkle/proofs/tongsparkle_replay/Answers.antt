-- `tongsparkle_replay` asks for the room, replays the trace, and writes the rows of the run that it reached.
-- Assumes nothing.
use Rattle.tongsparkle.proofs.Meaning.{no_room, room_enough}
use Rattle.tongsparkle.proofs.tongsparkle_replay.Goals as goal

pub returns-in_default : goal.returns-in_default
returns-in_default c = let a = c.args in no_room a.trace.now a.report.now c.in_default.ensures.cases

pub returns : goal.returns
returns c =
    let a = c.args in
    let lent = c.in-Some.ensures.cases in
    let replayed = c.replay-ending.ensures in
    room_enough a.trace.now a.report.now lent.enough replayed.meaning replayed.exact.0 c.number.ensures (rw (← lent.same) c.put_rows.ensures)
