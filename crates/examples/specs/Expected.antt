-- What document 01's examples 10 to 12 find, in its own numbers.
-- Assumes nothing.
use Rattle.std.specs.Prelude.{None}
use Rattle.words.specs.declared.Standing.{Standing}
use Rattle.examples.specs.declared.Ten.{Ten}
use Rattle.examples.specs.declared.Eleven.{Eleven}
use Rattle.examples.specs.declared.Twelve.{Twelve}

-- 10: N = 0 and N = 17 give 1, values that are not N in number 11, N = 16 is accepted; there process 15 may send to itself, and every event that
-- names process 16 gives 2
abbrev pub ten : Ten
ten = record { none = 1; seventeen = 1; uneven = 11; sixteen = 0; inside = 0; send = 2; receive = 2; step = 2; broadcast = 2; events = 1 }

-- 11: process 1 is at round 2 with what it opened with. Before the late send it has waited 4 events at S and 2 at C and stands at P; the late send is
-- accepted and counted at P, its receive gives 5 and is not counted, and the next event finds it at P still
abbrev pub waiting : Standing
waiting = record { round = 2; value = 4; vote = None; decision = None; reach = 2; sending = 4; collecting = 2; pending = 0; idle = 0 }

abbrev pub once : Standing
once = record { round = 2; value = 4; vote = None; decision = None; reach = 2; sending = 4; collecting = 2; pending = 1; idle = 0 }

abbrev pub twice : Standing
twice = record { round = 2; value = 4; vote = None; decision = None; reach = 2; sending = 4; collecting = 2; pending = 2; idle = 0 }

abbrev pub eleven : Eleven
eleven = record { first = 0; step = 0; second = 0; own = 0; before = waiting; late = 0; after = once; receive = 5; more = 0; later = twice }

-- 12: the send is accepted; the broadcast gives 3 and is not counted; nothing waits for process 0, and its send to itself is still to be made
abbrev pub twelve : Twelve
twelve = record { send = 0; broadcast = 3; events = 1; receive = 5; again = 0 }
