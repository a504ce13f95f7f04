-- The events of a lent list as the example writes them, and what document 01's first example finds, in the numbers of its sheet.
-- Assumes nothing.
use Rattle.std.specs.Prelude.{ℕ}
use Rattle.std.specs.Prelude.{None}
use Rattle.words.specs.declared.Standing.{Standing}
use Rattle.listed.specs.declared.Event.{Event}
use Rattle.listed.specs.declared.Kind.TheVariants.{Send, Receive, Step}
use Rattle.listing.specs.declared.One.{One}

-- ---- the events
abbrev pub send : ℕ → ℕ → Event
send p q = record { kind = Send; first = p; second = q }

abbrev pub receive : ℕ → ℕ → Event
receive p q = record { kind = Receive; first = p; second = q }

-- a step needs one number: the second is ignored, and 255 is no process
abbrev pub step : ℕ → Event
step p = record { kind = Step; first = p; second = 255 }

-- ---- the sheet: the number 0, six accepted events, process 0 at round 2 with the value it heard, process 1 still at round 1
abbrev pub stepped : Standing
stepped = record { round = 2; value = 4; vote = None; decision = None; reach = 3; sending = 2; collecting = 2; pending = 1; idle = 1 }

abbrev pub sending : Standing
sending = record { round = 1; value = 4; vote = None; decision = None; reach = 2; sending = 6; collecting = 0; pending = 0; idle = 0 }

abbrev pub one : One
one = record { number = 0; events = 6; first = stepped; second = sending }
