-- The limits of document 01, each stated once.
-- Assumes nothing.
use Rattle.std.specs.Prelude.{ℕ}

-- the processes of a run, at most
abbrev pub most_processes : ℕ
most_processes = 16

-- the rounds that a receiver keeps messages for: its own and those after it
abbrev pub window : ℕ
window = 8

-- the round that no process steps from
abbrev pub last_round : ℕ
last_round = 65535

-- the accepted events of a run, at most
abbrev pub most_events : ℕ
most_events = 1000000
