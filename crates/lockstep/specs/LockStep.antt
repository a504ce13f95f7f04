-- The events of the most processes in lock step: in each round everyone sends to all, and then each hears all and steps.
-- Assumes nothing.
use Rattle.std.specs.Prelude.{ℕ, zero, suc, ◌+◌, ◌*◌, List, [], ◌∷◌, ◌++◌}
use Rattle.rounds.specs.declared.Event.{Event}
use Rattle.rounds.specs.declared.Event.TheVariants.{Receive, Step}
use Rattle.rounds.specs.Limits.{most_processes}
use Rattle.rounds.specs.Runs.{sends}

-- p receives from the processes below k, in ascending order
unfoldable pub receives_below : ℕ → ℕ → List Event
receives_below zero p = []
receives_below (suc k) p = receives_below k p ++ (Receive p k ∷ [])

-- p hears all, and steps
unfoldable pub one_turn : ℕ → List Event
one_turn p = receives_below most_processes p ++ (Step p ∷ [])

-- the processes below k send to all, one process after the other
unfoldable pub all_send : ℕ → List Event
all_send zero = []
all_send (suc k) = all_send k ++ sends most_processes k

-- the processes below k hear all and step, one process after the other
unfoldable pub all_turn : ℕ → List Event
all_turn zero = []
all_turn (suc k) = all_turn k ++ one_turn k

-- a round: all send, then all take their turn
unfoldable pub one_round : List Event
one_round = all_send most_processes ++ all_turn most_processes

-- how many events that is: of each process, as many sends and as many receives as there are processes, and a step
abbrev pub round_events : ℕ
round_events = most_processes * (most_processes + most_processes + 1)

-- so many rounds
unfoldable pub many_rounds : ℕ → List Event
many_rounds zero = []
many_rounds (suc r) = many_rounds r ++ one_round
