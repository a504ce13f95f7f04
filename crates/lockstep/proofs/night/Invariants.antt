-- `night` begins the run, and goes over its rounds; at each the memory shows the run of the rounds so far. All events of the run are
-- accepted, and so it has counted each.
-- Assumes nothing.
use Prim.Native.Nat.{ℕ}
use mathlib.Core.Path.{◌≡◌}
use lib.ListN.{length}
use Rattle.rounds.specs.Limits.{most_processes}
use Rattle.rounds.specs.Config.{opening}
use Rattle.rounds.specs.Runs.{after}
use Rattle.words.specs.Shows.{Shows, Given}
use Rattle.lockstep.specs.LockStep.{many_rounds}
use Rattle.lockstep.proofs.night.Given as goal

abbrev pub invariant-loop : goal.invariant-loop
invariant-loop l =
    (v : ℕ → ℕ) → length l.values ≡ most_processes → Given most_processes l.values v → Shows l.run (after (opening most_processes v) (many_rounds l.counter))
