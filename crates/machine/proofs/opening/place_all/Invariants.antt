-- `place_all` goes over the values; at each the memory so far is its definition's.
-- Assumes nothing.
use Rattle.std.proofs.Common.{◌≡◌}
use Rattle.words.specs.Calls.{placed_below}
use Rattle.machine.proofs.opening.place_all.Given as goal

abbrev pub invariant-loop-p : goal.invariant-loop-p
invariant-loop-p l = l.run ≡ placed_below l.p l.values l.initial.run
