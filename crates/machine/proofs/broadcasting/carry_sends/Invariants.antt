-- `carry_sends` goes over the processes; at each the memory so far is its definition's.
-- Assumes nothing.
use Rattle.std.proofs.Common.{◌≡◌}
use Rattle.words.specs.Calls.{sent_below}
use Rattle.machine.proofs.broadcasting.carry_sends.Given as goal

abbrev pub invariant-loop-q : goal.invariant-loop-q
invariant-loop-q l = l.run ≡ sent_below l.q l.initial.run l.p
