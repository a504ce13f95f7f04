-- `listen` goes over the processes; at each the tally and the reach so far are those of what was heard.
-- Assumes nothing.
use Rattle.std.proofs.Common.{◌≡◌}
use Rattle.voting.specs.Tally.{tally}
use Rattle.words.specs.Calls.{messages_below, reach_below}
use Rattle.machine.proofs.stepping.listen.Given as goal

abbrev pub invariant-loop-q : goal.invariant-loop-q
invariant-loop-q l = (l.g.tally ≡ tally (messages_below l.q l.run l.p)) × (l.g.reach ≡ reach_below l.q l.run l.p)
