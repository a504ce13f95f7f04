-- `judge_targets` goes over the targets; none of those before is refused.
-- Assumes nothing.
use Rattle.std.proofs.Common.{◌≡◌}
use Rattle.rounds.specs.Verdicts.{Accepted, send_verdict, first_refusal}
use Rattle.words.specs.Spelled.{control_of}
use Rattle.machine.proofs.broadcasting.judge_targets.Given as goal

abbrev pub invariant-loop-q : goal.invariant-loop-q
invariant-loop-q l = first_refusal l.q (send_verdict (control_of l.run) l.p) ≡ Accepted
