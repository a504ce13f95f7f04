-- `put_rows` stores a row for each process of the run; before each turn the rows of those before it stand there.
-- Assumes nothing.
use mathlib.Core.Path.{◌≡◌}
use Rattle.records.specs.Stored.{over}
use Rattle.words.specs.Calls.{standing_of}
use Rattle.tongsparkle.specs.Report.{rows_below}
use Rattle.tongsparkle.proofs.put_rows.Given as goal

abbrev pub invariant-loop-p : goal.invariant-loop-p
invariant-loop-p l = l.report ≡ over (rows_below l.p (standing_of l.run)) l.initial.report
