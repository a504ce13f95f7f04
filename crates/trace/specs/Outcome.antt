-- What the replay of a trace comes to: how it ends, the run that it reaches on the abstract round machine, and the heard-of sets that its steps
-- report. Assumes nothing.
use Rattle.std.specs.Prelude.{ℕ, List, [], Some, None, Result, Ok, Err, ⊤}
use Rattle.rounds.specs.Config.{Config, no_run}
use Rattle.rounds.specs.Verdicts.{Verdict, number_of}
use Rattle.rounds.specs.Runs.{Report, night_verdict, night, night_reports}
use Rattle.records.specs.declared.Place.{Place}
use Rattle.records.specs.declared.Place.TheVariants.{First, Later, Behind}
use Rattle.records.specs.declared.Fault.TheVariants.{EndsInside}
use Rattle.records.specs.declared.Record.TheVariants.{Opening, Happens, End}
use Rattle.records.specs.Records.{Reading, fault_number, parse}
use Rattle.records.specs.Script.{Script, values_of, script}
use Rattle.trace.specs.declared.Stop.{Stop}
use Rattle.trace.specs.declared.Stop.TheVariants.{Refused, Faulty}

-- how a replay ends: at the end of its trace, or before it by a refusal or a fault
abbrev pub Ending : Type 0
Ending = Result ⊤ Stop

-- the numbers of document 01: those of a verdict, and of a fault
unfoldable pub ending_number : Ending → ℕ
ending_number (Ok x) = number_of (Ok x)
ending_number (Err (Refused r)) = number_of (Err r)
ending_number (Err (Faulty f)) = fault_number f

-- ---- where the input ends: only behind the end record has the trace been read to its end
unfoldable pub at_end : Place → Ending
at_end First = Err (Faulty EndsInside)
at_end Later = Err (Faulty EndsInside)
at_end Behind = Ok tt

-- ---- what a reading stops at: something wrong, or the end of the input. At a whole record none stops
unfoldable pub closing : Place → Reading → Ending
closing pl (Ok _) = at_end pl
closing pl (Err f) = Err (Faulty f)

unfoldable pub closes : Script → Ending
closes s = closing s.place (parse s.place s.left)

-- ---- a trace: its opening and its events are a night. What that refuses ends it; else what the bytes come to. Without an opening there is no run
pub record Outcome : Type 0 where
  pub ending : Ending
  pub config : Config
  pub reports : List Report

unfoldable pub ended_by : Verdict → Ending → Ending
ended_by (Ok _) x = x
ended_by (Err r) x = Err (Refused r)

unfoldable pub nobody : Ending → Outcome
nobody x = record { ending = x; config = no_run; reports = [] }

-- by what stands first: an event or an end record never does
unfoldable pub outcome_of : List ℕ → Script → Reading → Outcome
outcome_of w s (Ok (Some (Opening n))) =
    record {
      ending = ended_by (night_verdict n (values_of n w) s.events) (closes s);
      config = night n (values_of n w) s.events;
      reports = night_reports n (values_of n w) s.events;
    }
outcome_of w s (Ok (Some (Happens e))) = nobody (closes s)
outcome_of w s (Ok (Some End)) = nobody (closes s)
outcome_of w s (Ok None) = nobody (closes s)
outcome_of w s (Err f) = nobody (closes s)

unfoldable pub outcome : List ℕ → Outcome
outcome w = outcome_of w (script First w) (parse First w)
