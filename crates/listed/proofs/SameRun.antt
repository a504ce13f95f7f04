-- A trace that gives 0, and the list of its events, give the same run and number. Assumes nothing.
use Prim.Native.Nat.{ℕ}
use mathlib.Core.Path.{◌≡◌, sym, ap, ◌∙◌}
use mathlib.Core.List.{List}
use Rattle.sets.proofs.Determined.{determined}
use Rattle.std.specs.Prelude.{Some, Ok}
use Rattle.rounds.specs.Verdicts.{Verdict, number_of}
use Rattle.rounds.specs.Runs.{night_verdict, night, night_reports}
use Rattle.words.specs.Layout.{Mem}
use Rattle.words.specs.Calls.{night_words}
use Rattle.records.specs.declared.Place.TheVariants.{First}
use Rattle.records.specs.declared.Record.TheVariants.{Opening}
use Rattle.records.specs.Records.{parse}
use Rattle.records.specs.Script.{values_of, script}
use Rattle.trace.specs.Outcome.{ending_number, outcome}
use Rattle.trace.specs.Turns.{trace_words}
use Rattle.trace.proofs.Meaning.{read_whole}
use Rattle.listed.specs.declared.Event as listed
use Rattle.listed.specs.Listed.{events_of, Passed}

-- what a trace opens with and what happens in it, and a list with the same beside it
pub record Lists (w : List ℕ) (n : ℕ) (values : List ℕ) (events : List listed.Event) : Type 0 where
  pub opening : parse First w ≡ Ok (Some (Opening n))
  pub values_are : values ≡ values_of n w
  pub events_are : events_of events ≡ (script First w).events

-- the words that both leave, the run that these show, and the number, in the terms of the two contracts; and the heard-of sets, which the list's
-- replay does not give: those of its night
pub record SameRun (w : List ℕ) (n : ℕ) (values : List ℕ) (events : List listed.Event) : Type 0 where
  pub number : ending_number (outcome w).ending ≡ number_of (night_verdict n values (events_of events))
  pub words : trace_words w ≡ night_words n values (events_of events)
  pub run : (outcome w).config ≡ night n values (events_of events)
  pub heard_of : (outcome w).reports ≡ night_reports n values (events_of events)

pub same_run : (w : List ℕ) (n : ℕ) (values : List ℕ) (events : List listed.Event) → ending_number (outcome w).ending ≡ 0
    → Lists w n values events → SameRun w n values events
unfolding number_of
same_run w n values events z l =
    let k = read_whole w z in
    let size : k.size ≡ n = cc in
    record {
      number = z ∙ sym (rw (l.values_are, l.events_are, ← size) (ap number_of k.accepted));
      words = rw (l.values_are, l.events_are, ← size) k.words;
      run = rw (l.values_are, l.events_are, ← size) k.run;
      heard_of = rw (l.values_are, l.events_are, ← size) k.reports;
    }

-- two results that the contract of `replay_list` allows are equal, the whole memory included
pub replay_list_determined : (n : ℕ) (values : List ℕ) (events : List listed.Event) {r s : Verdict} {x y : Mem}
    → Passed n values events r x → Passed n values events s y → (r ≡ s) × (x ≡ y)
replay_list_determined n values events p q = (determined p.0 q.0, determined p.1 q.1)
