-- The front page of the trace: what its replay means. The memory shows the run that the abstract machine reaches; a trace that is read to its end is
-- the night of its opening and its events; and opening values change nothing but values. Assumes nothing.
use Prim.Native.Nat.{ℕ}
use native.Mathlib.Omega.{arith}
use mathlib.Core.Path.{◌≡◌, refl, ◌∙◌}
use mathlib.Core.Bool.{Bool, true, false, cond}
use mathlib.Core.List.{List}
use lib.ListN.{length}
use Rattle.rounds.specs.Verdicts.{Verdict, number_of}
use Rattle.rounds.specs.Verdicts.{Accepted}
use Rattle.rounds.specs.Config.{Config, opening}
use Rattle.rounds.specs.Verdicts.{accepted, open_verdict}
use Rattle.rounds.specs.Events.{if_accepted}
use Rattle.rounds.specs.Runs.{value_at, night_verdict, night, night_reports}
use Rattle.rounds.proofs.Answers.{refusal_some}
use Rattle.words.specs.Layout.{Mem}
use Rattle.words.specs.Spelled.{control_of}
use Rattle.words.specs.Calls.{blank, opened, begins, night_words}
use Rattle.words.specs.Shows.{Shows}
use Rattle.words.proofs.Answering.{answer_shown}
use Rattle.words.proofs.Meaning.{blank_shows, shows_next}
use Rattle.words.proofs.Replaying.{opens_shows, night_shows}
use Rattle.records.specs.declared.Place.{Place}
use Rattle.records.specs.declared.Place.TheVariants.{First}
use Rattle.records.specs.declared.Fault.{Fault}
use Rattle.records.specs.declared.Fault.TheVariants.{EndsInside, UnknownTag, WrongLength, WrongPlace, BytesBehind}
use Rattle.records.specs.declared.Record.TheVariants.{Opening, Happens, End}
use Rattle.records.specs.Records.{Reading, fault_number, parse}
use Rattle.records.specs.Script.{Script, values_of, stopped, script}
use Rattle.records.proofs.Whole.{Placed, placed}
use Rattle.records.proofs.Scripts.{script_wrong, script_cut}
use Rattle.std.specs.Prelude.{Some, None, Ok, Err}
use Rattle.trace.specs.Outcome.{Ending}
use Rattle.trace.specs.Turns.{Turn}
use Rattle.trace.specs.Outcome.{ending_number, at_end, closing, closes, ended_by, nobody, outcome_of, outcome}
use Rattle.trace.specs.Claims.{Revalued}
use Rattle.trace.specs.Exact.{RecordDone, TraceDone}
use Rattle.trace.proofs.Telling.{told_ahead, told_from_the_start}
use Rattle.trace.proofs.Values.{Blind, values_alone}
use Rattle.trace.specs.Turns.{turn_on, turn, run_on, next, words_on, turned, left_by, trace_words}

-- ---- the words that a trace leaves show the run that it reaches
left_shows : (w : List ℕ) (s : Script) (r : Reading) → Shows (left_by w s r) (outcome_of w s r).config
unfolding left_by outcome_of nobody
left_shows w s (Ok (Some (Opening n))) = night_shows n (values_of n w) s.events
left_shows w s (Ok (Some (Happens e))) = blank_shows
left_shows w s (Ok (Some End)) = blank_shows
left_shows w s (Err f) = blank_shows
left_shows w s (Ok None) = blank_shows

pub trace_shows : (w : List ℕ) → Shows (trace_words w) (outcome w).config
unfolding trace_words outcome
trace_shows w = left_shows w (script First w) (parse First w)

pub replay_meant : (w : List ℕ) {x : Ending} {m : Mem} → TraceDone w x m → TraceDone w x m × Shows m (outcome w).config
replay_meant w p = (p, rw p.1 (trace_shows w))

-- ---- one record: where the memory shows a configuration, what comes of it is the abstract machine's, and the memory then shows the next one
module _ (m : Mem) (c : Config) (w : List ℕ) (k : Shows m c) where
  opened_shows : (n : ℕ) → Shows (begins m n (values_of n w)) (run_on c w (Ok (Some (Opening n))))
  unfolding run_on begins if_accepted
  opened_shows n = go (accepted (open_verdict n (length (values_of n w)))) refl
    where
      go : (b : Bool) → accepted (open_verdict n (length (values_of n w))) ≡ b
          → Shows (cond b (opened n (values_of n w)) m) (cond b (opening n (value_at (values_of n w))) c)
      go true a = opens_shows n (values_of n w) a
      go false a = k

  record_means : (r : Reading) → (turn_on (control_of m) w r ≡ turn_on c.control w r) × Shows (words_on m w r) (run_on c w r)
  unfolding turn_on words_on run_on
  record_means (Ok (Some (Opening n))) = (refl, opened_shows n)
  record_means (Ok (Some (Happens e))) = (rw (answer_shown m c.control c.content k.few k.shown e), shows_next m c e k)
  record_means (Ok (Some End)) = (refl, k)
  record_means (Err f) = (refl, k)
  record_means (Ok None) = (refl, k)

pub one_record_meant : (pl : Place) (m : Mem) (w : List ℕ) {t : Turn} {b : Mem} → RecordDone pl m w t b
    → RecordDone pl m w t b × ((c : Config) → Shows m c → (t ≡ turn pl c.control w) × Shows b (next pl c w))
unfolding turn turned next
one_record_meant pl m w p =
    (p, λ c k. let means = record_means m c w k (parse pl w) in (p.0 ∙ means.0, rw p.1 means.1))

-- ---- what the records tell, one after the other, is what the abstract machine reports
pub turns_tell : (w : List ℕ) → told_ahead First blank w ≡ (outcome w).reports
turns_tell = told_from_the_start

-- ---- two traces that differ in the values of their opening alone: Demand 3 for bytes
pub opening_values_alone : (w u : List ℕ) (d : Revalued w u) → Blind w u d.size
opening_values_alone = values_alone

-- ---- a trace that gives 0 is the night of its opening and its events: the same words, the same run, the same heard-of sets
pub record IsNight (w : List ℕ) : Type 0 where
  pub size : ℕ
  pub opening : parse First w ≡ Ok (Some (Opening size))
  pub accepted : night_verdict size (values_of size w) (script First w).events ≡ Accepted
  pub words : trace_words w ≡ night_words size (values_of size w) (script First w).events
  pub run : (outcome w).config ≡ night size (values_of size w) (script First w).events
  pub reports : (outcome w).reports ≡ night_reports size (values_of size w) (script First w).events

-- a fault has a number of its own
fault_some : (f : Fault) → fault_number f ≡ 0 → ⊥
unfolding fault_number
fault_some EndsInside e = omega arith
fault_some UnknownTag e = omega arith
fault_some WrongLength e = omega arith
fault_some WrongPlace e = omega arith
fault_some BytesBehind e = omega arith

-- what ends in 0 behind a night is an accepted one
accepted_night : (v : Verdict) (x : Ending) → ending_number (ended_by v x) ≡ 0 → v ≡ Accepted
unfolding ended_by ending_number number_of
accepted_night (Ok u) x e = refl
accepted_night (Err r) x e = absurd (refusal_some r e)

pub read_whole : (w : List ℕ) → ending_number (outcome w).ending ≡ 0 → IsNight w
unfolding Placed outcome outcome_of nobody trace_words left_by closes stopped closing at_end ending_number fault_number
read_whole w z = go (parse First w) refl (placed First w)
  where
    go : (r : Reading) → parse First w ≡ r → Placed First r → IsNight w
    go (Ok (Some (Opening n))) e h =
        let zero = rw e at z in
        record {
          size = n;
          opening = e;
          accepted = accepted_night (night_verdict n (values_of n w) (script First w).events) (closes (script First w)) zero;
          words = rw e;
          run = rw e;
          reports = rw e;
        }
    go (Ok (Some (Happens v))) e h = absurd h
    go (Ok (Some End)) e h = absurd h
    go (Err f) e h = absurd (fault_some f (rw (e, script_wrong First w f e, e) at z))
    go (Ok None) e h = absurd (fault_some EndsInside (rw (e, script_cut First w e, e) at z))
