-- A trace read record by record: what is ahead of a reading, before a record and after it. So a loop that takes a turn for each record comes to
-- what the whole trace comes to. Assumes nothing.
use Prim.Native.Nat.{ℕ, ◌+◌, ◌*◌}
use mathlib.Core.Path.{◌≡◌, refl, sym, ap, ◌∙◌}
use mathlib.Core.Bool.{false}
use mathlib.Core.List.{List}
use lib.ListN.{length, drop}
use Rattle.rounds.specs.declared.Event.{Event}
use Rattle.rounds.specs.Verdicts.{Verdict, accepted, open_verdict, verdict}
use Rattle.rounds.specs.Runs.{night_verdict}
use Rattle.words.specs.Layout.{Mem}
use Rattle.words.specs.Spelled.{control_of}
use Rattle.words.specs.Calls.{blank, begins, applied, answer, replayed, replayed_verdict, night_words}
use Rattle.words.proofs.Answering.{answer_verdict}
use Rattle.words.proofs.Meaning.{refused_unchanged}
use Rattle.words.proofs.Replaying.{goes_on, stops, night_goes_on, night_stops}
use Rattle.records.specs.declared.Place.{Place}
use Rattle.records.specs.declared.Place.TheVariants.{First, Later, Behind}
use Rattle.records.specs.declared.Fault.{Fault}
use Rattle.records.specs.declared.Record.TheVariants.{Opening, Happens, End}
use Rattle.records.specs.Records.{Reading, parse, extent, event_extent}
use Rattle.records.specs.Script.{Script, values_of, stopped, adds, on_record, script}
use Rattle.records.proofs.Whole.{each_placed}
use Rattle.records.proofs.Scripts.{script_is, script_wrong, script_cut}
use Rattle.std.specs.Prelude.{Option, Some, None, Ok, Err}
use Rattle.trace.specs.Outcome.{Ending}
use Rattle.trace.specs.declared.Stop.{Stop}
use Rattle.trace.specs.declared.Stop.TheVariants.{Refused, Faulty}
use Rattle.trace.specs.declared.Heard.{Heard}
use Rattle.trace.specs.Turns.{Turn, More, Goes, Ends, passes}
use Rattle.trace.specs.Outcome.{at_end, closing, closes, ended_by, nobody, outcome_of, outcome}
use Rattle.trace.specs.Turns.{on_answer, on_opening, tells, turn_on, words_on, turn, turned, left_by, trace_words}

-- ---- what is ahead: how the reading ends, and the words that it leaves
pub record Ahead : Type 0 where
  pub ending : Ending
  pub words : Mem

abbrev ended : Ending → Mem → Ahead
ended x m = record { ending = x; words = m }

-- over a memory with a run: the events, and then what the bytes come to
onward : Mem → Script → Ahead
onward m s = ended (ended_by (replayed_verdict m s.events) (closes s)) (replayed m s.events)

-- at the first record: where its verdict accepts the opening, what follows
opens : Verdict → Ahead → Mem → Ahead
opens (Ok _) a m = a
opens (Err r) a m = ended (Err (Refused r)) m

begin : Mem → List ℕ → Script → Reading → Ahead
begin m w s (Ok (Some (Opening n))) =
    let xs = values_of n w in
    opens (open_verdict n (length xs)) (onward (begins m n xs) s) (begins m n xs)
begin m w s (Ok (Some (Happens e))) = ended (closes s) m
begin m w s (Ok (Some End)) = ended (closes s) m
begin m w s (Err f) = ended (closes s) m
begin m w s (Ok None) = ended (closes s) m

pub ahead : Place → Mem → List ℕ → Ahead
ahead First m w = begin m w (script First w) (parse First w)
ahead Later m w = onward m (script Later w)
ahead Behind m w = onward m (script Behind w)

-- ---- a turn
-- what is ahead after it, where m is the memory that it leaves
pub on_turn : Place → Mem → List ℕ → Turn → Ahead
on_turn pl m w (Ok None) = ended (at_end pl) m
on_turn pl m w (Ok (Some g)) = ahead g.place m (drop g.used w)
on_turn pl m w (Err x) = ended (Err x) m

module _ (m : Mem) (w : List ℕ) where
  opened_ahead : (n : ℕ) → parse First w ≡ Ok (Some (Opening n)) → ahead First m w ≡ on_turn First (begins m n (values_of n w)) w (on_opening n (values_of n w))
  unfolding ahead begin on_record on_opening opens passes on_turn extent
  opened_ahead n e = rw (script_is First w, e) (go (open_verdict n (length (values_of n w))))
    where
      go : (v : Verdict)
          → opens v (onward (begins m n (values_of n w)) (script Later (drop (4 + 4 * n) w))) (begins m n (values_of n w))
          ≡ on_turn First (begins m n (values_of n w)) w (passes v (4 + 4 * n) None)
      go (Ok u) = refl
      go (Err r) = refl

  happened_ahead : (e : Event) → parse Later w ≡ Ok (Some (Happens e)) → ahead Later m w ≡ on_turn Later (applied m e) w (on_answer e (answer (control_of m) e))
  unfolding ahead onward on_record adds closes on_answer passes on_turn extent ended_by accepted
  happened_ahead e q =
      rw (script_is Later w, q, answer_verdict (control_of m) e) (go (verdict (control_of m) e) refl)
    where
      rest : Script
      rest = script Later (drop (event_extent e) w)

      go : (v : Verdict) → verdict (control_of m) e ≡ v
          → onward m (adds e rest) ≡ on_turn Later (applied m e) w (passes v (event_extent e) (tells e (answer (control_of m) e)))
      go (Ok u) a = let on = goes_on m e rest.events (ap accepted a) in rw (on.0, on.1)
      go (Err r) a =
          let no : accepted (verdict (control_of m) e) ≡ false = ap accepted a in
          let off = stops m e rest.events no in
          rw (off.0, off.1, a, refused_unchanged m e no)

  ended_ahead : parse Later w ≡ Ok (Some End) → ahead Later m w ≡ ahead Behind m (drop (extent End) w)
  unfolding ahead on_record extent
  ended_ahead e = rw (script_is Later w, e)

  -- what stops the reading here
  stopped_ahead : (pl : Place) → script pl w ≡ stopped pl w → onward m (script pl w) ≡ ended (closing pl (parse pl w)) m
  unfolding onward stopped closes ended_by replayed replayed_verdict
  stopped_ahead pl e = rw e

  wrong_ahead : (pl : Place) (x : Fault) → parse pl w ≡ Err x → ahead pl m w ≡ ended (Err (Faulty x)) m
  unfolding ahead begin closes closing stopped
  wrong_ahead First x e = rw (e, script_wrong First w x e) (rw e)
  wrong_ahead Later x e = stopped_ahead Later (script_wrong Later w x e) ∙ rw e
  wrong_ahead Behind x e = stopped_ahead Behind (script_wrong Behind w x e) ∙ rw e

  cut_ahead : (pl : Place) → parse pl w ≡ Ok None → ahead pl m w ≡ ended (at_end pl) m
  unfolding ahead begin closes closing stopped
  cut_ahead First e = rw (e, script_cut First w e) (rw e)
  cut_ahead Later e = stopped_ahead Later (script_cut Later w e) ∙ rw e
  cut_ahead Behind e = stopped_ahead Behind (script_cut Behind w e) ∙ rw e

-- whatever the bytes, what is ahead before a turn is ahead after it
pub turn_ahead : (pl : Place) (m : Mem) (w : List ℕ) → ahead pl m w ≡ on_turn pl (turned pl m w) w (turn pl (control_of m) w)
unfolding turn turned turn_on words_on on_turn
turn_ahead pl m w =
    each_placed (λ pl r. parse pl w ≡ r → ahead pl m w ≡ on_turn pl (words_on m w r) w (turn_on (control_of m) w r))
    (opened_ahead m w) (happened_ahead m w) (ended_ahead m w) (wrong_ahead m w) (cut_ahead m w) pl w refl

pub more_ahead : (pl : Place) (m : Mem) (w : List ℕ) → turn pl (control_of m) w ≡ More → ahead pl m w ≡ ended (at_end pl) (turned pl m w)
unfolding on_turn
more_ahead pl m w e = turn_ahead pl m w ∙ rw e

pub goes_ahead : {k : ℕ} {next : Place} {t : Option Heard} (pl : Place) (m : Mem) (w : List ℕ) → turn pl (control_of m) w ≡ Goes k next t
    → ahead pl m w ≡ ahead next (turned pl m w) (drop k w)
unfolding on_turn
goes_ahead pl m w e = turn_ahead pl m w ∙ rw e

pub ends_ahead : {x : Stop} (pl : Place) (m : Mem) (w : List ℕ) → turn pl (control_of m) w ≡ Ends x → ahead pl m w ≡ ended (Err x) (turned pl m w)
unfolding on_turn
ends_ahead pl m w e = turn_ahead pl m w ∙ rw e

-- ---- from the start, on a memory without a run: what the trace comes to
pub from_the_start : (w : List ℕ) → ahead First blank w ≡ ended (outcome w).ending (trace_words w)
unfolding ahead begin onward outcome outcome_of nobody trace_words left_by ended_by opens accepted
from_the_start w = go (script First w) (parse First w)
  where
    opened : (s : Script) (n : ℕ) (v : Verdict) → open_verdict n (length (values_of n w)) ≡ v
        → opens v (onward (begins blank n (values_of n w)) s) (begins blank n (values_of n w))
        ≡ ended (ended_by (night_verdict n (values_of n w) s.events) (closes s)) (night_words n (values_of n w) s.events)
    opened s n (Ok u) a = let on = night_goes_on n (values_of n w) s.events (ap accepted a) in rw (on.0, on.1)
    opened s n (Err r) a = let off = night_stops n (values_of n w) s.events (ap accepted a) in rw (off.0, off.1, a)

    go : (s : Script) (r : Reading) → begin blank w s r ≡ ended (outcome_of w s r).ending (left_by w s r)
    go s (Ok (Some (Opening n))) = opened s n (open_verdict n (length (values_of n w))) refl
    go s (Ok (Some (Happens e))) = refl
    go s (Ok (Some End)) = refl
    go s (Err x) = refl
    go s (Ok None) = refl

-- so where what is ahead from the start is an ending and a memory, these are the trace's
pub ahead_ends : (w : List ℕ) {x : Ending} {m : Mem} → ahead First blank w ≡ ended x m → (x ≡ (outcome w).ending) × (m ≡ trace_words w)
ahead_ends w e =
    let same = sym e ∙ from_the_start w in
    (ap (λ (a : Ahead). a.ending) same, ap (λ (a : Ahead). a.words) same)
