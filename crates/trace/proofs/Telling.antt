-- What a trace read record by record tells: each record its part, and all of it, one part after the other, is what the whole trace reports.
-- Assumes nothing.
use Prim.Native.Nat.{ℕ, ◌+◌, ◌*◌}
use mathlib.Core.Path.{◌≡◌, refl, ◌∙◌}
use mathlib.Core.Bool.{Bool, true, false, cond}
use mathlib.Core.List.{List, [], ◌∷◌, ◌++◌}
use lib.ListN.{length, drop}
use Rattle.rounds.specs.declared.Event.{Event}
use Rattle.rounds.specs.Config.{Control, Config, open_control, opening}
use Rattle.rounds.specs.Verdicts.{Verdict, accepted, open_verdict, verdict}
use Rattle.rounds.specs.Events.{if_accepted, apply_control, apply}
use Rattle.rounds.specs.Runs.{Report, told, reports, heeded, value_at, night_reports}
use Rattle.words.specs.Calls.{Answer}
use Rattle.words.specs.Layout.{Mem}
use Rattle.words.specs.Spelled.{control_of}
use Rattle.words.specs.Calls.{blank, opened, begins, applied, answer as answer_of}
use Rattle.words.specs.Shows.{Shows, reported}
use Rattle.words.proofs.Answering.{answer_verdict, verdict_shown, answer_shown, answer_report}
use Rattle.words.proofs.Meaning.{shows_next}
use Rattle.words.proofs.Replaying.{opens_shows}
use Rattle.records.specs.declared.Place.{Place}
use Rattle.records.specs.declared.Place.TheVariants.{First, Later, Behind}
use Rattle.records.specs.declared.Fault.{Fault}
use Rattle.records.specs.declared.Record.TheVariants.{Opening, Happens, End}
use Rattle.records.specs.Records.{Reading, parse, extent, event_extent}
use Rattle.records.specs.Script.{Script, values_of, stopped, adds, on_record, script}
use Rattle.records.proofs.Whole.{each_placed}
use Rattle.records.proofs.Scripts.{script_is, script_wrong, script_cut}
use Rattle.std.specs.Prelude.{Option, Some, None, Ok, Err}
use Rattle.trace.specs.declared.Stop.{Stop}
use Rattle.trace.specs.declared.Heard.{Heard}
use Rattle.trace.specs.Turns.{Turn, More, Goes, Ends, passes}
use Rattle.trace.specs.Outcome.{nobody, outcome_of, outcome}
use Rattle.trace.specs.Turns.{reports_of, on_answer, on_opening, tells, turn_on, words_on, turn, turned}

-- ---- what an accepted event tells is the heard-of set that the abstract machine reports
told_same : (e : Event) (a : Answer) → reports_of (tells e a) ≡ reported e a
unfolding reports_of tells reported
told_same e (Ok None) = refl
told_same e (Ok (Some f)) = refl
told_same e (Err r) = refl

pub tells_reports : (c : Control) (e : Event) → reports_of (tells e (answer_of c e)) ≡ if_accepted (verdict c e) (told c e) []
tells_reports c e = told_same e (answer_of c e) ∙ answer_report c e

-- ---- events over a memory, up to the first that is refused
telling : Mem → List Event → List Report
telling m [] = []
telling m (e ∷ es) = let r = reports_of (tells e (answer_of (control_of m) e)) ++ telling (applied m e) es in if_accepted (verdict (control_of m) e) r []

-- where the memory shows a configuration, they tell what the abstract machine reports
telling_shown : (es : List Event) (m : Mem) (c : Config) → Shows m c → telling m es ≡ reports c (heeded c.control es)
unfolding telling heeded reports if_accepted apply
telling_shown [] m c k = refl
telling_shown (e ∷ es) m c k =
    rw (
      verdict_shown m c.control c.content k.few k.shown e,
      answer_shown m c.control c.content k.few k.shown e,
      tells_reports c.control e,
      telling_shown es (applied m e) (apply c e) (shows_next m c e k),
    )
    (go (accepted (verdict c.control e)))
  where
    go : (b : Bool)
        → cond b (if_accepted (verdict c.control e) (told c.control e) [] ++ reports (apply c e) (heeded (apply c e).control es)) []
        ≡ reports c (cond b (e ∷ heeded (apply_control c.control e) es) [])
    go true = refl
    go false = refl

-- ---- what is ahead of a reading
begin : Mem → List ℕ → Script → Reading → List Report
begin m w s (Ok (Some (Opening n))) = let xs = values_of n w in if_accepted (open_verdict n (length xs)) (telling (begins m n xs) s.events) []
begin m w s (Ok (Some (Happens e))) = []
begin m w s (Ok (Some End)) = []
begin m w s (Err f) = []
begin m w s (Ok None) = []

pub told_ahead : Place → Mem → List ℕ → List Report
told_ahead First m w = begin m w (script First w) (parse First w)
told_ahead Later m w = telling m (script Later w).events
told_ahead Behind m w = telling m (script Behind w).events

-- after a turn, where m is the memory that it leaves
on_turn : Mem → List ℕ → Turn → List Report
on_turn m w (Ok None) = []
on_turn m w (Ok (Some g)) = reports_of g.told ++ told_ahead g.place m (drop g.used w)
on_turn m w (Err x) = []

module _ (m : Mem) (w : List ℕ) where
  opened_tells : (n : ℕ) → parse First w ≡ Ok (Some (Opening n)) → told_ahead First m w ≡ on_turn (begins m n (values_of n w)) w (on_opening n (values_of n w))
  unfolding told_ahead begin on_record on_opening if_accepted accepted passes on_turn extent reports_of
  opened_tells n e = rw (script_is First w, e) (go (open_verdict n (length (values_of n w))))
    where
      go : (v : Verdict)
          → if_accepted v (telling (begins m n (values_of n w)) (script Later (drop (4 + 4 * n) w)).events) []
          ≡ on_turn (begins m n (values_of n w)) w (passes v (4 + 4 * n) None)
      go (Ok u) = refl
      go (Err r) = refl

  happened_tells : (e : Event) → parse Later w ≡ Ok (Some (Happens e)) → told_ahead Later m w ≡ on_turn (applied m e) w (on_answer e (answer_of (control_of m) e))
  unfolding told_ahead telling on_record adds on_answer if_accepted accepted passes on_turn extent
  happened_tells e q = rw (script_is Later w, q, answer_verdict (control_of m) e) (go (verdict (control_of m) e))
    where
      go : (v : Verdict)
          → if_accepted v (reports_of (tells e (answer_of (control_of m) e)) ++ telling (applied m e) (script Later (drop (event_extent e) w)).events) []
          ≡ on_turn (applied m e) w (passes v (event_extent e) (tells e (answer_of (control_of m) e)))
      go (Ok u) = refl
      go (Err r) = refl

  ended_tells : parse Later w ≡ Ok (Some End) → told_ahead Later m w ≡ told_ahead Behind m (drop (extent End) w)
  unfolding told_ahead on_record extent
  ended_tells e = rw (script_is Later w, e)

  -- where the reading stops nothing is told
  stopped_tells : (pl : Place) → script pl w ≡ stopped pl w → telling m (script pl w).events ≡ []
  unfolding telling stopped
  stopped_tells pl e = rw e

  wrong_tells : (pl : Place) (x : Fault) → parse pl w ≡ Err x → told_ahead pl m w ≡ []
  unfolding told_ahead begin
  wrong_tells First x e = rw e
  wrong_tells Later x e = stopped_tells Later (script_wrong Later w x e)
  wrong_tells Behind x e = stopped_tells Behind (script_wrong Behind w x e)

  cut_tells : (pl : Place) → parse pl w ≡ Ok None → told_ahead pl m w ≡ []
  unfolding told_ahead begin
  cut_tells First e = rw e
  cut_tells Later e = stopped_tells Later (script_cut Later w e)
  cut_tells Behind e = stopped_tells Behind (script_cut Behind w e)

-- ---- a turn: what is told ahead of it is what it tells, and then what is told ahead after it
turn_tells : (pl : Place) (m : Mem) (w : List ℕ) → told_ahead pl m w ≡ on_turn (turned pl m w) w (turn pl (control_of m) w)
unfolding turn turned turn_on words_on on_turn reports_of
turn_tells pl m w =
    each_placed (λ pl r. parse pl w ≡ r → told_ahead pl m w ≡ on_turn (words_on m w r) w (turn_on (control_of m) w r))
    (opened_tells m w) (happened_tells m w) (ended_tells m w) (wrong_tells m w) (cut_tells m w) pl w refl

pub more_tells : (pl : Place) (m : Mem) (w : List ℕ) → turn pl (control_of m) w ≡ More → told_ahead pl m w ≡ []
unfolding on_turn
more_tells pl m w e = turn_tells pl m w ∙ rw e

pub goes_tells : {k : ℕ} {next : Place} {t : Option Heard} (pl : Place) (m : Mem) (w : List ℕ) → turn pl (control_of m) w ≡ Goes k next t
    → told_ahead pl m w ≡ reports_of t ++ told_ahead next (turned pl m w) (drop k w)
unfolding on_turn
goes_tells pl m w e = turn_tells pl m w ∙ rw e

pub ends_tells : {x : Stop} (pl : Place) (m : Mem) (w : List ℕ) → turn pl (control_of m) w ≡ Ends x → told_ahead pl m w ≡ []
unfolding on_turn
ends_tells pl m w e = turn_tells pl m w ∙ rw e

-- ---- from the start, on a memory without a run: what the trace reports
pub told_from_the_start : (w : List ℕ) → told_ahead First blank w ≡ (outcome w).reports
unfolding told_ahead begin outcome outcome_of nobody night_reports begins if_accepted opening
told_from_the_start w = go (script First w) (parse First w)
  where
    opens : (s : Script) (n : ℕ) (b : Bool) → accepted (open_verdict n (length (values_of n w))) ≡ b
        → cond b (telling (cond b (opened n (values_of n w)) blank) s.events) []
        ≡ cond b (reports (opening n (value_at (values_of n w))) (heeded (open_control n) s.events)) []
    opens s n true a = telling_shown s.events (opened n (values_of n w)) (opening n (value_at (values_of n w))) (opens_shows n (values_of n w) a)
    opens s n false a = refl

    go : (s : Script) (r : Reading) → begin blank w s r ≡ (outcome_of w s r).reports
    go s (Ok (Some (Opening n))) = opens s n (accepted (open_verdict n (length (values_of n w)))) refl
    go s (Ok (Some (Happens e))) = refl
    go s (Ok (Some End)) = refl
    go s (Err x) = refl
    go s (Ok None) = refl
