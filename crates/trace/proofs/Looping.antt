-- What the loop of a replay needs: an accepted record goes over a byte at least and no further than the bytes, and what a turn at a place in the
-- trace leaves ahead. Assumes nothing.
use Prim.Native.Nat.{ℕ, ◌-◌, ◌≤◌, ◌<◌}
use native.Mathlib.Omega.{arith}
use mathlib.Core.Path.{◌≡◌, sym, ◌∙◌, subst}
use mathlib.Core.List.{List}
use lib.ListN.{length, take, drop}
use Rattle.rounds.specs.Verdicts.{Verdict}
use Rattle.rounds.specs.Config.{Control}
use Rattle.words.specs.Layout.{Mem}
use Rattle.words.specs.Spelled.{control_of}
use Rattle.words.specs.Calls.{blank}
use Rattle.records.specs.declared.Place.{Place}
use Rattle.records.specs.declared.Place.TheVariants.{First}
use Rattle.records.specs.declared.Record.TheVariants.{Opening, Happens, End}
use Rattle.records.specs.Records.{Reading, extent_of, parse, extent}
use Rattle.std.proofs.lemmas.List.{take_rest}
use Rattle.records.proofs.Whole.{extent_within, event_some}
use Rattle.std.specs.Prelude.{Option, Some, None, Ok, Err}
use Rattle.trace.specs.declared.Stop.{Stop}
use Rattle.trace.specs.declared.Heard.{Heard}
use Rattle.trace.specs.declared.Gone.{Gone}
use Rattle.trace.specs.Turns.{Turn, More, Goes, Ends, passes}
use Rattle.trace.specs.Outcome.{at_end, outcome}
use Rattle.trace.specs.Turns.{on_answer, on_opening, turn_on, turn, turned, trace_words}
use Rattle.trace.specs.Haste.{haste}
use Rattle.trace.proofs.Hastening.{haste_within, haste_ahead}
use Rattle.trace.proofs.Turning.{ahead, more_ahead, goes_ahead, ends_ahead, ahead_ends}

-- ---- an accepted record goes over a byte at least, and no further than the bytes
Within : List ℕ → Turn → Type 0
Within w (Ok None) = Unit {0}
Within w (Ok (Some g)) = (0 < g.used) × (g.used ≤ length w)
Within w (Err x) = Unit {0}

passes_within : (w : List ℕ) (v : Verdict) (k : ℕ) (t : Option Heard) → 0 < k → k ≤ length w → Within w (passes v k t)
unfolding passes Within
passes_within w (Ok u) k t some l = (some, l)
passes_within w (Err r) k t some l = tt

record_within : (c : Control) (w : List ℕ) (r : Reading) → extent_of r ≤ length w → Within w (turn_on c w r)
unfolding turn_on on_opening on_answer extent extent_of Within
record_within c w (Ok (Some (Opening n))) l = passes_within w _ _ _ (omega arith) l
record_within c w (Ok (Some (Happens e))) l = passes_within w _ _ _ (event_some e) l
record_within c w (Ok (Some End)) l = (omega arith, l)
record_within c w (Err f) l = tt
record_within c w (Ok None) l = tt

pub goes_within : {k : ℕ} {next : Place} {t : Option Heard} (pl : Place) (c : Control) (w : List ℕ) → turn pl c w ≡ Goes k next t → (0 < k) × (k ≤ length w)
unfolding turn Within
goes_within pl c w e = subst (Within w) e (record_within c w (parse pl w) (extent_within pl w))

-- ---- how far the loop has come: what is ahead of the bytes v that are left is what is ahead of the whole trace w
pub record ComeTo (w : List ℕ) (pl : Place) (m : Mem) (v : List ℕ) : Type 0 where
  pub ahead_of : ahead pl m v ≡ ahead First blank w

-- ---- sends and receives taken all at once from there on: m' is the memory that they leave
pub hastened : {w v : List ℕ} {pl : Place} {m m' : Mem} {more : ℕ} → ComeTo w pl m v
    → (more ≡ (haste pl m v).used) × (m' ≡ (haste pl m v).words) → ComeTo w pl m' (drop more v)
hastened {v = v} {pl = pl} {m = m} h e = record { ahead_of = rw (e.0, e.1) (sym (haste_ahead pl m v) ∙ h.ahead_of) }

pub hastened_within : (pl : Place) (m : Mem) (v : List ℕ) {m' : Mem} {more : ℕ} → (more ≡ (haste pl m v).used) × (m' ≡ (haste pl m v).words) → more ≤ length v
hastened_within pl m v e = rw e.0 (haste_within pl m v)

-- ---- the turn there, behind the first k of the bytes v: x is its answer, and m' the memory that it leaves
module _ (v : List ℕ) (k : ℕ) {w : List ℕ} {pl : Place} {m m' : Mem} {x : Turn} (h : ComeTo w pl m (drop k v))
    (e : (x ≡ turn pl (control_of m) (take (length v - k) (drop k v))) × (m' ≡ turned pl m (take (length v - k) (drop k v)))) where
  answers : x ≡ turn pl (control_of m) (drop k v)
  answers = rw take_rest at e.0

  leaves : m' ≡ turned pl m (drop k v)
  leaves = rw take_rest at e.1

  pub goes_far : {g : Gone} → x ≡ Ok (Some g) → (0 < g.used) × (g.used ≤ length (take (length v - k) (drop k v)))
  goes_far q = rw take_rest (goes_within pl (control_of m) (drop k v) (sym answers ∙ q))

  pub goes_on : {g : Gone} → x ≡ Ok (Some g) → ComeTo w g.place m' (drop g.used (drop k v))
  goes_on q = record { ahead_of = rw leaves (sym (goes_ahead pl m (drop k v) (sym answers ∙ q)) ∙ h.ahead_of) }

  pub more_last : x ≡ More → (at_end pl ≡ (outcome w).ending) × (m' ≡ trace_words w)
  more_last q = ahead_ends w (rw leaves (sym h.ahead_of ∙ more_ahead pl m (drop k v) (sym answers ∙ q)))

  pub ends_last : {y : Stop} → x ≡ Ends y → (Err y ≡ (outcome w).ending) × (m' ≡ trace_words w)
  ends_last q = ahead_ends w (rw leaves (sym h.ahead_of ∙ ends_ahead pl m (drop k v) (sym answers ∙ q)))
