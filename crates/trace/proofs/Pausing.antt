-- What comes of a whole record is the same whatever bytes follow it: so a reading may pause wherever bytes are missing, and go on when more have come.
-- Assumes nothing.
use Prim.Native.Nat.{ℕ, ◌≤◌}
use native.Mathlib.Omega.{arith}
use mathlib.Core.Path.{◌≡◌, refl}
use mathlib.Core.List.{List, [], ◌++◌}
use lib.ListN.{length}
use Rattle.rounds.specs.Verdicts.{Verdict}
use Rattle.rounds.specs.Config.{Control}
use Rattle.words.specs.Layout.{Mem}
use Rattle.records.specs.declared.Place.{Place}
use Rattle.records.specs.declared.Record.TheVariants.{Opening, Happens, End}
use Rattle.records.specs.Records.{Reading, extent_of, parse, extent}
use Rattle.records.proofs.Cutting.{parse_more}
use Rattle.records.proofs.Whole.{extent_within, parse_none}
use Rattle.std.specs.Prelude.{Option, Some, None, Ok, Err}
use Rattle.trace.specs.declared.Stop.{Stop}
use Rattle.trace.specs.declared.Heard.{Heard}
use Rattle.trace.specs.Turns.{Turn, More, Goes, Ends, passes}
use Rattle.trace.specs.Turns.{on_answer, on_opening, turn_on, words_on, turn, turned}
use Rattle.trace.proofs.Values.{values_more}

-- ---- only where bytes are missing is more asked for
pub no_bytes : (pl : Place) (c : Control) → turn pl c [] ≡ More
unfolding turn turn_on
no_bytes pl c = rw (parse_none pl)

pub goes_not : {k : ℕ} {next : Place} {y : Option Heard} {t : Turn} → t ≡ Goes k next y → t ≡ More → ⊥
goes_not e f = let q : ◌≡◌ {A = ℕ} 0 1 = cc in omega arith

pub ends_not : {x : Stop} {t : Turn} → t ≡ Ends x → t ≡ More → ⊥
ends_not e f = let q : ◌≡◌ {A = ℕ} 0 1 = cc in omega arith

judged_not : (v : Verdict) (k : ℕ) (y : Option Heard) → passes v k y ≡ More → ⊥
unfolding passes
judged_not (Ok u) k y = goes_not refl
judged_not (Err r) k y = ends_not refl

pub more_cut : (pl : Place) (c : Control) (w : List ℕ) → turn pl c w ≡ More → parse pl w ≡ Ok None
unfolding turn turn_on on_opening on_answer
more_cut pl c w = go (parse pl w)
  where
    go : (r : Reading) → turn_on c w r ≡ More → r ≡ Ok None
    go (Ok (Some (Opening n))) e = absurd (judged_not _ _ _ e)
    go (Ok (Some (Happens v))) e = absurd (judged_not _ _ _ e)
    go (Ok (Some End)) e = absurd (goes_not refl e)
    go (Err f) e = absurd (ends_not refl e)
    go (Ok None) e = refl

-- and the memory stays as it was
pub more_kept : (pl : Place) (c : Control) (m : Mem) (w : List ℕ) → turn pl c w ≡ More → turned pl m w ≡ m
unfolding turned words_on
more_kept pl c m w e = rw (more_cut pl c w e)

-- ---- bytes that follow a whole record
module _ (w more : List ℕ) where
  on_more : (c : Control) (r : Reading) → extent_of r ≤ length w → turn_on c (w ++ more) r ≡ turn_on c w r
  unfolding turn_on extent extent_of
  on_more c (Ok (Some (Opening n))) l = rw (values_more n w more l)
  on_more c (Ok (Some (Happens e))) l = refl
  on_more c (Ok (Some End)) l = refl
  on_more c (Err f) l = refl
  on_more c (Ok None) l = refl

  words_more : (m : Mem) (r : Reading) → extent_of r ≤ length w → words_on m (w ++ more) r ≡ words_on m w r
  unfolding words_on extent extent_of
  words_more m (Ok (Some (Opening n))) l = rw (values_more n w more l)
  words_more m (Ok (Some (Happens e))) l = refl
  words_more m (Ok (Some End)) l = refl
  words_more m (Err f) l = refl
  words_more m (Ok None) l = refl

  whole : (pl : Place) (c : Control) → (turn pl c w ≡ More → ⊥) → parse pl w ≡ Ok None → ⊥
  unfolding turn turn_on
  whole pl c h e = h (rw e)

  pub turn_more : (pl : Place) (c : Control) → (turn pl c w ≡ More → ⊥) → turn pl c (w ++ more) ≡ turn pl c w
  unfolding turn
  turn_more pl c h = rw (parse_more pl w more (whole pl c h)) (on_more c (parse pl w) (extent_within pl w))

  pub turned_more : (pl : Place) (c : Control) (m : Mem) → (turn pl c w ≡ More → ⊥) → turned pl m (w ++ more) ≡ turned pl m w
  unfolding turned
  turned_more pl c m h = rw (parse_more pl w more (whole pl c h)) (words_more m (parse pl w) (extent_within pl w))
