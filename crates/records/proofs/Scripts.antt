-- What all the bytes say, record by record; and that reading in pieces is reading the whole.
-- Assumes nothing.
use Prim.Native.Nat.{ℕ, zero, suc, ◌+◌, ◌-◌, ◌*◌, ◌≤◌, ◌<◌}
use native.Mathlib.Omega.{arith}
use mathlib.Core.Path.{◌≡◌, refl, sym, ap, ◌∙◌}
use mathlib.Core.List.{List, [], ◌∷◌, ◌++◌}
use lib.ListN.{length, drop}
use Rattle.std.specs.Prelude.{Some, None, Ok, Err}
use Rattle.rounds.specs.declared.Event.{Event}
use Rattle.records.specs.declared.Place.{Place}
use Rattle.records.specs.declared.Place.TheVariants.{Later, Behind}
use Rattle.records.specs.declared.Fault.{Fault}
use Rattle.records.specs.declared.Record.TheVariants.{Opening, Happens, End}
use Rattle.records.specs.Records.{Reading, parse, extent, extent_of, event_extent}
use Rattle.records.specs.Script.{Script, stopped, adds, on_record, script_behind, script, after, joined}
use Rattle.records.proofs.Cutting.{parse_more}
use Rattle.records.proofs.Whole.{extent_within, event_some, parse_none}

-- ---- record by record
behind_drop : (k : ℕ) (pl : Place) (w : List ℕ) → script_behind k pl w ≡ script_behind 0 pl (drop k w)
unfolding script_behind
behind_drop zero pl w = refl
behind_drop (suc k) pl [] = refl
behind_drop (suc k) pl (b ∷ bs) = behind_drop k pl bs

next_drop : (k : ℕ) (pl : Place) (b : ℕ) (bs : List ℕ) → 0 < k → script_behind (k - 1) pl bs ≡ script pl (drop k (b ∷ bs))
unfolding script
next_drop zero pl b bs l = absurd (omega arith)
next_drop (suc k) pl b bs l = let e : suc k - 1 ≡ k = omega arith in rw e (behind_drop k pl bs)

on_same : (pl : Place) (w : List ℕ) (r : Reading) (f g : ℕ → Place → Script) → ((k : ℕ) (next : Place) → 0 < k → f k next ≡ g k next)
    → on_record pl w r f ≡ on_record pl w r g
unfolding on_record extent
on_same pl w (Err x) f g same = refl
on_same pl w (Ok None) f g same = refl
on_same pl w (Ok (Some (Opening n))) f g same = same (4 + 4 * n) Later (omega arith)
on_same pl w (Ok (Some (Happens e))) f g same = ap (adds e) (same (event_extent e) Later (event_some e))
on_same pl w (Ok (Some End)) f g same = same 3 Behind (omega arith)

pub script_is : (pl : Place) (w : List ℕ) → script pl w ≡ on_record pl w (parse pl w) (λ k next. script next (drop k w))
unfolding script script_behind on_record
script_is pl [] = rw (parse_none pl)
script_is pl (b ∷ bs) = on_same pl (b ∷ bs) (parse pl (b ∷ bs)) _ _ (λ k next l. next_drop k next b bs l)

-- it stops where something is wrong, and where bytes are missing
pub script_wrong : (pl : Place) (w : List ℕ) (f : Fault) → parse pl w ≡ Err f → script pl w ≡ stopped pl w
unfolding on_record
script_wrong pl w f e = script_is pl w ∙ rw e

pub script_cut : (pl : Place) (w : List ℕ) → parse pl w ≡ Ok None → script pl w ≡ stopped pl w
unfolding on_record
script_cut pl w e = script_is pl w ∙ rw e

-- ---- reading in pieces
joined_adds : (e : Event) (s : Script) (more : List ℕ) → joined (adds e s) more ≡ adds e (joined s more)
unfolding joined adds after
joined_adds e s more = refl

-- only what is cut short waits for more
unfoldable waits : Reading → ℕ
waits (Err f) = 0
waits (Ok None) = 1
waits (Ok (Some r)) = 0

module _ (x : ℕ) (a b : List ℕ) (pl : Place) where
  same_record : (r : Reading) → parse pl (x ∷ a) ≡ r → waits r ≡ 0 → parse pl (x ∷ (a ++ b)) ≡ r
  unfolding waits
  same_record r e w = parse_more pl (x ∷ a) b (λ c. let z = ap waits (sym e ∙ c) in omega arith) ∙ e

  -- the record at the head of the first part, where the rest is read in pieces
  pieces_on : ((k : ℕ) (next : Place) → k ≤ length a → script_behind k next (a ++ b) ≡ joined (script_behind k next a) b)
      → (r : Reading) → parse pl (x ∷ a) ≡ r → extent_of r ≤ suc (length a)
      → on_record pl (x ∷ (a ++ b)) (parse pl (x ∷ (a ++ b))) (λ k next. script_behind (k - 1) next (a ++ b))
      ≡ joined (on_record pl (x ∷ a) r (λ k next. script_behind (k - 1) next a)) b
  unfolding on_record extent extent_of script_behind joined after stopped script waits
  pieces_on ih (Err f) e h = rw (same_record (Err f) e refl)
  pieces_on ih (Ok None) e h = refl
  pieces_on ih (Ok (Some (Opening n))) e h = rw (same_record (Ok (Some (Opening n))) e refl) (ih (4 + 4 * n - 1) Later (omega arith))
  pieces_on ih (Ok (Some (Happens v))) e h =
      rw (same_record (Ok (Some (Happens v))) e refl, ih (event_extent v - 1) Later (omega arith))
      (sym (joined_adds v (script_behind (event_extent v - 1) Later a) b))
  pieces_on ih (Ok (Some End)) e h = rw (same_record (Ok (Some End)) e refl) (ih 2 Behind (omega arith))

pieces : (a : List ℕ) (k : ℕ) (pl : Place) (b : List ℕ) → k ≤ length a → script_behind k pl (a ++ b) ≡ joined (script_behind k pl a) b
unfolding script_behind joined after stopped script
pieces [] zero pl b l = refl
pieces [] (suc k) pl b l = absurd (omega arith)
pieces (x ∷ a) (suc k) pl b l = pieces a k pl b (omega arith)
pieces (x ∷ a) zero pl b l =
    pieces_on x a b pl (λ k next h. pieces a k next b h) (parse pl (x ∷ a)) refl (extent_within pl (x ∷ a))

-- the bytes of two parts say what the first part says, and then what is left of it says with the second
pub script_in_pieces : (pl : Place) (a b : List ℕ) → script pl (a ++ b) ≡ joined (script pl a) b
unfolding script
script_in_pieces pl a b = pieces a 0 pl b (omega arith)
