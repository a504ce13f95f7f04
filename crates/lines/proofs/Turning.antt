-- A piece while the trace is read, record by record: what each turn makes of it, and sends and receives taken all at once. Assumes nothing.
use Prim.Native.Nat.{ℕ, zero, suc, ◌+◌, ◌-◌, ◌≤◌, ◌<◌}
use native.Mathlib.Omega.{arith}
use mathlib.Core.Path.{◌≡◌, refl, ap, ◌∙◌}
use mathlib.Core.Bool.{Bool}
use mathlib.Core.List.{List, [], ◌∷◌, ◌++◌, append_assoc, append-nil}
use borrow.Author.Tests.{lt-ltb, le-ltb}
use lib.ListN.{length, drop}
use lib.Seq.{drop-drop}
use Rattle.words.specs.Layout.{Mem}
use Rattle.words.specs.Spelled.{control_of}
use Rattle.records.specs.declared.Place.{Place}
use Rattle.records.specs.declared.Place.TheVariants.{First, Later, Behind}
use Rattle.trace.specs.declared.Gone.{Gone}
use Rattle.trace.specs.Turns.{Turn, Goes}
use Rattle.std.specs.Prelude.{Some, None, Ok, Err}
use Rattle.trace.specs.Turns.{turn, turned}
use Rattle.trace.specs.Haste.{hasty_extent, stays, haste}
use Rattle.trace.proofs.Looping.{goes_within}
use Rattle.trace.proofs.Hastening.{haste_kept}
use Rattle.trace.proofs.Pausing.{no_bytes, more_kept}
use Rattle.lines.specs.declared.Stand.TheVariants.{Reads}
use Rattle.lines.specs.declared.Wants.TheVariants as wants
use Rattle.lines.specs.Pieces.{line_room, Part, rests, adds, told_text, on_turn, follow}

-- ---- one part of a piece after another
pub adds_adds : (a b : ℕ) (v w : List ℕ) (x : Part) → adds a v (adds b w x) ≡ adds (a + b) (v ++ w) x
unfolding adds
adds_adds a b v w x =
    let e : a + (b + x.used) ≡ a + b + x.used = omega arith in
    rw (e, append_assoc v w x.text)

pub adds_none : (x : Part) → x ≡ adds 0 [] x
unfolding adds
adds_none x = let e : 0 + x.used ≡ x.used = omega arith in rw e

-- ---- a piece while the trace is read, record by record
pub less_one : (k b : ℕ) (bs : List ℕ) → 0 < k → drop (k - 1) bs ≡ drop k (b ∷ bs)
less_one zero b bs l = absurd (omega arith)
less_one (suc k) b bs l = let e : suc k - 1 ≡ k = omega arith in rw e

behind_drop : (last : Bool) (room k : ℕ) (pl : Place) (m : Mem) (w : List ℕ) → follow last room k pl m w ≡ follow last room 0 pl m (drop k w)
unfolding follow
behind_drop last room zero pl m w = refl
behind_drop last room (suc k) pl m [] = refl
behind_drop last room (suc k) pl m (b ∷ bs) = behind_drop last room k pl m bs

next_drop : (last : Bool) (room k : ℕ) (pl : Place) (m : Mem) (b : ℕ) (bs : List ℕ) → 0 < k
    → follow last room (k - 1) pl m bs ≡ follow last room 0 pl m (drop k (b ∷ bs))
next_drop last room k pl m b bs l =
    behind_drop last room (k - 1) pl m bs ∙ ap (λ (w : List ℕ). follow last room 0 pl m w) (less_one k b bs l)

on_same : (last : Bool) (pl : Place) (m : Mem) (t : Turn) (f h : Gone → Part)
    → ((g : Gone) → t ≡ Ok (Some g) → f g ≡ h g) → on_turn last pl m t f ≡ on_turn last pl m t h
unfolding on_turn
on_same last pl m (Ok None) f h same = refl
on_same last pl m (Ok (Some g)) f h same = ap (adds g.used (told_text g.told)) (same g refl)
on_same last pl m (Err x) f h same = refl

module _ (last : Bool) (room : ℕ) (pl : Place) (m : Mem) where
  pub full_is : (w : List ℕ) → room < line_room → follow last room 0 pl m w ≡ rests (Reads pl) m wants.Room
  unfolding follow
  full_is [] l = rw (lt-ltb room line_room l)
  full_is (b ∷ bs) l = rw (lt-ltb room line_room l)

  pub turn_is : (w : List ℕ) → line_room ≤ room
      → follow last room 0 pl m w
      ≡ on_turn last pl (turned pl m w) (turn pl (control_of m) w) (λ g. follow last (room - length (told_text g.told)) 0 g.place (turned pl m w) (drop g.used w))
  unfolding follow on_turn
  turn_is [] l =
      let more = no_bytes pl (control_of m) in
      rw (le-ltb room line_room l, more, more_kept pl (control_of m) m [] more)
  turn_is (b ∷ bs) l =
      rw (le-ltb room line_room l)
      (on_same last pl (turned pl m (b ∷ bs)) (turn pl (control_of m) (b ∷ bs)) _ _
      (λ g e. next_drop last (room - length (told_text g.told)) g.used g.place (turned pl m (b ∷ bs)) b bs (goes_within pl (control_of m) (b ∷ bs) e).0))

  -- where nothing is told, the room stays
  nothing_told : (w : List ℕ) → turn Later (control_of m) w ≡ Goes hasty_extent Later None
      → on_turn last Later (turned Later m w) (turn Later (control_of m) w)
      (λ g. follow last (room - length (told_text g.told)) 0 g.place (turned Later m w) (drop g.used w))
      ≡ adds hasty_extent [] (follow last room 0 Later (turned Later m w) (drop hasty_extent w))
  unfolding on_turn told_text
  nothing_told w e = let same : room - 0 ≡ room = omega arith in rw (e, same)

-- ---- sends and receives taken all at once: the rest of a piece is a piece behind them
pub haste_part : (last : Bool) (x : Part) (text : List ℕ) (room : ℕ) → line_room ≤ room → (w : List ℕ) (used : ℕ) (pl : Place) (m : Mem)
    → x ≡ adds used text (follow last room 0 pl m (drop used w))
    → x ≡ adds (used + (haste pl m (drop used w)).used) text
    (follow last room 0 pl (haste pl m (drop used w)).words (drop (used + (haste pl m (drop used w)).used) w))
unfolding haste stays
haste_part last x text room wide w used First m e = let none : used + 0 ≡ used = omega arith in rw none e
haste_part last x text room wide w used Behind m e = let none : used + 0 ≡ used = omega arith in rw none e
haste_part last x text room wide w used Later m e =
    rw (← drop-drop (haste Later m (drop used w)).used used w)
    (haste_kept (λ u n v. x ≡ adds u text (follow last room 0 Later n v)) hasty_part used m (drop used w) e)
  where
    hasty_part : (u : ℕ) (n : Mem) (v : List ℕ) → turn Later (control_of n) v ≡ Goes hasty_extent Later None → hasty_extent ≤ length v
        → x ≡ adds u text (follow last room 0 Later n v)
        → x ≡ adds (u + hasty_extent) text (follow last room 0 Later (turned Later n v) (drop hasty_extent v))
    hasty_part u n v t l h =
        h
        ∙ ap (adds u text) (turn_is last room Later n v wide ∙ nothing_told last room Later n v t)
        ∙ adds_adds u hasty_extent text [] _
        ∙ rw (append-nil text)
