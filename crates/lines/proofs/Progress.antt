-- A piece that has room for a line goes on: where it waits for room again, it has come nearer to the end of what is at hand. So a program that gives
-- every piece room for a line comes to where the trace is waited for, or to the end of the sheet. Assumes nothing.
use Prim.Native.Nat.{ℕ, zero, suc, ◌+◌, ◌-◌, ◌≤◌, ◌<◌}
use native.Mathlib.Omega.{arith}
use mathlib.Core.Path.{◌≡◌, refl}
use mathlib.Core.Bool.{Bool, true, false, cond}
use mathlib.Core.List.{List, [], ◌∷◌}
use borrow.Author.Tests.{le-ltb}
use lib.Dec.{ltb}
use lib.ListN.{length, drop, length-drop}
use lib.Seq.{drop-nil, drop-drop}
use Rattle.rounds.specs.Limits.{most_processes}
use Rattle.words.specs.Layout.{Mem}
use Rattle.words.specs.Spelled.{control_of}
use Rattle.words.proofs.Reading.{people_most}
use Rattle.records.specs.declared.Place.{Place}
use Rattle.trace.specs.declared.Gone.{Gone}
use Rattle.trace.specs.Turns.{Turn}
use Rattle.std.specs.Prelude.{Some, None, Ok, Err}
use Rattle.trace.specs.Outcome.{ending_number, at_end}
use Rattle.trace.specs.Turns.{turn, turned}
use Rattle.trace.proofs.Looping.{goes_within}
use Rattle.lines.specs.declared.Stand.{Stand}
use Rattle.lines.specs.declared.Stand.TheVariants.{Reads, Closes}
use Rattle.lines.specs.declared.Wants.{Wants}
use Rattle.lines.specs.declared.Wants.TheVariants as wants
use Rattle.lines.specs.Pieces.{line_room, Part, rests, adds, told_text, waits, on_turn, follow, closing_line, closing_count, closing, piece}
use Rattle.lines.specs.Claims.{ahead}
use Rattle.lines.proofs.Turning.{less_one, turn_is}

abbrev most_lines : ℕ
most_lines = most_processes + most_processes + 1

few_lines : (m : Mem) → closing_count m ≤ most_lines
unfolding closing_count
few_lines m = let most = people_most m in omega arith

-- ---- where a piece waits for room, it stands at most so far from the end
IfRoom : Wants → Type 0 → Type 0
IfRoom wants.Input t = Unit {0}
IfRoom wants.Room t = t
IfRoom wants.Nothing t = Unit {0}

Near : ℕ → List ℕ → Part → Type 0
Near far held x = IfRoom x.wants (ahead x.stand x.words (drop x.used held) ≤ far)

if_less : (v : Wants) (a far more : ℕ) → far ≤ more → IfRoom v (a ≤ far) → IfRoom v (a ≤ more)
unfolding IfRoom
if_less wants.Input a far more l h = tt
if_less wants.Room a far more l h = omega arith
if_less wants.Nothing a far more l h = tt

nearer : (far more : ℕ) (held : List ℕ) (x : Part) → far ≤ more → Near far held x → Near more held x
unfolding Near
nearer far more held x l h = if_less x.wants (ahead x.stand x.words (drop x.used held)) far more l h

near_adds : (k far more : ℕ) (text held : List ℕ) (x : Part) → far ≤ more → Near far (drop k held) x → Near more held (adds k text x)
unfolding Near adds
near_adds k far more text held x l h =
    nearer far more held (adds k text x) l (rw (drop-drop x.used k held) at h)

-- ---- while the trace is read
module _ (last : Bool) where
  distance : List ℕ → ℕ
  distance held = length held + most_lines + 1

  rests_near : (pl : Place) (m : Mem) (held : List ℕ) → Near (distance held) held (rests (Reads pl) m wants.Room)
  unfolding Near IfRoom rests ahead distance
  rests_near pl m held = omega arith

  closes_near : (number : ℕ) (m : Mem) (held : List ℕ) → Near most_lines held (rests (Closes number 0) m wants.Room)
  unfolding Near IfRoom rests ahead
  closes_near number m held = let few = few_lines m in omega arith

  waits_near : (b : Bool) (pl : Place) (m : Mem) (held : List ℕ) → Near most_lines held (waits b pl m)
  unfolding waits Near IfRoom rests
  waits_near true pl m held = closes_near (ending_number (at_end pl)) m held
  waits_near false pl m held = tt

  full_near : (b : Bool) (pl : Place) (m : Mem) (held : List ℕ) (x : Part) → Near (distance held) held x
      → Near (distance held) held (cond b (rests (Reads pl) m wants.Room) x)
  full_near true pl m held x h = rests_near pl m held
  full_near false pl m held x h = h

  -- a turn brings it nearer, if it brings it anywhere
  turn_near : (pl : Place) (m : Mem) (held : List ℕ) (t : Turn) → turn pl (control_of m) held ≡ t → (next : Gone → Part)
      → ((g : Gone) → turn pl (control_of m) held ≡ Ok (Some g) → Near (distance (drop g.used held)) (drop g.used held) (next g))
      → Near (length held + most_lines) held (on_turn last pl (turned pl m held) t next)
  unfolding on_turn distance
  turn_near pl m held (Ok None) e next f =
      nearer most_lines (length held + most_lines) held (waits last pl (turned pl m held)) (omega arith) (waits_near last pl (turned pl m held) held)
  turn_near pl m held (Ok (Some g)) e next f =
      let within = goes_within pl (control_of m) held e in
      near_adds g.used (distance (drop g.used held)) (length held + most_lines) (told_text g.told) held (next g)
      (omega (arith, length-drop g.used held, within.0, within.1)) (f g e)
  turn_near pl m held (Err x) e next f =
      nearer most_lines (length held + most_lines) held (rests (Closes (ending_number (Err x)) 0) (turned pl m held) wants.Room) (omega arith)
      (closes_near (ending_number (Err x)) (turned pl m held) held)

  follow_near : (bs : List ℕ) (room k : ℕ) (pl : Place) (m : Mem) → Near (distance (drop k bs)) (drop k bs) (follow last room k pl m bs)
  unfolding follow distance
  follow_near [] room k pl m =
      rw (drop-nil {A = ℕ} k)
      (full_near (ltb room line_room) pl m [] (waits last pl m) (nearer most_lines (distance []) [] (waits last pl m) (omega arith) (waits_near last pl m [])))
  follow_near (b ∷ bs) room (suc k) pl m = follow_near bs room k pl m
  follow_near (b ∷ bs) room zero pl m =
      full_near (ltb room line_room) pl m (b ∷ bs) _
      (nearer (length (b ∷ bs) + most_lines) (distance (b ∷ bs)) (b ∷ bs) _ (omega arith)
      (turn_near pl m (b ∷ bs) (turn pl (control_of m) (b ∷ bs)) refl _
      (λ g e.
      (let q : drop (g.used - 1) bs ≡ drop g.used (b ∷ bs) = less_one g.used b bs (goes_within pl (control_of m) (b ∷ bs) e).0 in
      rw q at (follow_near bs (room - length (told_text g.told)) (g.used - 1) g.place (turned pl m (b ∷ bs)))))))

-- ---- when it has ended
closing_near : (j room number k : ℕ) (m : Mem) (held : List ℕ) → closing_count m - k ≡ j → Near j held (closing room j number k m)
unfolding closing Near IfRoom rests ahead
closing_near zero room number k m held e = tt
closing_near (suc j) room number k m held e = go (ltb room line_room) (closing_near j (room - length (closing_line m number k)) number (k + 1) m held (omega arith))
  where
    go : (b : Bool) → Near j held (closing (room - length (closing_line m number k)) j number (k + 1) m)
        → Near (suc j) held
        (cond b (rests (Closes number k) m wants.Room)
        (adds 0 (closing_line m number k) (closing (room - length (closing_line m number k)) j number (k + 1) m)))
    go true h = omega arith
    go false h = near_adds 0 j (suc j) (closing_line m number k) held _ (omega arith) h

-- ---- with room for a line
Nearer : ℕ → List ℕ → Part → Type 0
Nearer far held x = IfRoom x.wants (ahead x.stand x.words (drop x.used held) < far)

strictly : (far : ℕ) (held : List ℕ) (x : Part) → Near far held x → Nearer (far + 1) held x
unfolding Near Nearer IfRoom
strictly far held x h = go x.wants (ahead x.stand x.words (drop x.used held)) h
  where
    go : (v : Wants) (a : ℕ) → IfRoom v (a ≤ far) → IfRoom v (a < far + 1)
    go wants.Input a h = tt
    go wants.Room a h = omega arith
    go wants.Nothing a h = tt

follow_nearer : (last : Bool) (room : ℕ) (pl : Place) (m : Mem) (held : List ℕ) → line_room ≤ room
    → Nearer (length held + most_lines + 1) held (follow last room 0 pl m held)
follow_nearer last room pl m held wide =
    rw (turn_is last room pl m held wide)
    (strictly (length held + most_lines) held _
    (turn_near last pl m held (turn pl (control_of m) held) refl _
    (λ g e. follow_near last (drop g.used held) (room - length (told_text g.told)) 0 g.place (turned pl m held))))

closing_nearer : (j room number k : ℕ) (m : Mem) (held : List ℕ) → line_room ≤ room → closing_count m - k ≡ j
    → Nearer j held (closing room j number k m)
unfolding closing Nearer IfRoom rests
closing_nearer zero room number k m held wide e = tt
closing_nearer (suc j) room number k m held wide e =
    let s : suc j ≡ j + 1 = omega arith in
    rw (le-ltb room line_room wide, s)
    (strictly j held _
    (near_adds 0 j j (closing_line m number k) held _ (omega arith)
    (closing_near j (room - length (closing_line m number k)) number (k + 1) m held (omega arith))))

piece_nearer : (last : Bool) (room : ℕ) (s : Stand) (m : Mem) (held : List ℕ) → line_room ≤ room → Nearer (ahead s m held) held (piece last room s m held)
unfolding piece ahead
piece_nearer last room (Reads pl) m held wide = follow_nearer last room pl m held wide
piece_nearer last room (Closes number k) m held wide = closing_nearer (closing_count m - k) room number k m held wide refl

pub goes_nearer : (last : Bool) (room : ℕ) (s : Stand) (m : Mem) (held : List ℕ) (x : Part) → line_room ≤ room → x ≡ piece last room s m held
    → x.wants ≡ wants.Room → ahead x.stand x.words (drop x.used held) < ahead s m held
unfolding Nearer IfRoom
goes_nearer last room s m held x wide e v =
    let near : Nearer (ahead s m held) held x = rw e (piece_nearer last room s m held wide) in
    rw v at near
