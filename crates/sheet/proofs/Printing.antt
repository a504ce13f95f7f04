-- What the program needs of the pieces: each brings it nearer to the end of what is at hand, and leaves room to read on. Assumes nothing.
use Prim.Native.Nat.{ℕ, ◌+◌, ◌≤◌, ◌<◌}
use mathlib.Core.Path.{◌≡◌, refl}
use mathlib.Core.Bool.{Bool}
use mathlib.Core.List.{List}
use lib.ListN.{length, drop}
use Rattle.words.specs.Layout.{Mem}
use Rattle.records.specs.Records.{longest}
use Rattle.lines.specs.declared.Stand.{Stand}
use Rattle.lines.specs.declared.Wants.TheVariants.{Input, Room}
use Rattle.lines.specs.declared.Piece.{Piece}
use Rattle.lines.specs.Pieces.{line_room, piece, said, Came}
use Rattle.lines.specs.Claims.{ahead}
use Rattle.lines.proofs.Progress.{goes_nearer}

-- ---- of a piece that waits for input little is left, and one that waits for room has come nearer
pub printed : {w out out' : List ℕ} {m' : Mem} {p : Piece} (last : Bool) (s : Stand) (m : Mem) → line_room ≤ length out
    → Came (piece last (length out) s m w) w out p m' out'
    → (p.used ≤ length w) × (p.wants ≡ Input → length w < p.used + longest) × (p.wants ≡ Room → ahead p.stand m' (drop p.used w) < ahead s m w)
unfolding said
printed {w} {out} last s m wide h =
    (h.within, h.short, rw (h.says, h.words) (goes_nearer last (length out) s m w (piece last (length out) s m w) wide refl))
