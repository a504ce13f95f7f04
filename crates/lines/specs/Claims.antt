-- What the statements about the sheet speak of. Assumes nothing.
use Rattle.std.specs.Prelude.{ℕ, ◌+◌, ◌-◌, ◌≡◌, Bool, true, List, [], ◌++◌, length, drop}
use Rattle.rounds.specs.Limits.{most_processes}
use Rattle.words.specs.Layout.{Mem}
use Rattle.words.specs.Calls.{blank}
use Rattle.records.specs.declared.Place.TheVariants.{First}
use Rattle.lines.specs.declared.Stand.{Stand}
use Rattle.lines.specs.declared.Stand.TheVariants.{Reads, Closes}
use Rattle.lines.specs.Pieces.{Part, closing_count, piece}

-- where the writing of a sheet begins
unfoldable pub first : Stand
first = Reads First

-- ---- the writing of the sheet of the trace w by a program that takes the trace in parts, of any length, and writes pieces, into any room, in any
-- turn: the bytes that it has not taken yet, where the writing stands, the memory, the bytes that it holds, and the text that it has written
pub data Session (w : List ℕ) : List ℕ → Stand → Mem → List ℕ → List ℕ → Type 0 where
  starts : Session w w first blank [] []
  takes : {unread held text : List ℕ} {s : Stand} {m : Mem} (part : List ℕ) → Session w (part ++ unread) s m held text
      → Session w unread s m (held ++ part) text
  -- only where nothing is left to take may a piece be called the last
  writes : {unread held text : List ℕ} {s : Stand} {m : Mem} → Session w unread s m held text
      → (last : Bool) → (last ≡ true → unread ≡ []) → (room : ℕ) (x : Part) → x ≡ piece last room s m held
      → Session w unread x.stand x.words (drop x.used held) (text ++ x.text)

-- ---- how far a piece is from the end of what is at hand: the bytes that are held, and the lines that close the sheet
unfoldable pub ahead : Stand → Mem → List ℕ → ℕ
ahead (Reads pl) m held = length held + (most_processes + most_processes + 1) + 1
ahead (Closes number k) m held = closing_count m - k
