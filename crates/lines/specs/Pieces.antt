-- A piece of the sheet: what is written of it where it stands, from the bytes of the trace that are at hand and with the room that there is.
-- It goes by what the words of a memory spell. Assumes nothing.
use Rattle.std.specs.Prelude.{ℕ, zero, suc, ◌+◌, ◌-◌, ◌≤◌, ◌<◌, ◌≡◌, Bool, true, false, cond, List, [], ◌∷◌, ◌++◌, ltb, length}
use Rattle.words.specs.Layout.{Mem}
use Rattle.words.specs.Spelled.{control_of, people}
use Rattle.words.specs.Calls.{standing_of}
use Rattle.records.specs.declared.Place.{Place}
use Rattle.records.specs.Records.{longest}
use Rattle.records.specs.Stored.{over}
use Rattle.trace.specs.declared.Heard.{Heard}
use Rattle.trace.specs.declared.Gone.{Gone}
use Rattle.std.specs.Prelude.{Option, Some, None, Ok, Err}
use Rattle.trace.specs.Outcome.{ending_number, at_end}
use Rattle.trace.specs.Turns.{Turn, turn, turned}
use Rattle.lines.specs.declared.Stand.{Stand}
use Rattle.lines.specs.declared.Stand.TheVariants.{Reads, Closes}
use Rattle.lines.specs.declared.Wants.{Wants}
use Rattle.lines.specs.declared.Wants.TheVariants as wants
use Rattle.lines.specs.declared.Piece.{Piece}
use Rattle.lines.specs.Text.{h_line, w_line, v_line, e_line}

-- the room that is asked for before a line: that of the longest there can be
abbrev pub line_room : ℕ
line_room = 66

-- ---- a piece: its text, the bytes that it used, where the writing stands then, the words of the memory, and what is waited for
pub record Part : Type 0 where
  pub text : List ℕ
  pub used : ℕ
  pub stand : Stand
  pub words : Mem
  pub wants : Wants

-- nothing more is written
unfoldable pub rests : Stand → Mem → Wants → Part
rests s m x = record { text = []; used = 0; stand = s; words = m; wants = x }

-- text before what follows, for so many bytes
unfoldable pub adds : ℕ → List ℕ → Part → Part
adds k text x = record { text = text ++ x.text; used = k + x.used; stand = x.stand; words = x.words; wants = x.wants }

-- ---- while the trace is read: the line of each accepted step
unfoldable pub told_text : Option Heard → List ℕ
told_text None = []
told_text (Some t) = h_line t.process t.round t.heard

-- where bytes are missing: the last of the trace have come, or more are waited for
unfoldable pub waits : Bool → Place → Mem → Part
waits true pl m = rests (Closes (ending_number (at_end pl)) 0) m wants.Room
waits false pl m = rests (Reads pl) m wants.Input

-- what comes of a record, where m is the memory after it; `next` reads on behind what has gone
unfoldable pub on_turn : Bool → Place → Mem → Turn → (Gone → Part) → Part
on_turn last pl m (Ok None) next = waits last pl m
on_turn last pl m (Ok (Some g)) next = adds g.used (told_text g.told) (next g)
on_turn last pl m (Err x) next = rests (Closes (ending_number (Err x)) 0) m wants.Room

-- behind the next k bytes
unfoldable pub follow : Bool → ℕ → ℕ → Place → Mem → List ℕ → Part
follow last room k pl m [] = cond (ltb room line_room) (rests (Reads pl) m wants.Room) (waits last pl m)
follow last room (suc k) pl m (b ∷ bs) = follow last room k pl m bs
follow last room zero pl m (b ∷ bs) =
    cond (ltb room line_room) (rests (Reads pl) m wants.Room)
    (on_turn last pl (turned pl m (b ∷ bs)) (turn pl (control_of m) (b ∷ bs))
    (λ g. follow last (room - length (told_text g.told)) (g.used - 1) g.place (turned pl m (b ∷ bs)) bs))

-- ---- when the trace has ended with a number: the `w` lines, the `v` lines, and the `e` line
unfoldable pub closing_line : Mem → ℕ → ℕ → List ℕ
closing_line m number k =
    let n = people m in
    cond (ltb k n) (w_line k (standing_of m k))
    (cond (ltb k (n + n)) (v_line (k - n) (standing_of m (k - n))) (e_line (control_of m).events number))

unfoldable pub closing_count : Mem → ℕ
closing_count m = people m + people m + 1

-- j lines are left, and k are written
unfoldable pub closing : ℕ → ℕ → ℕ → ℕ → Mem → Part
closing room zero number k m = rests (Closes number k) m wants.Nothing
closing room (suc j) number k m =
    cond (ltb room line_room) (rests (Closes number k) m wants.Room)
    (adds 0 (closing_line m number k) (closing (room - length (closing_line m number k)) j number (k + 1) m))

-- ---- either
unfoldable pub piece : Bool → ℕ → Stand → Mem → List ℕ → Part
piece last room (Reads pl) m w = follow last room 0 pl m w
piece last room (Closes number k) m w = closing room (closing_count m - k) number k m

-- ---- what is answered of a piece, and what it leaves in the memory and in the buffer
unfoldable pub said : Part → Piece
said x = record { used = x.used; written = length x.text; stand = x.stand; wants = x.wants }

pub record Came (x : Part) (w out : List ℕ) (p : Piece) (m out' : List ℕ) : Type 0 where
  pub says : p ≡ said x
  pub words : m ≡ x.words
  pub text : out' ≡ over x.text out
  pub within : p.used ≤ length w
  pub room : p.written ≤ length out
  -- what is left of the bytes where more of the trace is waited for
  pub short : p.wants ≡ wants.Input → length w < p.used + longest
