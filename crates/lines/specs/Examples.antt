-- Traces and their sheets, whole, each as a test that computes: document 01's, and some of our own. Assumes nothing.
use Rattle.std.specs.Prelude.{ℕ, zero, suc, ◌-◌, Bool, true, ◌&&◌, List, [], ◌∷◌, ◌++◌, drop}
use Prim.Native.String.{String}
use Rattle.rounds.specs.Limits.{most_events}
use Rattle.rounds.specs.Examples.{equal}
use Rattle.words.specs.Layout.{Mem}
use Rattle.words.specs.Calls.{blank}
use Rattle.words.specs.Shows.{standing}
use Rattle.words.specs.Examples.{memory}
use Rattle.records.specs.Examples.{input}
use Rattle.trace.specs.Examples.{comes_to, open_two, send, receive, step, broadcast, end}
use Rattle.trace.specs.Turns.{tells, passes, on_answer, on_opening, turn_on, turn, words_on, turned}
use Rattle.lines.specs.declared.Stand.{Stand}
use Rattle.lines.specs.Ascii.{ascii}
use Rattle.lines.specs.Text.{glyph, digits, decimal, hex, field, set_field, choice_field, h_line, w_line, v_line, e_line}
use Rattle.lines.specs.Sheet.{h_lines, lines_below, w_lines, v_lines, sheet_of, sheet}
use Rattle.lines.specs.Pieces.{line_room, rests, adds, told_text, waits, on_turn, follow, closing_line, closing_count, closing, piece}
use Rattle.lines.specs.Claims.{first}
use Rattle.lines.specs.Carrier.{keeps, inside, if_kept, without_lines, without_votes}

-- the whole text against the whole input. To unfold it is to unfold reading, machine and sheet
unfoldable pub shows : List ℕ → String → Bool
unfolding comes_to standing ascii glyph digits decimal hex field set_field choice_field h_line w_line v_line e_line h_lines lines_below w_lines v_lines sheet_of sheet
shows bytes text = equal (sheet bytes) (ascii text)

-- what the carrier gets of it
unfoldable pub carries : List ℕ → String → Bool
unfolding shows keeps inside if_kept without_lines without_votes
carries bytes text = equal (without_votes (sheet bytes)) (ascii text)

-- the text of n pieces, each with so much room, where all of the trace is at hand. To unfold it is to unfold the machine in memory too
unfoldable pub pieces : ℕ → ℕ → Stand → Mem → List ℕ → List ℕ
pieces zero room s m held = []
pieces (suc n) room s m held =
    let x = piece true room s m held in
    x.text ++ pieces n room x.stand x.words (drop x.used held)

unfoldable pub writes : ℕ → ℕ → List ℕ → String → Bool
unfolding shows memory turn_on turn words_on turned passes on_answer on_opening tells rests adds told_text waits on_turn follow closing_line closing_count closing piece pieces first
writes n room bytes text = equal (pieces n room first blank bytes) (ascii text)

-- ---- document 01's
unfoldable pub example1 : Bool
example1 = shows input "h 0 1 0003\nw 0 2 2 2 1 1 0003\nw 1 1 6 0 0 0 0002\nv 0 4 - -\nv 1 4 - -\ne 6 0\n"

-- ---- one process alone, with the greatest value there is: the rounds of sending to itself, hearing itself and stepping
abbrev open_one : List ℕ
open_one = 1 ∷ 0 ∷ 5 ∷ 1 ∷ 255 ∷ 255 ∷ 255 ∷ 255 ∷ []

abbrev alone : List ℕ
alone = send 0 0 ++ (receive 0 0 ++ step 0)

-- without an accepted opening only the `e` line is printed
unfoldable pub no_byte : Bool
no_byte = shows [] "e 0 9\n"

unfoldable pub opening_of_nobody : Bool
opening_of_nobody = shows (1 ∷ 0 ∷ 1 ∷ 0 ∷ []) "e 0 1\n"

unfoldable pub send_first : Bool
send_first = shows (send 0 0) "e 0 12\n"

-- an opening alone
unfoldable pub opening_alone : Bool
opening_alone = shows (open_two ++ end) "w 0 1 0 0 0 0 0001\nw 1 1 0 0 0 0 0002\nv 0 7 - -\nv 1 4 - -\ne 0 0\n"

-- a refused step prints no line, and what was accepted before it stands
unfoldable pub refused_step : Bool
refused_step = shows (open_two ++ (send 1 1 ++ step 1)) "w 0 1 1 0 0 0 0001\nw 1 1 1 0 0 0 0002\nv 0 7 - -\nv 1 4 - -\ne 1 6\n"

-- a byte behind the end record
unfoldable pub byte_behind : Bool
byte_behind = shows (input ++ (0 ∷ [])) "h 0 1 0003\nw 0 2 2 2 1 1 0003\nw 1 1 6 0 0 0 0002\nv 0 4 - -\nv 1 4 - -\ne 6 13\n"

-- a vote that is present, and then a decision
unfoldable pub present_vote : Bool
present_vote = shows (open_one ++ (alone ++ end)) "h 0 1 0001\nw 0 2 1 1 0 1 0001\nv 0 4294967295 4294967295 -\ne 3 0\n"

unfoldable pub present_decision : Bool
present_decision = shows (open_one ++ (alone ++ (alone ++ end))) "h 0 1 0001\nh 0 2 0001\nw 0 3 2 2 0 2 0001\nv 0 4294967295 - 4294967295\ne 6 0\n"

-- a step that heard nobody; a broadcast counts as its sends
unfoldable pub heard_nobody : Bool
heard_nobody = shows (open_two ++ (broadcast 1 ++ (step 1 ++ end))) "h 1 1 0000\nw 0 1 3 0 0 0 0001\nw 1 2 2 1 0 0 0002\nv 0 7 - -\nv 1 4 - -\ne 3 0\n"

-- numbers: none, ten, the most events, the greatest value; sets, with small letters and to four digits
unfoldable pub in_decimal : Bool
in_decimal =
    equal (decimal 0) (ascii "0") && equal (decimal 10) (ascii "10")
    && equal (decimal most_events) (ascii "1000000") && equal (decimal 4294967295) (ascii "4294967295")

unfoldable pub in_hex : Bool
in_hex = equal (hex 43981) (ascii "abcd") && equal (hex 10) (ascii "000a")

-- pieces: a line at a time, with just the room for one, and all at once
unfoldable pub line_by_line : Bool
line_by_line = writes 12 line_room input "h 0 1 0003\nw 0 2 2 2 1 1 0003\nw 1 1 6 0 0 0 0002\nv 0 4 - -\nv 1 4 - -\ne 6 0\n"

unfoldable pub all_at_once : Bool
all_at_once = writes 2 1000 (open_two ++ (send 1 1 ++ step 1)) "w 0 1 1 0 0 0 0001\nw 1 1 1 0 0 0 0002\nv 0 7 - -\nv 1 4 - -\ne 1 6\n"

-- a trace that ends without an end record
unfoldable pub end_missing : Bool
end_missing = writes 2 1000 (open_two ++ send 1 1) "w 0 1 1 0 0 0 0001\nw 1 1 1 0 0 0 0002\nv 0 7 - -\nv 1 4 - -\ne 1 9\n"

-- without room for a line nothing is written
unfoldable pub no_room : Bool
no_room = writes 9 (line_room - 1) input ""

-- what the carrier gets
unfoldable pub to_the_carrier : Bool
to_the_carrier = carries input "h 0 1 0003\nw 0 2 2 2 1 1 0003\nw 1 1 6 0 0 0 0002\ne 6 0\n"

-- ---- all of them
unfoldable pub starred : List Bool
starred = example1 ∷ []

unfoldable pub ours : List Bool
ours =
    no_byte ∷ opening_of_nobody ∷ send_first ∷ opening_alone ∷ refused_step ∷ byte_behind ∷ present_vote ∷ present_decision ∷ heard_nobody ∷ in_decimal
    ∷ in_hex ∷ line_by_line ∷ all_at_once ∷ end_missing ∷ no_room ∷ to_the_carrier ∷ []
