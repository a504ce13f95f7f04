-- The lines of the sheet as bytes: one space before each field, a line feed at the end. Assumes nothing.
use Rattle.std.specs.Prelude.{ℕ, zero, suc, ◌+◌, ◌/◌, ◌%◌, cond, List, [], ◌∷◌, ◌++◌, ltb}
use Rattle.std.specs.Prelude.{Option, Some, None}
use Rattle.words.specs.declared.Standing.{Standing}

-- ---- numbers
-- the ASCII code of a digit below 16; letters are small
unfoldable pub glyph : ℕ → ℕ
glyph d = cond (ltb d 10) (48 + d) (87 + d)

-- n in decimal, with nothing for 0. The first number is how many digits there may be, for which n itself is enough
unfoldable pub digits : ℕ → ℕ → List ℕ
digits zero n = []
digits (suc k) zero = []
digits (suc k) (suc n) = digits k (suc n / 10) ++ (glyph (suc n % 10) ∷ [])

-- n in decimal without leading zeros
unfoldable pub decimal : ℕ → List ℕ
decimal n = digits n (n / 10) ++ (glyph (n % 10) ∷ [])

-- a set of processes in four hex digits
unfoldable pub hex : ℕ → List ℕ
hex s = glyph (s / 4096 % 16) ∷ glyph (s / 256 % 16) ∷ glyph (s / 16 % 16) ∷ glyph (s % 16) ∷ []

-- ---- fields
abbrev pub space : ℕ
space = 32

abbrev pub line_feed : List ℕ
line_feed = 10 ∷ []

unfoldable pub field : ℕ → List ℕ
field n = space ∷ decimal n

unfoldable pub set_field : ℕ → List ℕ
set_field s = space ∷ hex s

-- a vote or a decision, and a dash where it is absent
unfoldable pub choice_field : Option ℕ → List ℕ
choice_field None = space ∷ 45 ∷ []
choice_field (Some x) = field x

-- ---- lines; each begins with its letter
abbrev pub letter_h : ℕ
letter_h = 104

abbrev pub letter_w : ℕ
letter_w = 119

abbrev pub letter_v : ℕ
letter_v = 118

abbrev pub letter_e : ℕ
letter_e = 101

-- an accepted step: the process, the round finished, who was heard
unfoldable pub h_line : ℕ → ℕ → ℕ → List ℕ
h_line p r heard = (letter_h ∷ []) ++ (field p ++ (field r ++ (set_field heard ++ line_feed)))

-- of a process: its round, the counts S, C, P, I, and its reach
unfoldable pub w_line : ℕ → Standing → List ℕ
w_line p s =
    (letter_w ∷ [])
    ++ (field p
    ++ (field s.round
    ++ (field s.sending
    ++ (field s.collecting
    ++ (field s.pending
    ++ (field s.idle
    ++ (set_field s.reach
    ++ line_feed)))))))

-- of a process: its value, vote and decision
unfoldable pub v_line : ℕ → Standing → List ℕ
v_line p s = (letter_v ∷ []) ++ (field p ++ (field s.value ++ (choice_field s.vote ++ (choice_field s.decision ++ line_feed))))

-- the accepted events, and the number
unfoldable pub e_line : ℕ → ℕ → List ℕ
e_line events number = (letter_e ∷ []) ++ (field events ++ (field number ++ line_feed))
