-- Calls of the monitoring service and what they give and leave, each as a test that computes. Assumes nothing.
use Rattle.std.specs.Prelude.{ℕ, ◌+◌, ◌*◌, ◌-◌, Bool, ◌&&◌, List, [], ◌∷◌, ◌++◌, eqb, replicate}
use Rattle.rounds.specs.Examples.{equal}
use Rattle.records.specs.Stored.{over}
use Rattle.records.specs.Examples.{input}
use Rattle.trace.specs.Examples.{comes_to}
use Rattle.tongsparkle.specs.Report.{word, row, rows, report_of, row_bytes, room, number_given, report_left}

-- the number given, and every byte of the report afterwards. To unfold it is to unfold reading, machine and report
unfoldable pub gives : List ℕ → List ℕ → ℕ → List ℕ → Bool
unfolding comes_to word row rows report_of number_given over report_left
gives trace report number left = eqb (number_given trace report) number && equal (report_left trace report) left

-- a report of so many bytes, each of them 5
abbrev fives : ℕ → List ℕ
fives n = replicate n 5

-- the rows of document 01's trace, as its sheet has them
abbrev input_rows : List ℕ
input_rows =
    0 ∷ 0 ∷ 0 ∷ 2 ∷ 0 ∷ 0 ∷ 0 ∷ 2 ∷ 0 ∷ 0 ∷ 0 ∷ 2 ∷ 0 ∷ 0 ∷ 0 ∷ 1 ∷ 0 ∷ 0 ∷ 0 ∷ 1 ∷ 0 ∷ 0 ∷ 0 ∷ 3
    ∷ 0 ∷ 0 ∷ 0 ∷ 1 ∷ 0 ∷ 0 ∷ 0 ∷ 6 ∷ 0 ∷ 0 ∷ 0 ∷ 0 ∷ 0 ∷ 0 ∷ 0 ∷ 0 ∷ 0 ∷ 0 ∷ 0 ∷ 0 ∷ 0 ∷ 0 ∷ 0 ∷ 2
    ∷ []

-- ---- document 01's trace, with just enough room, which is document 01's number, and with more
unfoldable pub enough_room : Bool
enough_room = eqb room 384 && gives input (fives room) 0 (input_rows ++ fives (room - 2 * row_bytes))

unfoldable pub more_room : Bool
more_room = gives input (fives (room + 16)) 0 (input_rows ++ fives (room + 16 - 2 * row_bytes))

-- ---- a byte less: nothing is written, though two rows would fit
unfoldable pub one_byte_short : Bool
one_byte_short = gives input (fives (room - 1)) 14 (fives (room - 1))

unfoldable pub no_report : Bool
no_report = gives [] [] 14 []

-- ---- a refused event leaves the report of the accepted ones
unfoldable pub byte_behind : Bool
byte_behind = gives (input ++ (0 ∷ [])) (fives room) 13 (input_rows ++ fives (room - 2 * row_bytes))

-- ---- without an accepted opening nothing is written
unfoldable pub no_byte : Bool
no_byte = gives [] (fives room) 9 (fives room)

unfoldable pub opening_of_nobody : Bool
opening_of_nobody = gives (1 ∷ 0 ∷ 1 ∷ 0 ∷ []) (fives room) 1 (fives room)

-- ---- the most significant byte comes first
unfoldable pub big_endian : Bool
big_endian = equal (word 16909060) (1 ∷ 2 ∷ 3 ∷ 4 ∷ [])

-- ---- all of them
unfoldable pub examples : List Bool
examples = enough_room ∷ more_room ∷ one_byte_short ∷ no_report ∷ byte_behind ∷ no_byte ∷ opening_of_nobody ∷ big_endian ∷ []
