-- The sheet of a trace, whole: from the bytes that are read to the bytes that are written. Assumes nothing.
use Rattle.std.specs.Prelude.{ℕ, zero, suc, List, [], ◌∷◌, ◌++◌}
use Rattle.rounds.specs.Config.{Config}
use Rattle.rounds.specs.Runs.{Report}
use Rattle.words.specs.Shows.{standing}
use Rattle.trace.specs.Outcome.{Outcome, ending_number, outcome}
use Rattle.lines.specs.Text.{h_line, w_line, v_line, e_line}

-- an `h` line for each heard-of set that is reported
unfoldable pub h_lines : List Report → List ℕ
h_lines [] = []
h_lines (r ∷ rs) = h_line r.process r.round r.heard ++ h_lines rs

-- a line for each number below k, in ascending order
unfoldable pub lines_below : ℕ → (ℕ → List ℕ) → List ℕ
lines_below zero f = []
lines_below (suc k) f = lines_below k f ++ f k

unfoldable pub w_lines : Config → List ℕ
w_lines c = lines_below c.control.size (λ p. w_line p (standing c p))

unfoldable pub v_lines : Config → List ℕ
v_lines c = lines_below c.control.size (λ p. v_line p (standing c p))

-- what a trace comes to, as text. Without an accepted opening there are no processes and no reports, and only the `e` line is left
unfoldable pub sheet_of : Outcome → List ℕ
sheet_of o = h_lines o.reports ++ (w_lines o.config ++ (v_lines o.config ++ e_line o.config.control.events (ending_number o.ending)))

-- ---- the sheet of a trace
unfoldable pub sheet : List ℕ → List ℕ
sheet w = sheet_of (outcome w)
