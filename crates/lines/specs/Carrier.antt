-- What the line carrier gets: the sheet without its `v` lines, as `grep -v '^v'` leaves it. Assumes nothing.
use Rattle.std.specs.Prelude.{ℕ, Bool, true, false, cond, not, List, [], ◌∷◌, eqb}
use Rattle.lines.specs.Text.{letter_v}

-- where a byte of a text stands: at the start of a line, in a line that is kept, in one that is left out
pub data Spot : Type 0 where
  start : Spot
  kept : Spot
  left : Spot

-- ---- a text without the lines that begin with the letter x
unfoldable pub keeps : ℕ → Spot → ℕ → Bool
keeps x start b = not (eqb b x)
keeps x kept b = true
keeps x left b = false

unfoldable pub inside : ℕ → Spot → ℕ → Spot
inside x start b = cond (eqb b x) left kept
inside x kept b = kept
inside x left b = left

unfoldable pub if_kept : Bool → ℕ → List ℕ → List ℕ
if_kept true b l = b ∷ l
if_kept false b l = l

unfoldable pub without_lines : ℕ → Spot → List ℕ → List ℕ
without_lines x s [] = []
without_lines x s (b ∷ bs) = if_kept (keeps x s b) b (without_lines x (cond (eqb b 10) start (inside x s b)) bs)

-- ---- without the `v` lines
unfoldable pub without_votes : List ℕ → List ℕ
without_votes text = without_lines letter_v start text
