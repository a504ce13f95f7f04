-- The report of a trace as bytes, and what the monitoring service's call gives back and leaves in it. Assumes nothing.
use Rattle.std.specs.Prelude.{ℕ, zero, suc, ◌*◌, ◌/◌, ◌%◌, ◌≡◌, cond, List, [], ◌∷◌, ◌++◌, ltb, length}
use Rattle.rounds.specs.declared.Stage.TheVariants.{Sending, Collecting, Pending, Idle}
use Rattle.rounds.specs.Limits.{most_processes}
use Rattle.rounds.specs.Config.{Control}
use Rattle.words.specs.declared.Standing.{Standing}
use Rattle.records.specs.Stored.{over}
use Rattle.trace.specs.Outcome.{ending_number, outcome}

-- ---- a number in four bytes, big-endian
unfoldable pub word : ℕ → List ℕ
word x = x / 16777216 ∷ x / 65536 % 256 ∷ x / 256 % 256 ∷ x % 256 ∷ []

-- ---- of a process: its round, the counts of S, C, P, I, and its reach
unfoldable pub row : Control → ℕ → List ℕ
row c p =
    word (c.site p).round
    ++ (word (c.count p Sending)
    ++ (word (c.count p Collecting)
    ++ (word (c.count p Pending)
    ++ (word (c.count p Idle)
    ++ word (c.site p).reach))))

-- ---- of the processes below k, in ascending order
unfoldable pub rows : ℕ → Control → List ℕ
rows zero c = []
rows (suc k) c = rows k c ++ row c k

-- ---- of all processes: a function of what never sees a value
unfoldable pub report_of : Control → List ℕ
report_of c = rows c.size c

-- ---- the call: the room is tested first, and nothing is written then. Else the first bytes are the report's, and the others stay
abbrev pub row_bytes : ℕ
row_bytes = 24

abbrev pub room : ℕ
room = most_processes * row_bytes

unfoldable pub number_given : List ℕ → List ℕ → ℕ
number_given trace report = cond (ltb (length report) room) 14 (ending_number (outcome trace).ending)

unfoldable pub report_left : List ℕ → List ℕ → List ℕ
report_left trace report = cond (ltb (length report) room) report (over (report_of (outcome trace).config.control) report)

-- what the call promises: the number, and every byte of the report at exit, report'
abbrev pub Reported : List ℕ → List ℕ → ℕ → List ℕ → Type 0
Reported trace report r report' = (r ≡ number_given trace report) × (report' ≡ report_left trace report)

-- ---- as the code writes it: the rows of what is shown of each process
unfoldable pub row_of : Standing → List ℕ
row_of s = word s.round ++ (word s.sending ++ (word s.collecting ++ (word s.pending ++ (word s.idle ++ word s.reach))))

unfoldable pub rows_below : ℕ → (ℕ → Standing) → List ℕ
rows_below zero f = []
rows_below (suc k) f = rows_below k f ++ row_of (f k)
