-- What each call that changes lent memory promises exactly: its result, and every word at exit, are definitions of what came in. A contract cites its
-- name here and nothing else; that two results which it allows are equal is the lemma in proofs/Determined. Assumes nothing.
use Rattle.std.specs.Prelude.{ℕ, ◌≡◌, List}
use Rattle.words.specs.Layout.{Mem}
use Rattle.words.specs.Spelled.{control_of}
use Rattle.records.specs.declared.Place.{Place}
use Rattle.trace.specs.Outcome.{Ending, outcome}
use Rattle.trace.specs.Turns.{Turn, turn, turned, trace_words}
use Rattle.trace.specs.Haste.{haste}

-- ---- the bytes are w, the memory is m at entry and m' at exit
-- `one_record`
abbrev pub RecordDone : Place → Mem → List ℕ → Turn → Mem → Type 0
RecordDone pl m w r m' = (r ≡ turn pl (control_of m) w) × (m' ≡ turned pl m w)

-- `hasten`
abbrev pub HasteDone : Place → Mem → List ℕ → ℕ → Mem → Type 0
HasteDone pl m w r m' = (r ≡ (haste pl m w).used) × (m' ≡ (haste pl m w).words)

-- `replay`, whatever the memory was
abbrev pub TraceDone : List ℕ → Ending → Mem → Type 0
TraceDone w r m' = (r ≡ (outcome w).ending) × (m' ≡ trace_words w)
