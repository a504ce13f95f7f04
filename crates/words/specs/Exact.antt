-- What each call of the round machine in lent memory promises exactly: its result, and every word at exit, are definitions of what came in.
-- A contract cites its name here and nothing else; that two results which it allows are equal is the lemma in proofs/Determined. Assumes nothing.
use Rattle.std.specs.Prelude.{ℕ, ◌≡◌, List, length, Result}
use Rattle.rounds.specs.declared.Event.{Event}
use Rattle.rounds.specs.declared.Event.TheVariants.{Step}
use Rattle.rounds.specs.declared.Refusal.{Refusal}
use Rattle.rounds.specs.Verdicts.{Verdict, open_verdict, verdict}
use Rattle.words.specs.declared.Finished.{Finished}
use Rattle.words.specs.declared.Standing.{Standing}
use Rattle.words.specs.Layout.{Mem}
use Rattle.words.specs.Spelled.{people, control_of}
use Rattle.words.specs.Calls.{Answer, blank, begins, applied, step_answer, answer, standing_of}

-- ---- what changes the memory: m is the memory at entry, m' at exit
-- `clear`
abbrev pub Cleared : Mem → Type 0
Cleared m' = m' ≡ blank

-- `begin` with n processes and the values xs
abbrev pub Begun : Mem → ℕ → List ℕ → Verdict → Mem → Type 0
Begun m n xs r m' = (r ≡ open_verdict n (length xs)) × (m' ≡ begins m n xs)

-- `send`, `receive` and `broadcast`: an event, and its verdict
abbrev pub Tried : Mem → Event → Verdict → Mem → Type 0
Tried m e r m' = (r ≡ verdict (control_of m) e) × (m' ≡ applied m e)

-- `step` of process p, and its own answer
abbrev pub Stepped : Mem → ℕ → Result Finished Refusal → Mem → Type 0
Stepped m p r m' = (r ≡ step_answer (control_of m) p) × (m' ≡ applied m (Step p))

-- `apply`: an event, and its answer
abbrev pub Answered : Mem → Event → Answer → Mem → Type 0
Answered m e r m' = (r ≡ answer (control_of m) e) × (m' ≡ applied m e)

-- ---- what is read of it
-- `size`
abbrev pub SizeRead : Mem → ℕ → Type 0
SizeRead m r = r ≡ people m

-- `events`
abbrev pub EventsRead : Mem → ℕ → Type 0
EventsRead m r = r ≡ (control_of m).events

-- `site` of process p
abbrev pub SiteRead : Mem → ℕ → Standing → Type 0
SiteRead m p r = r ≡ standing_of m p
