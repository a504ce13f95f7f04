-- A course of accepted sends, receives and steps, one after the other, from one configuration to another, with the heard-of sets that are reported.
-- A run of any list of events is one from its opening (proofs, MadeOfThree), so what each of the three keeps holds in every run. Assumes nothing.
use Rattle.std.specs.Prelude.{ℕ, List, [], ◌∷◌, ◌++◌}
use Rattle.rounds.specs.Config.{Control, Content, open_control, open_content}
use Rattle.rounds.specs.Stages.{tick}
use Rattle.rounds.specs.Events.{send_control, send_content, receive_control, step_control, step_content}
use Rattle.rounds.specs.Runs.{Report, report_of}
use Rattle.rounds.specs.Allowed.{Sends, Receives, Steps}

pub data Course (c₀ : Control) (d₀ : Content) : Control → Content → List Report → Type 0 where
  stays : Course c₀ d₀ c₀ d₀ []
  sends : {c : Control} {d : Content} {rs : List Report} → Course c₀ d₀ c d rs → (p q : ℕ) → Sends c p q
      → Course c₀ d₀ (send_control (tick c) p q) (send_content c d p q) rs
  receives : {c : Control} {d : Content} {rs : List Report} → Course c₀ d₀ c d rs → (p q : ℕ) → Receives c p q
      → Course c₀ d₀ (receive_control (tick c) p q) d rs
  steps : {c : Control} {d : Content} {rs : List Report} → Course c₀ d₀ c d rs → (p : ℕ) → Steps c p
      → Course c₀ d₀ (step_control (tick c) p) (step_content c d p) (rs ++ (report_of c p ∷ []))

-- a course from an opening
abbrev pub FromOpening : ℕ → (ℕ → ℕ) → Control → Content → List Report → Type 0
FromOpening n v = Course (open_control n) (open_content v)
