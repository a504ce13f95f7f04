-- A run of any list of events, refused ones and broadcasts included, is made of accepted sends, receives and steps.
-- Assumes nothing.
use Prim.Native.Nat.{ℕ, zero, suc, ◌≤◌}
use native.Mathlib.Omega.{arith}
use mathlib.Core.Path.{◌≡◌, refl, sym, subst}
use mathlib.Core.Bool.{Bool, true, false, cond}
use mathlib.Core.List.{List, [], ◌∷◌, ◌++◌, append-nil, append_assoc}
use Rattle.rounds.specs.declared.Event.{Event}
use Rattle.rounds.specs.declared.Event.TheVariants.{Send, Receive, Step, Broadcast}
use Rattle.rounds.specs.Config.{Control, Content, Config, opening}
use Rattle.rounds.specs.Verdicts.{accepted, verdict}
use Rattle.rounds.specs.Events.{sends_control, sends_content, next_control, next_content, if_accepted, apply_control, apply_content, apply}
use Rattle.rounds.specs.Runs.{after, Report, told, reports}
use Rattle.rounds.specs.Allowed.{Broadcasts, Allowed}
use Rattle.rounds.specs.Course.{Course, FromOpening}
use Rattle.rounds.specs.Course.Course.{stays, sends, receives, steps}
use Rattle.rounds.proofs.Answers.{allowed}
use Rattle.rounds.proofs.Broadcasts.{each_sends}

module _ {c₀ : Control} {d₀ : Content} where
  pub sends_course : {c : Control} {d : Content} {rs : List Report} → Course c₀ d₀ c d rs → (p : ℕ) → Broadcasts c p
      → (k : ℕ) → k ≤ c.size → Course c₀ d₀ (sends_control k c p) (sends_content k c d p) rs
  unfolding sends_control sends_content
  sends_course l p b zero h = l
  sends_course {c = c} l p b (suc k) h = sends (sends_course l p b k (omega arith)) p k (each_sends c p b k h)

  unreported : {c : Control} {d : Content} {rs : List Report} → Course c₀ d₀ c d rs → Course c₀ d₀ c d (rs ++ [])
  unreported {c = c} {d = d} {rs = rs} l = subst (λ (xs : List Report). Course c₀ d₀ c d xs) (sym (append-nil rs)) l

  next_course : {c : Control} {d : Content} {rs : List Report} → Course c₀ d₀ c d rs → (e : Event) → Allowed c e
      → Course c₀ d₀ (next_control c e) (next_content c d e) (rs ++ told c e)
  unfolding next_control next_content told
  next_course l (Send p q) h = unreported (sends l p q h)
  next_course l (Receive p q) h = unreported (receives l p q h)
  next_course l (Step p) h = steps l p h
  next_course {c = c} l (Broadcast p) h = unreported (sends_course l p h c.size (omega arith))

  pub apply_course : {c : Control} {d : Content} {rs : List Report} → Course c₀ d₀ c d rs → (e : Event)
      → Course c₀ d₀ (apply_control c e) (apply_content c d e) (rs ++ if_accepted (verdict c e) (told c e) [])
  unfolding apply_control apply_content if_accepted
  apply_course {c = c} {d = d} {rs = rs} l e = go (accepted (verdict c e)) refl
    where
      go : (b : Bool) → accepted (verdict c e) ≡ b
          → Course c₀ d₀ (cond b (next_control c e) c) (cond b (next_content c d e) d) (rs ++ cond b (told c e) [])
      go true a = next_course l e (allowed c e a)
      go false a = unreported l

  onward : {c : Control} {d : Content} {rs : List Report} → Course c₀ d₀ c d rs → (es : List Event)
      → Course c₀ d₀ (after (record { control = c; content = d }) es).control (after (record { control = c; content = d }) es).content
      (rs ++ reports (record { control = c; content = d }) es)
  unfolding after apply reports
  onward l [] = unreported l
  onward {c = c} {d = d} {rs = rs} l (e ∷ es) =
      let next = apply (record { control = c; content = d }) e in
      subst (λ (xs : List Report). Course c₀ d₀ (after next es).control (after next es).content xs)
      (append_assoc rs (if_accepted (verdict c e) (told c e) []) (reports next es))
      (onward {c = apply_control c e} {d = apply_content c d e} {rs = rs ++ if_accepted (verdict c e) (told c e) []} (apply_course l e) es)

-- from a configuration to what it is after a list of events
pub course : (c : Config) (es : List Event) → Course c.control c.content (after c es).control (after c es).content (reports c es)
course c es = onward stays es

-- from its opening, of every run of every list of events
pub run_course : (n : ℕ) (v : ℕ → ℕ) (es : List Event)
    → FromOpening n v (after (opening n v) es).control (after (opening n v) es).content (reports (opening n v) es)
unfolding opening
run_course n v es = course (opening n v) es
