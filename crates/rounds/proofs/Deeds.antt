-- The deeds of a run, its accepted sends, receives and steps: what each of them keeps, of the configuration and of the deeds up to it, holds of every
-- run and all its deeds; and a run is the run of its deeds. Assumes nothing.
use Prim.Native.Nat.{ℕ, zero, suc, ◌≤◌}
use native.Mathlib.Omega.{arith}
use mathlib.Core.Path.{◌≡◌, refl, sym, subst}
use mathlib.Core.Bool.{Bool, true, false, cond}
use mathlib.Core.List.{List, [], ◌∷◌, ◌++◌, append-nil, append_assoc}
use Rattle.rounds.specs.declared.Event.{Event}
use Rattle.rounds.specs.declared.Event.TheVariants.{Send, Receive, Step, Broadcast}
use Rattle.rounds.specs.Config.{Control, Content, Config}
use Rattle.rounds.specs.Stages.{tick}
use Rattle.rounds.specs.Verdicts.{accepted, verdict}
use Rattle.rounds.specs.Events.{send_control, send_content, receive_control, step_control, step_content, sends_control, sends_content, next_control, next_content, if_accepted, apply_control, apply_content, apply}
use Rattle.rounds.specs.Runs.{after, sends, deeds_of, deeds}
use Rattle.rounds.specs.Allowed.{Sends, Receives, Steps, Broadcasts, Allowed}
use Rattle.rounds.proofs.Answers.{allowed}
use Rattle.rounds.proofs.Broadcasts.{each_sends}
use Rattle.rounds.proofs.InTurn.{after_more}

-- ---- what each of the three keeps, with the deeds so far
pub record Recalled (I : Control → Content → List Event → Type 0) : Type 0 where
  pub send : (c : Control) (d : Content) (xs : List Event) (p q : ℕ) → Sends c p q → I c d xs
      → I (send_control (tick c) p q) (send_content c d p q) (xs ++ (Send p q ∷ []))
  pub receive : (c : Control) (d : Content) (xs : List Event) (p q : ℕ) → Receives c p q → I c d xs
      → I (receive_control (tick c) p q) d (xs ++ (Receive p q ∷ []))
  pub step : (c : Control) (d : Content) (xs : List Event) (p : ℕ) → Steps c p → I c d xs
      → I (step_control (tick c) p) (step_content c d p) (xs ++ (Step p ∷ []))

module _ (I : Control → Content → List Event → Type 0) (k : Recalled I) where
  sends_recalled : (c : Control) (d : Content) (xs : List Event) (p : ℕ) → Broadcasts c p → I c d xs
      → (j : ℕ) → j ≤ c.size → I (sends_control j c p) (sends_content j c d p) (xs ++ sends j p)
  unfolding sends_control sends_content sends
  sends_recalled c d xs p b i zero h = subst (I c d) (sym (append-nil xs)) i
  sends_recalled c d xs p b i (suc j) h =
      subst (I _ _) (append_assoc xs (sends j p) (Send p j ∷ []))
      (k.send _ _ _ p j (each_sends c p b j h) (sends_recalled c d xs p b i j (omega arith)))

  next_recalled : (c : Control) (d : Content) (xs : List Event) (e : Event) → Allowed c e → I c d xs
      → I (next_control c e) (next_content c d e) (xs ++ deeds_of c e)
  unfolding next_control next_content deeds_of
  next_recalled c d xs (Send p q) h i = k.send c d xs p q h i
  next_recalled c d xs (Receive p q) h i = k.receive c d xs p q h i
  next_recalled c d xs (Step p) h i = k.step c d xs p h i
  next_recalled c d xs (Broadcast p) h i = sends_recalled c d xs p h i c.size (omega arith)

  apply_recalled : (c : Control) (d : Content) (xs : List Event) (e : Event) → I c d xs
      → I (apply_control c e) (apply_content c d e) (xs ++ if_accepted (verdict c e) (deeds_of c e) [])
  unfolding apply_control apply_content if_accepted
  apply_recalled c d xs e i = go (accepted (verdict c e)) refl
    where
      go : (b : Bool) → accepted (verdict c e) ≡ b → I (cond b (next_control c e) c) (cond b (next_content c d e) d) (xs ++ cond b (deeds_of c e) [])
      go true a = next_recalled c d xs e (allowed c e a) i
      go false a = subst (I c d) (sym (append-nil xs)) i

  -- from any configuration, with any deeds before it
  onward : (c : Config) (xs es : List Event) → I c.control c.content xs
      → I (after c es).control (after c es).content (xs ++ deeds c.control es)
  unfolding after apply deeds
  onward c xs [] i = subst (I _ _) (sym (append-nil xs)) i
  onward c xs (e ∷ es) i =
      subst (I _ _) (append_assoc xs (if_accepted (verdict c.control e) (deeds_of c.control e) []) (deeds (apply_control c.control e) es))
      (onward (apply c e) (xs ++ if_accepted (verdict c.control e) (deeds_of c.control e) []) es (apply_recalled c.control c.content xs e i))

  pub recalled : (c : Config) (es : List Event) → I c.control c.content [] → I (after c es).control (after c es).content (deeds c.control es)
  recalled c es i = onward c [] es i

-- ---- a run is the run of its deeds
abbrev pub MadeBy : Config → Control → Content → List Event → Type 0
MadeBy c₀ c d xs = after c₀ xs ≡ record { control = c; content = d }

pub made_recalled : (c₀ : Config) → Recalled (MadeBy c₀)
unfolding next_control next_content
made_recalled c₀ =
    record {
      send = λ c d xs p q h i. after_more c₀ (record { control = c; content = d }) xs (Send p q) i h;
      receive = λ c d xs p q h i. after_more c₀ (record { control = c; content = d }) xs (Receive p q) i h;
      step = λ c d xs p h i. after_more c₀ (record { control = c; content = d }) xs (Step p) i h;
    }

pub after_deeds : (c : Config) (es : List Event) → after c (deeds c.control es) ≡ after c es
unfolding after
after_deeds c es = recalled (MadeBy c) (made_recalled c) c es refl
