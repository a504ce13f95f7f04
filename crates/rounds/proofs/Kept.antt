-- What an accepted send, an accepted receive and an accepted step each keep holds at the end of every course of them.
-- Assumes nothing.
use Prim.Native.Nat.{ℕ}
use mathlib.Core.List.{List}
use Rattle.rounds.specs.Config.{Control, Content}
use Rattle.rounds.specs.Stages.{tick}
use Rattle.rounds.specs.Events.{send_control, send_content, receive_control, step_control, step_content}
use Rattle.rounds.specs.Runs.{Report}
use Rattle.rounds.specs.Allowed.{Sends, Receives, Steps}
use Rattle.rounds.specs.Course.{Course}
use Rattle.rounds.specs.Course.Course.{stays, sends, receives, steps}

pub record Kept (I : Control → Content → Type 0) : Type 0 where
  pub send : (c : Control) (d : Content) (p q : ℕ) → Sends c p q → I c d → I (send_control (tick c) p q) (send_content c d p q)
  pub receive : (c : Control) (d : Content) (p q : ℕ) → Receives c p q → I c d → I (receive_control (tick c) p q) d
  pub step : (c : Control) (d : Content) (p : ℕ) → Steps c p → I c d → I (step_control (tick c) p) (step_content c d p)

pub kept : (I : Control → Content → Type 0) → Kept I → {c₀ : Control} {d₀ : Content} {c : Control} {d : Content} {rs : List Report}
    → Course c₀ d₀ c d rs → I c₀ d₀ → I c d
kept I k stays i = i
kept I k (sends {c = c} {d = d} l p q h) i = k.send c d p q h (kept I k l i)
kept I k (receives {c = c} {d = d} l p q h) i = k.receive c d p q h (kept I k l i)
kept I k (steps {c = c} {d = d} l p h) i = k.step c d p h (kept I k l i)
