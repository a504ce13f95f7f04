-- `example_10` finds what document 01 says, opening by opening and event by event.
-- Assumes nothing.
use Prim.Native.Nat.{ℕ}
use mathlib.Core.Path.{refl, sym}
use lib.ListN.{get_or-replicate}
use Rattle.rounds.specs.Verdicts.{open_verdict}
use Rattle.rounds.specs.Examples.{run}
use Rattle.examples.proofs.example_10.Goals as goal

pub returns : goal.returns
unfolding run open_verdict
returns c =
    let k₀ = c.begin-sixteen.ensures.1 refl (λ p. 9) (record { each = λ p h. sym (get_or-replicate {A = ℕ} 16 p 9 0 h) }) in
    let k₁ = c.put-inside.ensures _ k₀ in
    let k₂ = c.put-send.ensures _ k₁.1 in
    let k₃ = c.put-receive.ensures _ k₂.1 in
    let k₄ = c.put-step.ensures _ k₃.1 in
    let k₅ = c.put-broadcast.ensures _ k₄.1 in
    rw (
      c.begin-none.ensures.0,
      c.begin-seventeen.ensures.0,
      c.begin-uneven.ensures.0,
      c.begin-sixteen.ensures.0,
      k₁.0,
      k₂.0,
      k₃.0,
      k₄.0,
      k₅.0,
      c.events-events.ensures.meaning _ k₅.1,
    )
