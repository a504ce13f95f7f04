-- `example_12` finds what document 01 says, event by event.
-- Assumes nothing.
use Rattle.rounds.specs.Examples.{run}
use Rattle.examples.proofs.example_12.Goals as goal

pub returns : goal.returns
unfolding run
returns c =
    let k₁ = c.put-send.ensures _ c.begin_two.ensures in
    let k₂ = c.put-broadcast.ensures _ k₁.1 in
    let k₃ = c.put-receive.ensures _ k₂.1 in
    let k₄ = c.put-again.ensures _ k₃.1 in
    rw (k₁.0, k₂.0, c.events-events.ensures.meaning _ k₂.1, k₃.0, k₄.0)
