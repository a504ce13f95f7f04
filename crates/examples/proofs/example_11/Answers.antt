-- `example_11` finds what document 01 says, event by event.
-- Assumes nothing.
use lib.Dec.{lit<}
use Rattle.rounds.specs.Examples.{run}
use Rattle.words.specs.Shows.{standing}
use Rattle.examples.proofs.example_11.Goals as goal

pub returns : goal.returns
unfolding run standing
returns c =
    let k₁ = c.put-first.ensures _ c.begin_two.ensures in
    let k₂ = c.put-step.ensures _ k₁.1 in
    let k₃ = c.put-second.ensures _ k₂.1 in
    let k₄ = c.put-own.ensures _ k₃.1 in
    let k₅ = c.put-late.ensures _ k₄.1 in
    let k₆ = c.put-receive.ensures _ k₅.1 in
    let k₇ = c.put-more.ensures _ k₆.1 in
    rw (
      k₁.0,
      k₂.0,
      k₃.0,
      k₄.0,
      c.site-before.ensures.meaning _ k₄.1 (lit< tt),
      k₅.0,
      c.site-after.ensures.meaning _ k₅.1 (lit< tt),
      k₆.0,
      k₇.0,
      c.site-later.ensures.meaning _ k₇.1 (lit< tt),
    )
