-- `clear` fills the words with 0; the memory is blank then, whatever it held.
-- Assumes nothing.
use Rattle.std.proofs.Common.{ℕ, replicate, ap, ◌∙◌}
use Rattle.words.specs.Calls.{blank}
use Rattle.words.proofs.Meaning.{clear_meant}
use Rattle.machine.proofs.opening.clear.Goals as goal

pub returns-clause-exact : goal.returns-clause-exact
unfolding blank
returns-clause-exact c = c.fill.ensures.after (λ y h. h) ∙ ap (λ (k : ℕ). replicate k 0) c.told-run

pub returns-clause-meaning : goal.returns-clause-meaning
returns-clause-meaning c = (clear_meant (returns-clause-exact c)).1
