-- `put` gives the number that the abstract machine gives, and the memory then shows its next configuration.
-- Assumes nothing.
use mathlib.Core.Path.{ap, ◌∙◌}
use Rattle.rounds.specs.Verdicts.{number_of, number}
use Rattle.words.specs.Shows.{verdict_of}
use Rattle.words.proofs.Answering.{answer_verdict}
use Rattle.examples.proofs.put.Goals as goal

pub returns : goal.returns
unfolding number
returns c = λ c₀ k.
    let meant = c.apply-answer.ensures.meaning c₀ k in
    (c.number.ensures ∙ ap number_of (c.verdict.ensures ∙ ap verdict_of meant.answered ∙ answer_verdict _ _), meant.shows)
