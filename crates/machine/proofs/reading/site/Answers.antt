-- `site` is its definition, which the check finds; what that means is `site_meant`.
-- Assumes nothing.
use Rattle.std.proofs.Common.{rules}
use Rattle.std.proofs.lemmas.Bool.Decides.{nat_tests}
use Rattle.words.specs.Calls.{nobody, standing_of}
use Rattle.words.proofs.Meaning.{site_meant}
use Rattle.machine.proofs.reading.site.Goals as goal

pub returns-then-people-i-clause-meaning : goal.returns-then-people-i-clause-meaning
unfolding standing_of nobody
returns-then-people-i-clause-meaning c = (site_meant _ _ (search (rules, nat_tests))).1

pub returns-clause-meaning : goal.returns-clause-meaning
unfolding standing_of nobody
returns-clause-meaning c = (site_meant _ _ (search (rules, nat_tests))).1
