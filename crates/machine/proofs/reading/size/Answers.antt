-- `size` reads the number of processes; what that means is `size_meant`.
-- Assumes nothing.
use Rattle.words.proofs.Meaning.{size_meant}
use Rattle.machine.proofs.reading.size.Goals as goal

pub returns-clause-exact : goal.returns-clause-exact
returns-clause-exact c = c.people.ensures.0

pub returns-clause-meaning : goal.returns-clause-meaning
returns-clause-meaning c = (size_meant c.args.run.now (returns-clause-exact c)).1
