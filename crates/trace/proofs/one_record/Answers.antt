-- `one_record` is its definition by what is read; what that means is `one_record_meant`.
-- Assumes nothing.
use Rattle.std.proofs.Common.{◌≤◌, length, rules, sym, ◌∙◌, subst, Some, Ok, ap}
use Rattle.records.specs.Records.{Reading, extent, extent_of}
use Rattle.records.proofs.Whole.{extent_within}
use Rattle.trace.specs.Turns.{turn_on, words_on, turn, turned}
use Rattle.trace.proofs.Meaning.{one_record_meant}
use Rattle.trace.proofs.one_record.Goals as goal

pub opened-requires : goal.opened-requires
unfolding extent extent_of
opened-requires c =
    subst (λ (r : Reading). extent_of r ≤ length c.args.bytes.now) (sym c.read.ensures ∙ c.in_ok-found.was ∙ ap Ok (c.in-Some.is ∙ ap Some c.in-Opening.is))
    (extent_within c.args.place c.args.bytes.now)

pub returns-in_err-found-clause-exact : goal.returns-in_err-found-clause-exact
unfolding turn turned turn_on words_on
returns-in_err-found-clause-exact c = search rules

pub returns-in_err-found-clause-meaning : goal.returns-in_err-found-clause-meaning
returns-in_err-found-clause-meaning c = (one_record_meant _ _ _ (returns-in_err-found-clause-exact c)).1

pub returns-in_default-clause-exact : goal.returns-in_default-clause-exact
unfolding turn turned turn_on words_on
returns-in_default-clause-exact c = search rules

pub returns-in_default-clause-meaning : goal.returns-in_default-clause-meaning
returns-in_default-clause-meaning c = (one_record_meant _ _ _ (returns-in_default-clause-exact c)).1

pub returns-in-Opening-clause-exact : goal.returns-in-Opening-clause-exact
unfolding turn turned turn_on words_on
returns-in-Opening-clause-exact c = search rules

pub returns-in-Opening-clause-meaning : goal.returns-in-Opening-clause-meaning
returns-in-Opening-clause-meaning c = (one_record_meant _ _ _ (returns-in-Opening-clause-exact c)).1

pub returns-in-Happens-clause-exact : goal.returns-in-Happens-clause-exact
unfolding turn turned turn_on words_on
returns-in-Happens-clause-exact c = search rules

pub returns-in-Happens-clause-meaning : goal.returns-in-Happens-clause-meaning
returns-in-Happens-clause-meaning c = (one_record_meant _ _ _ (returns-in-Happens-clause-exact c)).1

pub returns-in-End-clause-exact : goal.returns-in-End-clause-exact
unfolding turn turned turn_on words_on extent_of
returns-in-End-clause-exact c = search rules

pub returns-in-End-clause-meaning : goal.returns-in-End-clause-meaning
returns-in-End-clause-meaning c = (one_record_meant _ _ _ (returns-in-End-clause-exact c)).1
