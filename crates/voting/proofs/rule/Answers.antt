-- `rule` is its definition in odd and in even rounds; what that means of a list of messages is `rule_meaning`.
-- Assumes nothing.
use mathlib.Core.Path.{◌≡◌}
use mathlib.Core.Bool.{true, false}
use borrow.Author.Tests.{eq-eqb, ne_eqb}
use Rattle.voting.specs.Voting.{odd}
use Rattle.voting.specs.Tally.{ruled}
use Rattle.voting.proofs.Tallies.{rule_meaning}
use Rattle.voting.proofs.rule.Goals as goal

pub returns-then-round-eq1-clause-meaning : goal.returns-then-round-eq1-clause-meaning
unfolding ruled odd
returns-then-round-eq1-clause-meaning c =
    let o : odd c.args.round ≡ true = eq-eqb _ _ c.if-round-eq1.true in
    let exact : c.odd_rule.result ≡ ruled c.args.round c.args.own c.args.t = rw (c.odd_rule.ensures, o) in
    (rule_meaning c.args.round c.args.own exact).1

pub returns-else-round-eq1-clause-meaning : goal.returns-else-round-eq1-clause-meaning
unfolding ruled odd
returns-else-round-eq1-clause-meaning c =
    let o : odd c.args.round ≡ false = ne_eqb _ _ c.if-round-eq1.false in
    let exact : c.even_rule.result ≡ ruled c.args.round c.args.own c.args.t = rw (c.even_rule.ensures, o) in
    (rule_meaning c.args.round c.args.own exact).1
