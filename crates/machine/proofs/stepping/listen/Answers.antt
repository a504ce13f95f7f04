-- `listen` adds the message and the reach that it carries where the sender was heard, and nothing where it was not.
-- Assumes nothing.
use Rattle.std.proofs.Common.{◌≡◌, ℕ, Bool, sym, ap, ◌∙◌, add-one}
use Rattle.sets.specs.Sets.{has}
use Rattle.words.specs.Spelled.{carried_of}
use Rattle.machine.proofs.Heard.{tally_heard, reach_heard, tally_unheard, reach_unheard}
use Rattle.machine.proofs.stepping.listen.Goals as goal
use Rattle.machine.proofs.stepping.listen.Goals.{then-has, else-has}

-- what the test of a set that was read tells
told : (q : ℕ) {s w : ℕ} {a t : Bool} → s ≡ w → a ≡ has s q → a ≡ t → has w q ≡ t
told q e f g = ap (λ (s : ℕ). has s q) (sym e) ∙ sym f ∙ g

pub loop-q-preserved : goal.loop-q-preserved
unfolding carried_of
loop-q-preserved c =
    let q = c.loop-q.q in
    let before = c.loop-q.invariant in
    elim c.if-has.branch [
      | then-has w ↦
          let heard = told q c.line-in-loop-q.ensures c.has.ensures w.if-has.true in
          rw (w.g-is, add-one q) (
            rw (tally_heard _ _ _ heard, ← before.0, w.hear-g.ensures.exact, w.message.ensures, c.line-r.ensures, w.new-q.ensures),
            rw (reach_heard _ _ _ heard, ← before.1, w.union.ensures, w.letter.ensures, c.line-r.ensures, w.new-q.ensures),
          )
      | else-has w ↦
          let unheard = told q c.line-in-loop-q.ensures c.has.ensures w.if-has.false in
          rw (w.g-is, add-one q) (before.0 ∙ sym (tally_unheard _ _ _ unheard), before.1 ∙ sym (reach_unheard _ _ _ unheard))
    ]
