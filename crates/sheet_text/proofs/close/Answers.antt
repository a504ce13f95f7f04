-- What is left to show of `close`; Invariants.antt says how it goes.
-- Assumes nothing.
use Rattle.std.proofs.Common.{rules, ◌≡◌}
use native.Mathlib.Omega.{arith}
use mathlib.Core.Path.{refl}
use Rattle.lines.specs.Pieces as Pieces
use Rattle.sheet_text.proofs.Pacing.{back, none_shut, all_came, short_came, line_on}
use Rattle.sheet_text.proofs.close.Goals as goal

pub loop-k-init : goal.loop-k-init
loop-k-init c = (none_shut _ _ _ refl, omega arith)

pub room-requires : goal.room-requires
room-requires c = c.loop-k.invariant.0.begun.wrote.within

pub returns-then-room-lt-LINE : goal.returns-then-room-lt-LINE
unfolding Pieces.closing_count
returns-then-room-lt-LINE c = back (short_came c.loop-k.invariant.0 (omega arith) (omega arith)) (search rules)

pub loop-k-preserved : goal.loop-k-preserved
unfolding Pieces.closing_count
loop-k-preserved c = (line_on c.loop-k.invariant.0 (omega arith) (omega arith) c.put_closing.ensures, omega arith)

pub returns : goal.returns
unfolding Pieces.closing_count
returns c =
    let e : c.max.result ≡ c.loop-k.k = omega arith in
    rw e (back (all_came c.loop-k.invariant.0 (omega arith)) (search rules))
