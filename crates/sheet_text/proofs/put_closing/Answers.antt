-- A `v` line has room: what a choice holds is a word.
-- Assumes nothing.
use Prim.Native.Nat.{◌-◌}
use native.Mathlib.Omega.{arith}
use Rattle.sheet_text.proofs.Lengths.{choice_word, v_length}
use Rattle.sheet_text.proofs.put_closing.Goals as goal

pub v_line-requires : goal.v_line-requires
v_line-requires c =
    let s = c.site-then-k-n-2 in
    let vote = choice_word s.result.vote _ s.type_inv.1.1.1.1.0 in
    let decision = choice_word s.result.decision _ s.type_inv.1.1.1.1.1.0 in
    record { room = omega (arith, v_length (c.args.k - c.size-n.result) s.result (omega arith) (omega arith) vote decision) }
