-- `keep` moves what there is from one place up to another.
-- Assumes nothing.
use Rattle.std.proofs.Common.{ℕ, zero, suc, ◌+◌, ◌-◌, ◌≡◌, List, [], ◌∷◌, length, drop, take, min, ◌∙◌}
use native.Mathlib.Omega.{arith}
use lib.ListN.{length-drop, length-take}
use lib.Seq.{slice}
use Rattle.std.proofs.lemmas.List.{take_min, drop-take}
use Rattle.std.specs.List.{copy_within}
use Rattle.records.specs.Stored.{over}
use Rattle.sheet_text.proofs.keep.Goals as goal

drop_min : (n : ℕ) (l : List ℕ) → drop (min n (length l)) l ≡ drop n l
drop_min zero l = let e : min 0 (length l) ≡ 0 = omega arith in rw e
drop_min (suc n) [] = let e : min (suc n) 0 ≡ 0 = omega arith in rw e
drop_min (suc n) (x ∷ l) = let e : min (suc n) (suc (length l)) ≡ suc (min n (length l)) = omega arith in rw e (drop_min n l)

-- a place beyond the end is as good as the end
kept : (from to : ℕ) (l : List ℕ) {end start : ℕ} → end ≡ min to (length l) → start ≡ min from end
    → (end - start ≡ length (slice from to l)) × (copy_within l start end 0 ≡ over (slice from to l) l)
unfolding over
kept from to l {end} {start} p q =
    let size : end ≡ length (take to l) = omega (arith, length-take to l) in
    let all : start + (end - start) ≡ end = omega arith in
    let same : take (end - start) (drop start l) ≡ slice from to l =
    rw (← drop-take start (end - start) l, all, p, take_min to l, q, size) (drop_min from (take to l)) in
    let long : end - start ≡ length (slice from to l) = omega (arith, length-drop from (take to l)) in
    let front : 0 + (end - start) ≡ length (slice from to l) = omega arith in
    (long, rw (front, same))

pub returns : goal.returns
returns c =
    let is = kept c.args.from c.args.to c.args.bytes.now c.min-end.ensures c.min-start.ensures in
    (is.0, c.copy_within.ensures.after ∙ is.1)
