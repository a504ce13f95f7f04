-- The rows of a report as bytes: how many they are, and how they come to stand in front of what is left of a buffer. Assumes nothing.
use Prim.Native.Nat.{ℕ, zero, suc, ◌+◌, ◌*◌, ◌≤◌}
use native.Mathlib.Omega.{arith}
use native.Mathlib.Numerals.{add-one}
use mathlib.Core.Path.{◌≡◌, refl, ◌∙◌}
use mathlib.Core.List.{List, ◌++◌}
use borrow.Rule.Slice.PartMut.{put_mid}
use lib.ListN.{length, take, drop, length-append}
use Rattle.std.proofs.Common.{append_assoc, length-take}
use Rattle.std.proofs.lemmas.List.{take-append-drop, take_at, drop_at, drop-drop, drop-append-le}
use Rattle.words.specs.declared.Standing.{Standing}
use Rattle.records.specs.Stored.{over}
use Rattle.tongsparkle.specs.Report.{word, row_of, rows_below, row_bytes}

row_length : (s : Standing) → length (row_of s) ≡ row_bytes
unfolding row_of word
row_length s = refl

pub rows_length : (k : ℕ) (f : ℕ → Standing) → length (rows_below k f) ≡ k * row_bytes
unfolding rows_below
rows_length zero f = refl
rows_length (suc k) f = length-append (rows_below k f) (row_of (f k)) ∙ rw (rows_length k f, row_length (f k)) (omega arith)

-- ---- a text more behind one that stands in front
over_next : (v w l : List ℕ) (at n : ℕ) → length v ≡ at → length w ≡ n → put_mid at n (over v l) w ≡ over (v ++ w) l
unfolding over
over_next v w l at n e f =
    let whole : length (v ++ w) ≡ at + n = omega (arith, length-append v w) in
    rw (take_at v (drop (length v) l) at e, drop_at v (drop (length v) l) at e, whole, e, drop-drop n at l, append_assoc v w (drop (at + n) l)) refl

-- one row more, at its place
pub next_row : (l x y : List ℕ) (k at n : ℕ) (f : ℕ → Standing) → x ≡ over (rows_below k f) l → y ≡ row_of (f k) → at ≡ row_bytes * k → n ≡ row_bytes
    → put_mid at n x y ≡ over (rows_below (k + 1) f) l
unfolding rows_below
next_row l x y k at n f before new place whole =
    rw (before, new, add-one k)
    (over_next (rows_below k f) (row_of (f k)) l at n (omega (arith, rows_length k f)) (omega (arith, row_length (f k))))

-- ---- a text in front of the first n bytes is one in front of them all
pub over_front : (w l : List ℕ) (n : ℕ) → length w ≤ n → n ≤ length l → over w (take n l) ++ drop n l ≡ over w l
unfolding over
over_front w l n few room =
    let long : length w ≤ length (take n l) = omega (arith, length-take n l) in
    append_assoc w (drop (length w) (take n l)) (drop n l)
    ∙ rw (← drop-append-le (length w) (take n l) (drop n l) long, take-append-drop n l) refl
