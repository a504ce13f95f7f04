-- The lines that close a sheet, one after the other, are the `w` lines, the `v` lines and the `e` line of the configuration that the memory shows.
-- Assumes nothing.
use Prim.Native.Nat.{ℕ, zero, suc, ◌+◌, ◌-◌, ◌<◌}
use native.Mathlib.Omega.{arith}
use mathlib.Core.Path.{◌≡◌, refl, sym, ◌∙◌}
use mathlib.Core.List.{List, ◌++◌, append_assoc, append-nil}
use borrow.Author.Tests.{lt-ltb, le-ltb}
use Rattle.rounds.specs.Config.{Config}
use Rattle.words.specs.Layout.{Mem}
use Rattle.words.specs.Shows.{Shows, standing}
use Rattle.words.proofs.Reading.{size_means, events_means, site_means}
use Rattle.lines.specs.Text.{w_line, v_line, e_line}
use Rattle.lines.specs.Sheet.{lines_below, w_lines, v_lines}
use Rattle.lines.specs.Pieces.{closing_line, closing_count}

-- ---- lines below a number
lines_append : (f : ℕ → List ℕ) (n j : ℕ) → lines_below (n + j) f ≡ lines_below n f ++ lines_below j (λ i. f (n + i))
unfolding lines_below
lines_append f n zero = let e : n + zero ≡ n = omega arith in rw e (sym (append-nil (lines_below n f)))
lines_append f n (suc j) =
    let e : n + suc j ≡ suc (n + j) = omega arith in
    rw (e, lines_append f n j) (append_assoc (lines_below n f) (lines_below j (λ i. f (n + i))) (f (n + j)))

lines_same : (f g : ℕ → List ℕ) (n : ℕ) → ((k : ℕ) → k < n → f k ≡ g k) → lines_below n f ≡ lines_below n g
unfolding lines_below
lines_same f g zero same = refl
lines_same f g (suc n) same = rw (lines_same f g n (λ k l. same k (omega arith)), same n (omega arith))

one_line : (f : ℕ → List ℕ) → lines_below 1 f ≡ f 0
unfolding lines_below
one_line f = refl

-- ---- the lines that close the sheet, of a memory that shows a configuration
module _ (m : Mem) (c : Config) (shown : Shows m c) (number : ℕ) where
  abbrev n : ℕ
  n = c.control.size

  at_w : (k : ℕ) → k < n → closing_line m number k ≡ w_line k (standing c k)
  unfolding closing_line
  at_w k l = rw (size_means m c shown, lt-ltb k n l, site_means m c shown k l)

  at_v : (k : ℕ) → k < n → closing_line m number (n + k) ≡ v_line k (standing c k)
  unfolding closing_line
  at_v k l =
      let back : n + k - n ≡ k = omega arith in
      rw (size_means m c shown, le-ltb (n + k) n (omega arith), lt-ltb (n + k) (n + n) (omega arith), back, site_means m c shown k l)

  at_e : closing_line m number (n + n + 0) ≡ e_line c.control.events number
  unfolding closing_line
  at_e =
      let e : n + n + 0 ≡ n + n = omega arith in
      rw (e, size_means m c shown, le-ltb (n + n) n (omega arith), le-ltb (n + n) (n + n) (omega arith), events_means m c shown)

  pub closing_lines : lines_below (closing_count m) (closing_line m number) ≡ w_lines c ++ (v_lines c ++ e_line c.control.events number)
  unfolding closing_count w_lines v_lines
  closing_lines =
      rw (
        size_means m c shown,
        lines_append (closing_line m number) (n + n) 1,
        lines_append (closing_line m number) n n,
        lines_same (closing_line m number) (λ k. w_line k (standing c k)) n at_w,
        lines_same (λ k. closing_line m number (n + k)) (λ k. v_line k (standing c k)) n at_v,
      )
      (append_assoc (lines_below n (λ k. w_line k (standing c k))) (lines_below n (λ k. v_line k (standing c k))) _
      ∙ rw (one_line (λ i. closing_line m number (n + n + i)), at_e))
