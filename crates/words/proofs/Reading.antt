-- What is read of a memory that shows a configuration: its size, its events, and all that is shown of a process.
-- Assumes nothing.
use Prim.Native.Nat.{ℕ, ◌+◌, ◌≤◌, ◌<◌}
use native.Mathlib.Omega.{arith}
use mathlib.Core.Path.{◌≡◌, refl}
use mathlib.Core.Bool.{Bool, true, false, cond}
use lib.Dec.{ltb}
use borrow.Author.Tests.{le-leb, lt-leb, ltb-false}
use Rattle.rounds.specs.Limits.{most_processes}
use Rattle.rounds.specs.declared.Stage.{Stage}
use Rattle.rounds.specs.declared.Stage.TheVariants.{Sending, Collecting, Pending, Idle}
use Rattle.rounds.specs.Config.{Config}
use Rattle.rounds.specs.Claims.{total}
use Rattle.words.specs.Layout.{Mem, Head, get, SIZE}
use Rattle.words.specs.Spelled.{word, people, control_of, count_of}
use Rattle.words.specs.Calls.{nobody, standing_of}
use Rattle.words.specs.Shows.{Shows, standing}
use Rattle.words.proofs.Spelling.{round_word, reach_word, people_shown, stage_shown}
use Rattle.words.proofs.Fitting.{Fit, word_fits, fit, total_of}

-- there are never more than the most, whatever the memory holds
pub people_most : (m : Mem) → people m ≤ most_processes
unfolding people
people_most m = go (get m (Head SIZE)) (ltb most_processes (get m (Head SIZE))) refl
  where
    go : (n : ℕ) (b : Bool) → ltb most_processes n ≡ b → cond b 0 n ≤ most_processes
    go n true e = omega arith
    go n false e = ltb-false most_processes n e

module _ (m : Mem) (c : Config) (k : Shows m c) where
  pub size_means : people m ≡ c.control.size
  size_means = people_shown m c.control c.content k.shown k.few

  pub events_means : (control_of m).events ≡ c.control.events
  unfolding control_of
  events_means = k.shown.events

  abbrev fits : Fit c.control
  fits = fit c.control.size k.values k.course k.few

  -- a count is settled, and no larger than a word
  pub count_shown : (p : ℕ) (s : Stage) → p < c.control.size → word (count_of m p s) ≡ c.control.count p s
  unfolding count_of
  count_shown p s h =
      rw (stage_shown m c.control c.content k.shown k.few p h, k.shown.events, ← (k.shown.each p h).count s)
      (word_fits (c.control.count p s) (let small = fits.small p s in let room = fits.room in omega arith))

  pub site_means : (p : ℕ) → p < c.control.size → standing_of m p ≡ standing c p
  unfolding standing_of standing
  site_means p h =
      let own = k.shown.each p h in
      rw (
        size_means,
        lt-leb c.control.size p h,
        round_word m c.control c.content k.shown p h,
        reach_word m c.control c.content k.shown p h,
        own.holding,
        count_shown p Sending h,
        count_shown p Collecting h,
        count_shown p Pending h,
        count_shown p Idle h,
      )

  -- of a process that is not there nothing is shown
  pub site_none : (p : ℕ) → c.control.size ≤ p → standing_of m p ≡ nobody
  unfolding standing_of
  site_none p h = rw (size_means, le-leb c.control.size p h)

  -- the four counts that are shown of a process add up to the accepted events
  pub counts_add_up : (p : ℕ) → p < c.control.size
      → (standing c p).sending + (standing c p).collecting + (standing c p).pending + (standing c p).idle ≡ c.control.events
  unfolding standing total
  counts_add_up p h = total_of c.control.size k.values k.course p
