-- What a configuration must have for its words to have room, and that one which a run reaches has it: what the limits of every run come to here.
-- Assumes nothing.
use Prim.Native.Nat.{ℕ, ◌+◌, ◌^◌, ◌≤◌, ◌<◌}
use native.Mathlib.Omega.{arith}
use native.Mathlib.Nat.{mod-eq_of_lt}
use mathlib.Core.Path.{◌≡◌, refl}
use mathlib.Core.List.{List}
use Rattle.sets.specs.Sets.{empty}
use Rattle.sets.proofs.Bounds.{has_within}
use Rattle.rounds.specs.declared.Stage.{Stage}
use Rattle.rounds.specs.declared.Stage.TheVariants.{Sending, Collecting, Pending, Idle}
use Rattle.rounds.specs.Limits.{most_processes, window, last_round, most_events}
use Rattle.rounds.specs.Config.{Control, Content, open_control}
use Rattle.rounds.specs.Runs.{Report}
use Rattle.rounds.specs.Course.{FromOpening}
use Rattle.rounds.specs.Claims.{total}
use Rattle.rounds.specs.Claims.Live.{waiting, taken}
use Rattle.rounds.proofs.Kept.{Kept, kept}
use Rattle.rounds.proofs.Limits.{InRounds, rounds_kept, events_kept, Window, window_kept, open_window, in_window, Within, within_kept, open_within}
use Rattle.rounds.proofs.Counts.{total_kept}
use Rattle.words.specs.Spelled.{word}
use Rattle.words.proofs.Frames.{Near}

pub record Fit (c : Control) : Type 0 where
  pub few : c.size ≤ most_processes
  pub near : Near c
  pub room : c.events ≤ most_events
  pub small : (x : ℕ) (s : Stage) → c.count x s ≤ c.events

pub word_fits : (x : ℕ) → x < 2 ^ 32 → word x ≡ x
unfolding word
word_fits x h = mod-eq_of_lt h

-- ---- a run has it
-- a count is no more than all four
part : (f : Stage → ℕ) (e : ℕ) → total f ≡ e → (s : Stage) → f s ≤ e
unfolding total
part f e h Sending = omega arith
part f e h Collecting = omega arith
part f e h Pending = omega arith
part f e h Idle = omega arith

near : (c : Control) → c.size ≤ most_processes → Window c → Within c → Near c
near c few w in_size x r q (waiting t) =
    let inside = has_within c.size _ q (in_size.transit x r) t in
    (omega arith, (in_window c w x r q t).0, (in_window c w x r q t).1)
near c few w in_size x r q (taken e t) =
    let inside = has_within c.size _ q (in_size.heard x) t in
    (omega arith, omega arith, omega arith)

module _ (n : ℕ) (v : ℕ → ℕ) {c : Control} {d : Content} {rs : List Report} (l : FromOpening n v c d rs) where
  abbrev throughout : (I : Control → Type 0) → Kept (λ c d. I c) → I (open_control n) → I c
  throughout I k i = kept (λ c d. I c) k l i

  pub window_of : Window c
  window_of = throughout Window window_kept (open_window n)

  pub total_of : (x : ℕ) → total (c.count x) ≡ c.events
  unfolding open_control total
  total_of = throughout (λ c. (x : ℕ) → total (c.count x) ≡ c.events) total_kept (λ x. refl)

  pub fit : c.size ≤ most_processes → Fit c
  unfolding open_control
  fit few =
      record {
        few = few;
        near = near c few window_of (throughout Within within_kept (open_within n));
        room = throughout (λ c. c.events ≤ most_events) events_kept (omega arith);
        small = λ x. part (c.count x) c.events (total_of x);
      }

  pub round_top : (x : ℕ) → (c.site x).round ≤ last_round
  unfolding open_control
  round_top x = (throughout (λ c. (x : ℕ) → InRounds (c.site x)) rounds_kept (λ x. (omega arith, omega arith)) x).1

  -- nothing is in transit for the round that will get the place of the present one
  pub beyond_empty : (x : ℕ) → c.transit x ((c.site x).round + window) ≡ empty
  beyond_empty x = (window_of x ((c.site x).round + window)).1 (omega arith)
