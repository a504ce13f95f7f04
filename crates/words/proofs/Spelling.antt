-- What the words of a memory spell is what the configuration that they show holds: rounds, reaches, what is in transit, the number of processes,
-- and so the stages. Assumes nothing.
use Prim.Native.Nat.{ℕ, ◌≤◌, ◌<◌}
use native.Mathlib.Omega.{arith}
use mathlib.Core.Path.{◌≡◌, ap}
use borrow.Author.Tests.{le-ltb}
use Rattle.rounds.specs.Limits.{most_processes}
use Rattle.rounds.specs.Config.{Site, Control, Content}
use Rattle.rounds.specs.Stages.{sent_to_all, heard_from_all, waited, stage}
use Rattle.words.specs.Layout.{Mem, Line, Transit, get, ROUND, REACH}
use Rattle.words.specs.Spelled.{people, site_of, control_of}
use Rattle.words.specs.Shows.{Shown}

module _ (m : Mem) (c : Control) (d : Content) (k : Shown m c d) where
  pub round_word : (p : ℕ) → p < c.size → get m (Line p ROUND) ≡ (c.site p).round
  unfolding site_of
  round_word p h = ap (λ (s : Site). s.round) (k.each p h).site

  pub reach_word : (p : ℕ) → p < c.size → get m (Line p REACH) ≡ (c.site p).reach
  unfolding site_of
  reach_word p h = ap (λ (s : Site). s.reach) (k.each p h).site

  pub transit_shown : (p : ℕ) → p < c.size → get m (Transit p (c.site p).round) ≡ c.transit p (c.site p).round
  transit_shown p h = (k.each p h).transit (c.site p).round (omega arith) (omega arith)

  module _ (few : c.size ≤ most_processes) where
    pub people_shown : people m ≡ c.size
    unfolding people
    people_shown = rw (k.size, le-ltb most_processes c.size few)

    pub stage_shown : (p : ℕ) → p < c.size → stage (control_of m) p ≡ stage c p
    unfolding stage sent_to_all heard_from_all waited control_of
    stage_shown p h = rw (people_shown, (k.each p h).site, transit_shown p h)
