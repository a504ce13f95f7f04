-- When the round machine allows an opening or an event: what document 000 asks for in each transition, within the limits of document 01.
-- Assumes nothing.
use Rattle.std.specs.Prelude.{ℕ, ◌+◌, ◌≤◌, ◌<◌, ◌≡◌, true, false}
use Rattle.sets.specs.Sets.{has, full}
use Rattle.rounds.specs.declared.Event.{Event}
use Rattle.rounds.specs.declared.Event.TheVariants.{Send, Receive, Step, Broadcast}
use Rattle.rounds.specs.Limits.{most_processes, window, last_round, most_events}
use Rattle.rounds.specs.Config.{Control}

-- a run of n processes opens with this many values
pub record Opens (n given : ℕ) : Type 0 where
  pub some : 1 ≤ n
  pub most : n ≤ most_processes
  pub each : given ≡ n

-- p has not sent to q this round, and its lead over q is not the whole window
pub record MaySend (c : Control) (p q : ℕ) : Type 0 where
  pub unsent : has (c.site p).sent q ≡ false
  pub near : (c.site p).round ≡ (c.site q).round + window → ⊥

pub record Sends (c : Control) (p q : ℕ) : Type 0 where
  pub from : p < c.size
  pub to : q < c.size
  pub room : c.events < most_events
  pub may : MaySend c p q

-- a message from q to p for p's current round is in transit
pub record Receives (c : Control) (p q : ℕ) : Type 0 where
  pub to : p < c.size
  pub from : q < c.size
  pub room : c.events < most_events
  pub waiting : has (c.transit p (c.site p).round) q ≡ true

-- p has sent to all, and its round is not the last
pub record Steps (c : Control) (p : ℕ) : Type 0 where
  pub who : p < c.size
  pub room : c.events < most_events
  pub spoken : (c.site p).sent ≡ full c.size
  pub more : (c.site p).round ≡ last_round → ⊥

-- there is room for all N events, and each send may be made
pub record Broadcasts (c : Control) (p : ℕ) : Type 0 where
  pub who : p < c.size
  pub room : c.events + c.size ≤ most_events
  pub each : (q : ℕ) → q < c.size → MaySend c p q

abbrev pub Allowed : Control → Event → Type 0
Allowed c (Send p q) = Sends c p q
Allowed c (Receive p q) = Receives c p q
Allowed c (Step p) = Steps c p
Allowed c (Broadcast p) = Broadcasts c p
