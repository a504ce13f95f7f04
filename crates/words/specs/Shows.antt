-- When the words of a memory show a configuration of the abstract round machine, and what an answered event means then.
-- Assumes nothing.
use Rattle.std.specs.Prelude.{ℕ, ◌+◌, ◌-◌, ◌*◌, ◌≤◌, ◌<◌, ◌≡◌, List, [], ◌∷◌, get_or, length, Some, None, Ok, Err}
use Rattle.rounds.specs.declared.Stage.{Stage}
use Rattle.rounds.specs.declared.Stage.TheVariants.{Sending, Collecting, Pending, Idle}
use Rattle.rounds.specs.declared.Event.{Event}
use Rattle.rounds.specs.declared.Event.TheVariants.{Send, Receive, Step, Broadcast}
use Rattle.rounds.specs.Verdicts.{Verdict, Accepted}
use Rattle.rounds.specs.Limits.{most_processes, window}
use Rattle.rounds.specs.Config.{Control, Content, Config}
use Rattle.rounds.specs.Stages.{stage, index, one}
use Rattle.rounds.specs.Events.{apply}
use Rattle.rounds.specs.Runs.{Report}
use Rattle.rounds.specs.Course.{FromOpening}
use Rattle.rounds.specs.Claims.{Live}
use Rattle.words.specs.declared.Standing.{Standing}
use Rattle.words.specs.Layout.{Mem, RUN, Head, Line, Transit, get, SIZE, EVENTS, SINCE, COUNTS}
use Rattle.words.specs.Spelled.{site_of, holding_of, message_of, carried_of}
use Rattle.words.specs.Calls.{Answer, answer}

-- ---- of one process: its words spell what the configuration holds of it. Of what is in transit, the rounds of the window have a place; of the
-- mail, what is in transit or heard. The counts are settled up to a past event; those since then belong to the stage that it is at
pub record ShowsProcess (m : Mem) (c : Control) (d : Content) (p : ℕ) : Type 0 where
  pub site : site_of m p ≡ c.site p
  pub holding : holding_of m p ≡ d.holding p
  pub transit : (r : ℕ) → (c.site p).round ≤ r → r < (c.site p).round + window → get m (Transit p r) ≡ c.transit p r
  pub mail : (r q : ℕ) → Live c p r q → message_of m p r q ≡ d.mail p r q
  pub carried : (r q : ℕ) → Live c p r q → carried_of m p r q ≡ c.carried p r q
  pub past : get m (Line p SINCE) ≤ c.events
  pub count : (s : Stage) → c.count p s ≡ get m (Line p (COUNTS + index s)) + one (stage c p) s * (c.events - get m (Line p SINCE))

-- ---- of all processes below the size
pub record Shown (m : Mem) (c : Control) (d : Content) : Type 0 where
  pub long : length m ≡ RUN
  pub size : get m (Head SIZE) ≡ c.size
  pub events : get m (Head EVENTS) ≡ c.events
  pub each : (p : ℕ) → p < c.size → ShowsProcess m c d p

-- ---- a configuration that a run of at most the most processes reaches
pub record Shows (m : Mem) (c : Config) : Type 0 where
  pub values : ℕ → ℕ
  pub reports : List Report
  pub course : FromOpening c.control.size values c.control c.content reports
  pub few : c.control.size ≤ most_processes
  pub shown : Shown m c.control c.content

-- ---- an answered event: the answer is the round machine's, and the memory shows its next configuration
pub record Meant (a : Answer) (m : Mem) (c : Config) (e : Event) : Type 0 where
  pub answered : a ≡ answer c.control e
  pub shows : Shows m (apply c e)

-- the verdict that an answer gives, and the heard-of sets that it reports
unfoldable pub verdict_of : Answer → Verdict
verdict_of (Ok _) = Accepted
verdict_of (Err r) = Err r

unfoldable pub actor : Event → ℕ
actor (Send p q) = p
actor (Receive p q) = p
actor (Step p) = p
actor (Broadcast p) = p

unfoldable pub reported : Event → Answer → List Report
reported e (Ok None) = []
reported e (Ok (Some f)) = record { process = actor e; round = f.round; heard = f.heard } ∷ []
reported e (Err r) = []

-- ---- the values of an opening: process p has the p-th of the list
pub record Given (n : ℕ) (xs : List ℕ) (v : ℕ → ℕ) : Type 0 where
  pub each : (p : ℕ) → p < n → v p ≡ get_or xs p 0

-- ---- what a configuration has to show of a process
unfoldable pub standing : Config → ℕ → Standing
standing c p =
    record {
      round = (c.control.site p).round;
      value = (c.content.holding p).value;
      vote = (c.content.holding p).vote;
      decision = (c.content.holding p).decision;
      reach = (c.control.site p).reach;
      sending = c.control.count p Sending;
      collecting = c.control.count p Collecting;
      pending = c.control.count p Pending;
      idle = c.control.count p Idle;
    }

-- ---- two configurations are the same as far as their runs can tell: in all that the processes below the size hold
pub record Same (c e : Config) : Type 0 where
  pub size : c.control.size ≡ e.control.size
  pub events : c.control.events ≡ e.control.events
  pub site : (p : ℕ) → p < c.control.size → c.control.site p ≡ e.control.site p
  pub holding : (p : ℕ) → p < c.control.size → c.content.holding p ≡ e.content.holding p
  pub transit : (p r : ℕ) → p < c.control.size → c.control.transit p r ≡ e.control.transit p r
  pub count : (p : ℕ) (s : Stage) → p < c.control.size → c.control.count p s ≡ e.control.count p s
  pub mail : (p r q : ℕ) → p < c.control.size → Live c.control p r q → c.content.mail p r q ≡ e.content.mail p r q
  pub carried : (p r q : ℕ) → p < c.control.size → Live c.control p r q → c.control.carried p r q ≡ e.control.carried p r q
