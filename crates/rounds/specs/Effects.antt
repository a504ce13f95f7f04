-- What an accepted send, receive and step each do to a configuration, whole: what changes and what stays as it was. Statements, proved on the front
-- page. Assumes nothing.
use Rattle.std.specs.Prelude.{ℕ, suc, ◌+◌, ◌≤◌, ◌<◌, ◌≡◌}
use Rattle.sets.specs.Sets.{empty, with, without, members}
use Rattle.voting.specs.Voting.{message, rule}
use Rattle.rounds.specs.declared.Stage.{Stage}
use Rattle.rounds.specs.Limits.{window}
use Rattle.rounds.specs.Config.{Site, Control, Config}
use Rattle.rounds.specs.Stages.{stage, one}
use Rattle.rounds.specs.Events.{gathered, messages}

-- ---- one event is counted, for each process at the stage that it was at; the number of processes stays
pub record Counted (c d : Control) : Type 0 where
  pub size : d.size ≡ c.size
  pub events : d.events ≡ c.events + 1
  pub count : (x : ℕ) (s : Stage) → d.count x s ≡ c.count x s + one (stage c x) s

-- ---- p's site is this one now, and every other is as it was
pub record Moves (c d : Control) (p : ℕ) (s : Site) : Type 0 where
  pub own : d.site p ≡ s
  pub others : (x : ℕ) → (x ≡ p → ⊥) → d.site x ≡ c.site x

-- ---- an accepted send of p to q, from c to d
pub record Posts (c d : Config) (p q : ℕ) : Type 0 where
  pub counted : Counted c.control d.control
  -- q joins the sent set of p; all else of every site stays
  pub sender : let me = c.control.site p in
      Moves c.control d.control p (record { round = me.round; sent = with me.sent q; heard = me.heard; reach = me.reach })
  -- with a lead within the window the message is in transit for the sender's round, and carries the value, vote and reach that the sender has
  pub kept : let r = (c.control.site p).round in (c.control.site q).round ≤ r → r < (c.control.site q).round + window
      → (d.control.transit q r ≡ with (c.control.transit q r) p)
      × (d.content.mail q r p ≡ message (c.content.holding p))
      × (d.control.carried q r p ≡ (c.control.site p).reach)
  -- with a lead below 0 it is late: what is in transit, and what that carries, stays
  pub late : (c.control.site p).round < (c.control.site q).round
      → (d.control.transit ≡ c.control.transit) × (d.content.mail ≡ c.content.mail) × (d.control.carried ≡ c.control.carried)
  -- whatever the lead, what is in transit to another process or for another round stays, and what any other message carries
  pub transit : (x s : ℕ) → (x ≡ q → s ≡ (c.control.site p).round → ⊥) → d.control.transit x s ≡ c.control.transit x s
  pub mail : (x s y : ℕ) → (x ≡ q → s ≡ (c.control.site p).round → y ≡ p → ⊥) → d.content.mail x s y ≡ c.content.mail x s y
  pub carried : (x s y : ℕ) → (x ≡ q → s ≡ (c.control.site p).round → y ≡ p → ⊥) → d.control.carried x s y ≡ c.control.carried x s y
  -- value, vote and decision of every process stay
  pub holding : d.content.holding ≡ c.content.holding

-- ---- an accepted receive of p from q, from c to d
pub record Takes (c d : Config) (p q : ℕ) : Type 0 where
  pub counted : Counted c.control d.control
  -- q joins the heard set of p; all else of every site stays
  pub receiver : let me = c.control.site p in
      Moves c.control d.control p (record { round = me.round; sent = me.sent; heard = with me.heard q; reach = me.reach })
  -- this one message leaves transit: the others for that round stay, and all that is in transit to another process or for another round
  pub taken : let r = (c.control.site p).round in d.control.transit p r ≡ without (c.control.transit p r) q
  pub transit : (x s : ℕ) → (x ≡ p → s ≡ (c.control.site p).round → ⊥) → d.control.transit x s ≡ c.control.transit x s
  -- what messages carry stays, and value, vote and decision of every process
  pub carried : d.control.carried ≡ c.control.carried
  pub content : d.content ≡ c.content

-- ---- an accepted step of p, from c to d
pub record Advances (c d : Config) (p : ℕ) : Type 0 where
  pub counted : Counted c.control d.control
  -- the round rises by one, both sets empty, and the reach gains what the messages heard carry; every other site stays
  pub stepper : let me = c.control.site p in
      Moves c.control d.control p
      (record {
        round = suc me.round;
        sent = empty;
        heard = empty;
        reach = gathered (members c.control.size me.heard) (c.control.carried p me.round) me.reach;
      })
  -- the voting rule is applied to the messages heard; what any other process holds stays
  pub voted : let me = c.control.site p in
      d.content.holding p ≡ rule me.round (c.content.holding p) (messages (members c.control.size me.heard) (c.content.mail p me.round))
  pub holding : (x : ℕ) → (x ≡ p → ⊥) → d.content.holding x ≡ c.content.holding x
  -- messages to p for the round that ends, and for older ones, leave transit; those for later rounds stay, and those to any other process
  pub dropped : (s : ℕ) → s ≤ (c.control.site p).round → d.control.transit p s ≡ empty
  pub waiting : (s : ℕ) → (c.control.site p).round < s → d.control.transit p s ≡ c.control.transit p s
  pub transit : (x s : ℕ) → (x ≡ p → ⊥) → d.control.transit x s ≡ c.control.transit x s
  -- nothing is posted: what messages carry stays
  pub mail : d.content.mail ≡ c.content.mail
  pub carried : d.control.carried ≡ c.control.carried
