-- What a run holds, and how it opens: the configuration of document 000, with the reach sets and counts of document 01.
-- What never sees a value (Control) and what does (Content) stand apart. Assumes nothing.
use Rattle.std.specs.Prelude.{ℕ, true, false, eqb}
use Rattle.sets.specs.Sets.{empty, with}
use Rattle.voting.specs.declared.Message.{Message}
use Rattle.voting.specs.declared.Holding.{Holding}
use Rattle.voting.specs.Voting.{opens, message}
use Rattle.rounds.specs.declared.Stage.{Stage}

-- ---- what a run holds
-- of one process: its round, whom it has sent to this round, whom it has heard this round, its reach
pub record Site : Type 0 where
  pub round : ℕ
  pub sent : ℕ
  pub heard : ℕ
  pub reach : ℕ

pub record Control : Type 0 where
  -- the number of processes
  pub size : ℕ
  -- the accepted events
  pub events : ℕ
  pub site : ℕ → Site
  -- receiver, round: the senders whose message is in transit
  pub transit : ℕ → ℕ → ℕ
  -- receiver, round, sender: the reach that the message carries
  pub carried : ℕ → ℕ → ℕ → ℕ
  -- process, stage: at how many accepted events it was at that stage
  pub count : ℕ → Stage → ℕ

pub record Content : Type 0 where
  -- value, vote and decision of each process
  pub holding : ℕ → Holding
  -- receiver, round, sender: the value and vote that the message carries
  pub mail : ℕ → ℕ → ℕ → Message

pub record Config : Type 0 where
  pub control : Control
  pub content : Content

-- ---- functions of process and round numbers, changed at one place
unfoldable pub at : {A : Type 0} → (ℕ → A) → ℕ → A → ℕ → A
at f p a k = elim (eqb k p) [ true ↦ a | false ↦ f k ]

unfoldable pub at₂ : {A : Type 0} → (ℕ → ℕ → A) → ℕ → ℕ → A → ℕ → ℕ → A
at₂ f p r a = at f p (at (f p) r a)

unfoldable pub at₃ : {A : Type 0} → (ℕ → ℕ → ℕ → A) → ℕ → ℕ → ℕ → A → ℕ → ℕ → ℕ → A
at₃ f p r q a = at f p (at₂ (f p) r q a)

-- ---- how it opens
unfoldable pub open_control : ℕ → Control
open_control n =
    record {
      size = n;
      events = 0;
      site = λ p. record { round = 1; sent = empty; heard = empty; reach = with empty p };
      transit = λ p r. empty;
      carried = λ p r q. empty;
      count = λ p s. 0;
    }

-- no message is there yet: what stands in the mail is never read
unfoldable pub open_content : (ℕ → ℕ) → Content
open_content v = record { holding = λ p. opens (v p); mail = λ p r q. message (opens 0) }

-- N processes with these values
unfoldable pub opening : ℕ → (ℕ → ℕ) → Config
opening n v = record { control = open_control n; content = open_content v }

-- no run: what there is before an accepted opening. It has no process
unfoldable pub no_run : Config
no_run = opening 0 (λ p. 0)
