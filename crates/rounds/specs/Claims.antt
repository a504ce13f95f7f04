-- What the statements about runs speak of: live messages, moments, how often a stage held, and openings that agree.
-- Assumes nothing.
use Rattle.std.specs.Prelude.{ℕ, zero, suc, ◌+◌, ◌≤◌, ◌<◌, ◌≡◌, true, List, [], ◌∷◌, ◌++◌}
use Rattle.sets.specs.Sets.{has}
use Rattle.voting.specs.declared.Message.{Message}
use Rattle.voting.specs.Voting.{message}
use Rattle.rounds.specs.declared.Stage.{Stage}
use Rattle.rounds.specs.declared.Stage.TheVariants.{Sending, Collecting, Pending, Idle}
use Rattle.rounds.specs.declared.Event.{Event}
use Rattle.rounds.specs.declared.Event.TheVariants.{Send, Receive, Step, Broadcast}
use Rattle.rounds.specs.Verdicts.{Accepted}
use Rattle.rounds.specs.Limits.{window}
use Rattle.rounds.specs.Config.{Control, Config, opening}
use Rattle.rounds.specs.Stages.{stage, one}
use Rattle.rounds.specs.Verdicts.{verdict}
use Rattle.rounds.specs.Events.{sends_control, if_accepted, apply_control}
use Rattle.rounds.specs.Runs.{after, replay, replay_verdict}

-- ---- a run: n processes open with the values v, and then these events happen, those that are refused without effect
abbrev pub ran : ℕ → (ℕ → ℕ) → List Event → Config
ran n v es = after (opening n v) es

-- ---- processes
-- a set has all n of them
abbrev pub Everyone : ℕ → ℕ → Type 0
Everyone n s = (q : ℕ) → q < n → has s q ≡ true

-- ---- messages
-- a message for round r from q to p that p can still take or has taken this round
pub data Live (c : Control) (p r q : ℕ) : Type 0 where
  waiting : has (c.transit p r) q ≡ true → Live c p r q
  taken : r ≡ (c.site p).round → has (c.site p).heard q ≡ true → Live c p r q

-- ---- moments
-- the events up to a moment at which p is at round r, and the events after it
pub record Moment (c : Config) (es : List Event) (p r : ℕ) : Type 0 where
  pub earlier : List Event
  pub later : List Event
  pub whole : earlier ++ later ≡ es
  pub round : ((after c earlier).control.site p).round ≡ r

-- at a moment of the run p was at round r, with this to say and this reach
pub record Had (n : ℕ) (v : ℕ → ℕ) (es : List Event) (p r : ℕ) (m : Message) (s : ℕ) : Type 0 where
  pub when : Moment (opening n v) es p r
  pub said : m ≡ message ((ran n v when.earlier).content.holding p)
  pub reach : s ≡ ((ran n v when.earlier).control.site p).reach

-- ---- what the deeds of a run tell
-- e is one of the deeds, and behind it p does not step
pub record SinceStep (p : ℕ) (e : Event) (deeds : List Event) : Type 0 where
  pub earlier : List Event
  pub later : List Event
  pub whole : earlier ++ (e ∷ later) ≡ deeds
  pub still : (a b : List Event) → a ++ (Step p ∷ b) ≡ later → ⊥

-- y sent to x at round r
pub record SentTo (n : ℕ) (v : ℕ → ℕ) (deeds : List Event) (x r y : ℕ) : Type 0 where
  pub earlier : List Event
  pub later : List Event
  pub whole : earlier ++ (Send y x ∷ later) ≡ deeds
  pub round : ((ran n v earlier).control.site y).round ≡ r

-- y sent to x at round r, with a lead within the window; and since then x has neither received that message, nor stepped beyond r
pub record Underway (n : ℕ) (v : ℕ → ℕ) (deeds : List Event) (x r y : ℕ) : Type 0 where
  pub sent : SentTo n v deeds x r y
  pub lead : let s = ((ran n v sent.earlier).control.site x).round in (s ≤ r) × (r < s + window)
  pub untaken : (a b : List Event) → a ++ (Receive x y ∷ b) ≡ sent.later
      → ((ran n v (sent.earlier ++ (Send y x ∷ a))).control.site x).round ≡ r → ⊥
  pub unpassed : ((ran n v deeds).control.site x).round ≤ r

-- ---- stops
-- where the replay of es stops: the events before it, all accepted; the one that is refused; and those that are never looked at
pub record Stop (c : Config) (es : List Event) : Type 0 where
  pub earlier : List Event
  pub refused : Event
  pub later : List Event
  pub whole : earlier ++ (refused ∷ later) ≡ es
  pub accepted : replay_verdict c earlier ≡ Accepted
  pub answer : verdict (after c earlier).control refused ≡ replay_verdict c es
  pub state : replay c es ≡ after c earlier

-- the control parts just before each accepted event: of a broadcast, just before each of its sends to the processes below k
unfoldable pub send_moments : ℕ → Control → ℕ → List Control
send_moments zero c p = []
send_moments (suc k) c p = send_moments k c p ++ (sends_control k c p ∷ [])

unfoldable pub event_moments : Control → Event → List Control
event_moments c (Send p q) = c ∷ []
event_moments c (Receive p q) = c ∷ []
event_moments c (Step p) = c ∷ []
event_moments c (Broadcast p) = send_moments c.size c p

unfoldable pub moments : Control → List Event → List Control
moments c [] = []
moments c (e ∷ es) = if_accepted (verdict c e) (event_moments c e) [] ++ moments (apply_control c e) es

-- at how many of them the process is at the stage
unfoldable pub times : ℕ → Stage → List Control → ℕ
times p s [] = 0
times p s (c ∷ cs) = one (stage c p) s + times p s cs

-- the four figures of a process together
unfoldable pub total : (Stage → ℕ) → ℕ
total f = f Sending + f Collecting + f Pending + f Idle

-- ---- openings
-- two of them agree on a set of processes
abbrev pub Agree : (ℕ → ℕ) → (ℕ → ℕ) → ℕ → Type 0
Agree v w s = (q : ℕ) → has s q ≡ true → v q ≡ w q
