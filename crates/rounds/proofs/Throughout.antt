-- What each accepted send, receive and step keeps, said of runs: the laws that the front page cites.
-- Assumes nothing.
use Prim.Native.Nat.{ℕ, ◌+◌, ◌≤◌, ◌<◌, ◌^◌}
use native.Mathlib.Omega.{arith}
use mathlib.Core.Path.{◌≡◌, refl, sym, ap, ◌∙◌}
use mathlib.Core.Bool.{true, false}
use mathlib.Core.List.{List, ◌∷◌, ◌++◌}
use Rattle.sets.specs.Sets.{has, members}
use Rattle.voting.specs.declared.Message.{Message}
use Rattle.voting.specs.Voting.{message, rule}
use Rattle.rounds.specs.declared.Stage.{Stage}
use Rattle.rounds.specs.declared.Stage.TheVariants.{Sending, Collecting, Pending, Idle}
use Rattle.rounds.specs.declared.Event.{Event}
use Rattle.rounds.specs.declared.Event.TheVariants.{Send, Step}
use Rattle.rounds.specs.Limits.{window, last_round, most_events}
use Rattle.rounds.specs.Config.{Control, Config, open_control, opening}
use Rattle.rounds.specs.Stages.{stage}
use Rattle.rounds.specs.Verdicts.{accepted, verdict}
use Rattle.rounds.specs.Events.{gathered, messages, next_control, next_content, apply}
use Rattle.rounds.specs.Runs.{deeds}
use Rattle.rounds.specs.Allowed.{Sends}
use Rattle.rounds.specs.Claims.{ran, Everyone, Live, SentTo, Had, moments, times, total}
use Rattle.rounds.specs.Claims.Live.{taken}
use Rattle.rounds.proofs.MadeOfThree.{course, run_course}
use Rattle.rounds.proofs.Kept.{Kept, kept}
use Rattle.rounds.proofs.Limits.{size_stays, rounds_kept, events_kept, Window, window_kept, open_window, in_window, Within, within_kept, open_within}
use Rattle.rounds.proofs.Lead.{led_kept, open_led}
use Rattle.rounds.proofs.Counts.{counts, total_kept}
use Rattle.rounds.proofs.Reach.{reach_grows, own_reach}
use Rattle.rounds.proofs.Live.{not_live, open_silent}
use Rattle.rounds.proofs.Mail.{spoken_fresh, mail_true}
use Rattle.rounds.proofs.Table.{Once, once_kept, open_once, at_sending, at_collecting, at_pending, at_idle}
use Rattle.rounds.proofs.InTurn.{after_append, apply_accepted}
use Rattle.rounds.proofs.Deeds.{after_deeds}
use Rattle.rounds.proofs.Effects.{step_votes, step_reaches}

module _ (n : ℕ) (v : ℕ → ℕ) (es : List Event) where
  abbrev now : Control
  now = (ran n v es).control

  -- what every event keeps and the opening has, the run has
  throughout : (I : Control → Type 0) → Kept (λ c d. I c) → I (open_control n) → I now
  throughout I k i = kept (λ c d. I c) k (run_course n v es) i

  size_in : now.size ≡ n
  unfolding open_control
  size_in = size_stays (run_course n v es)

  -- ---- the limits
  pub lead_in : (p q : ℕ) → p < n → q < n → (now.site p).round ≤ (now.site q).round + window
  lead_in p q hp hq = let size = size_in in (throughout _ led_kept (open_led n) p q (omega arith) (omega arith)).0

  pub spoken_in : (p q : ℕ) → p < n → q < n → has (now.site p).sent q ≡ true → (now.site p).round < (now.site q).round + window
  spoken_in p q hp hq = let size = size_in in (throughout _ led_kept (open_led n) p q (omega arith) (omega arith)).1

  window_in : Window now
  window_in = throughout _ window_kept (open_window n)

  pub near_in : (p r q : ℕ) → has (now.transit p r) q ≡ true → ((now.site p).round ≤ r) × (r < (now.site p).round + window)
  near_in = in_window now window_in

  pub rounds_in : (p : ℕ) → (1 ≤ (now.site p).round) × ((now.site p).round ≤ last_round)
  unfolding open_control
  rounds_in = throughout _ rounds_kept (λ x. (omega arith, omega arith))

  pub events_in : now.events ≤ most_events
  unfolding open_control
  events_in = throughout _ events_kept (omega arith)

  within_in : Within now
  within_in = throughout _ within_kept (open_within n)

  pub sent_in : (p : ℕ) → (now.site p).sent < 2 ^ n
  sent_in p = rw size_in at (within_in.sent p)

  pub heard_in : (p : ℕ) → (now.site p).heard < 2 ^ n
  heard_in p = rw size_in at (within_in.heard p)

  pub transit_in : (p r : ℕ) → now.transit p r < 2 ^ n
  transit_in p r = rw size_in at (within_in.transit p r)

  pub reach_in : (p : ℕ) → p < n → (now.site p).reach < 2 ^ n
  reach_in p h = let size = size_in in rw size_in at (within_in.reach p (omega arith))

  pub own_in : (p : ℕ) → has (now.site p).reach p ≡ true
  own_in = own_reach n v (run_course n v es)

  pub reach_grows_in : (later : List Event) (p q : ℕ) → has (now.site p).reach q ≡ true → has ((ran n v (es ++ later)).control.site p).reach q ≡ true
  reach_grows_in later p q t = rw (after_append (opening n v) es later) (reach_grows (course (ran n v es) later) p q t)

  -- ---- the counts
  pub count_in : (p : ℕ) (s : Stage) → now.count p s ≡ times p s (moments (open_control n) es)
  unfolding opening open_control
  count_in p s = let all = counts (opening n v) es p s in omega arith

  pub total_in : (p : ℕ) → total (now.count p) ≡ now.events
  unfolding open_control total
  total_in = throughout _ total_kept (λ x. refl)

  -- ---- the stages
  once_in : Once now
  once_in = (kept _ once_kept (run_course n v es) ((λ x r y l. absurd (open_silent n x r y l)), open_once n)).1

  all_in : (s : ℕ) → Everyone n s → Everyone now.size s
  all_in s all q h = let size = size_in in all q (omega arith)

  pub sending_in : (p q : ℕ) → q < n → has (now.site p).sent q ≡ false → stage now p ≡ Sending
  sending_in p q h = let size = size_in in at_sending now within_in p q (omega arith)

  pub collecting_in : (p : ℕ) → Everyone n (now.site p).sent → (q : ℕ) → has (now.transit p (now.site p).round) q ≡ true → stage now p ≡ Collecting
  collecting_in p all = at_collecting now within_in p (all_in _ all)

  pub pending_in : (p : ℕ) → Everyone n (now.site p).sent → ((q : ℕ) → q < n → has (now.transit p (now.site p).round) q ≡ false)
      → (q : ℕ) → q < n → has (now.site p).heard q ≡ false → stage now p ≡ Pending
  pending_in p all none q h = let size = size_in in at_pending now within_in p (all_in _ all) (λ y l. none y (omega arith)) q (omega arith)

  pub idle_in : (p : ℕ) → Everyone n (now.site p).sent → Everyone n (now.site p).heard → stage now p ≡ Idle
  idle_in p all heard = at_idle now within_in p once_in (all_in _ all) (all_in _ heard)

  -- ---- the mail
  pub not_live_in : (p q : ℕ) → Live now q (now.site p).round p → Sends now p q → ⊥
  not_live_in p q l h = not_live now p q (spoken_fresh n v (run_course n v es)).0 h l

pub mail_in : (n : ℕ) (v : ℕ → ℕ) (es : List Event) (x r y : ℕ) → Live (ran n v es).control x r y
    → (earlier later : List Event) → earlier ++ later ≡ es → ((ran n v earlier).control.site y).round ≡ r
    → ((ran n v es).content.mail x r y ≡ message ((ran n v earlier).content.holding y))
    × ((ran n v es).control.carried x r y ≡ ((ran n v earlier).control.site y).reach)
mail_in n v es x r y l earlier later whole round =
    rw (← whole, after_append (opening n v) earlier later, ← round)
    (mail_true n v (run_course n v earlier) (course (ran n v earlier) later) x y
    (rw (← whole, after_append (opening n v) earlier later, ← round) at l))

-- and so what it held when it sent it
pub said_in : (n : ℕ) (v : ℕ → ℕ) (es : List Event) (x r y : ℕ) → Live (ran n v es).control x r y → (s : SentTo n v (deeds (open_control n) es) x r y)
    → ((ran n v es).content.mail x r y ≡ message ((ran n v s.earlier).content.holding y))
    × ((ran n v es).control.carried x r y ≡ ((ran n v s.earlier).control.site y).reach)
unfolding opening
said_in n v es x r y l s =
    rw (← after_deeds (opening n v) es)
    (mail_in n v (deeds (open_control n) es) x r y (rw (← after_deeds (opening n v) es) at l) s.earlier (Send y x ∷ s.later) s.whole s.round)

-- ---- a step: it goes by what the senders it heard had in that round
module _ (n : ℕ) (v : ℕ → ℕ) (es : List Event) (p : ℕ) (said : ℕ → Message) (knew : ℕ → ℕ)
    (had : (q : ℕ) → has ((ran n v es).control.site p).heard q ≡ true → Had n v es q ((ran n v es).control.site p).round (said q) (knew q)) where
  heard_true : (q : ℕ) → has ((ran n v es).control.site p).heard q ≡ true
      → ((ran n v es).content.mail p ((ran n v es).control.site p).round q ≡ said q)
      × ((ran n v es).control.carried p ((ran n v es).control.site p).round q ≡ knew q)
  heard_true q t =
      let w = (had q t).when in
      let m = mail_in n v es p ((ran n v es).control.site p).round q (taken refl t) w.earlier w.later w.whole w.round in
      (m.0 ∙ sym (had q t).said, m.1 ∙ sym (had q t).reach)

  pub votes_in : accepted (verdict (ran n v es).control (Step p)) ≡ true
      → (apply (ran n v es) (Step p)).content.holding p
      ≡ rule ((ran n v es).control.site p).round ((ran n v es).content.holding p) (messages (members n ((ran n v es).control.site p).heard) said)
  unfolding next_content
  votes_in a =
      ap (λ (c : Config). c.content.holding p) (apply_accepted (ran n v es) (Step p) a)
      ∙ step_votes (ran n v es).control (ran n v es).content p said (λ q t. (heard_true q t).0)
      ∙ ap
      (λ (k : ℕ). rule ((ran n v es).control.site p).round ((ran n v es).content.holding p) (messages (members k ((ran n v es).control.site p).heard) said))
      (size_in n v es)

  pub reaches_in : accepted (verdict (ran n v es).control (Step p)) ≡ true
      → ((apply (ran n v es) (Step p)).control.site p).reach
      ≡ gathered (members n ((ran n v es).control.site p).heard) knew ((ran n v es).control.site p).reach
  unfolding next_control
  reaches_in a =
      ap (λ (c : Config). (c.control.site p).reach) (apply_accepted (ran n v es) (Step p) a)
      ∙ step_reaches (ran n v es).control (ran n v es).content p knew (λ q t. (heard_true q t).1)
      ∙ ap (λ (k : ℕ). gathered (members k ((ran n v es).control.site p).heard) knew ((ran n v es).control.site p).reach) (size_in n v es)
