-- What is decided without looking at a value: two runs of the same events from different opening values.
-- Assumes nothing.
use Prim.Native.Nat.{ℕ, zero, suc}
use mathlib.Core.Path.{◌≡◌, refl, ap, ap₂}
use mathlib.Core.Bool.{Bool, true, false, cond}
use mathlib.Core.List.{List, [], ◌∷◌, ◌++◌}
use Rattle.sets.specs.Sets.{union}
use Rattle.sets.proofs.Membership.{in_right, with_own}
use Rattle.voting.specs.declared.Message.{Message}
use Rattle.voting.specs.Voting.{opens, message, rule}
use Rattle.rounds.specs.declared.Event.{Event}
use Rattle.rounds.specs.declared.Event.TheVariants.{Send, Receive, Step, Broadcast}
use Rattle.rounds.specs.Verdicts.{Verdict}
use Rattle.rounds.specs.Config.{Control, Content, at₃, open_control, open_content, opening}
use Rattle.rounds.specs.Stages.{tick}
use Rattle.rounds.specs.Verdicts.{accepted, verdict}
use Rattle.rounds.specs.Events.{timely, send_control, send_content, receive_control, gathered, messages, heard_by, step_control, step_content, sends_control, sends_content, next_control, next_content, if_accepted, apply_control, apply_content, apply}
use Rattle.rounds.specs.Runs.{after, verdicts, Report, told, reports, replay_verdict}
use Rattle.rounds.specs.Claims.{Agree}
use Rattle.rounds.proofs.Updates.{at_one, at_all, at₃_all}
use Rattle.rounds.proofs.Reach.{gathered_keeps}
use Rattle.rounds.proofs.Throughout.{reach_grows_in}

-- ---- the first half: no test and no control part looks at the content
control_only : (c : Control) (d e : Content) (es : List Event)
    → (after (record { control = c; content = d }) es).control ≡ (after (record { control = c; content = e }) es).control
unfolding after apply
control_only c d e [] = refl
control_only c d e (x ∷ es) = control_only (apply_control c x) (apply_content c d x) (apply_content c e x) es

verdicts_only : (c : Control) (d e : Content) (es : List Event)
    → verdicts (record { control = c; content = d }) es ≡ verdicts (record { control = c; content = e }) es
unfolding verdicts apply
verdicts_only c d e [] = refl
verdicts_only c d e (x ∷ es) =
    ap (λ (l : List Verdict). verdict c x ∷ l) (verdicts_only (apply_control c x) (apply_content c d x) (apply_content c e x) es)

replay_only : (c : Control) (d e : Content) (es : List Event)
    → replay_verdict (record { control = c; content = d }) es ≡ replay_verdict (record { control = c; content = e }) es
unfolding replay_verdict apply
replay_only c d e [] = refl
replay_only c d e (x ∷ es) =
    ap (λ (v : Verdict). if_accepted (verdict c x) v (verdict c x)) (replay_only (apply_control c x) (apply_content c d x) (apply_content c e x) es)

reports_only : (c : Control) (d e : Content) (es : List Event)
    → reports (record { control = c; content = d }) es ≡ reports (record { control = c; content = e }) es
unfolding reports apply
reports_only c d e [] = refl
reports_only c d e (x ∷ es) =
    ap (λ (l : List Report). if_accepted (verdict c x) (told c x) [] ++ l) (reports_only (apply_control c x) (apply_content c d x) (apply_content c e x) es)

module _ (n : ℕ) (v w : ℕ → ℕ) (es : List Event) where
  pub same_control : (after (opening n v) es).control ≡ (after (opening n w) es).control
  unfolding opening
  same_control = control_only (open_control n) (open_content v) (open_content w) es

  pub same_verdicts : verdicts (opening n v) es ≡ verdicts (opening n w) es
  unfolding opening
  same_verdicts = verdicts_only (open_control n) (open_content v) (open_content w) es

  pub same_replay : replay_verdict (opening n v) es ≡ replay_verdict (opening n w) es
  unfolding opening
  same_replay = replay_only (open_control n) (open_content v) (open_content w) es

  pub same_reports : reports (opening n v) es ≡ reports (opening n w) es
  unfolding opening
  same_reports = reports_only (open_control n) (open_content v) (open_content w) es

-- ---- the second half: what a process holds, and what a message carries, comes from the processes in its reach
module _ (v w : ℕ → ℕ) where
  record Alike (c : Control) (d e : Content) : Type 0 where
    holding : (p : ℕ) → Agree v w (c.site p).reach → d.holding p ≡ e.holding p
    mail : (p r q : ℕ) → Agree v w (c.carried p r q) → d.mail p r q ≡ e.mail p r q

  open_alike : (n : ℕ) → Alike (open_control n) (open_content v) (open_content w)
  unfolding open_control open_content
  open_alike n = record { holding = λ p a. ap opens (a p (with_own _ p)); mail = λ p r q a. refl }

  send_alike : (c : Control) (d e : Content) (p q : ℕ) → Alike c d e → Alike (send_control (tick c) p q) (send_content c d p q) (send_content c e p q)
  unfolding send_control send_content tick
  send_alike c d e p q k =
      record {
        holding = at_one (λ x s. Agree v w s.reach → d.holding x ≡ e.holding x) c.site p _ (k.holding p) k.holding;
        mail = sent (timely (c.site p).round (c.site q).round);
      }
    where
      sent : (b : Bool) (x r y : ℕ)
          → Agree v w (cond b (at₃ c.carried q (c.site p).round p (c.site p).reach) c.carried x r y)
          → cond b (at₃ d.mail q (c.site p).round p (message (d.holding p))) d.mail x r y
          ≡ cond b (at₃ e.mail q (c.site p).round p (message (e.holding p))) e.mail x r y
      sent true =
          at₃_all (λ s m o. Agree v w s → m ≡ o) c.carried d.mail e.mail q (c.site p).round p _ _ _
          (λ a. ap message (k.holding p a)) k.mail
      sent false = k.mail

  receive_alike : (c : Control) (d e : Content) (p q : ℕ) → Alike c d e → Alike (receive_control (tick c) p q) d e
  unfolding receive_control tick
  receive_alike c d e p q k =
      record {
        holding = at_one (λ x s. Agree v w s.reach → d.holding x ≡ e.holding x) c.site p _ (k.holding p) k.holding;
        mail = k.mail;
      }

  -- the messages that a step hears are equal
  heard_alike : (qs : List ℕ) (f : ℕ → ℕ) (s : ℕ) (m o : ℕ → Message) → ((q : ℕ) → Agree v w (f q) → m q ≡ o q)
      → Agree v w (gathered qs f s) → messages qs m ≡ messages qs o
  unfolding gathered messages
  heard_alike [] f s m o k a = refl
  heard_alike (q ∷ qs) f s m o k a =
      ap₂ {C = List Message} (λ x l. x ∷ l)
      (k q (λ x t. a x (gathered_keeps qs f (union s (f q)) x (in_right s (f q) x t))))
      (heard_alike qs f (union s (f q)) m o k a)

  step_alike : (c : Control) (d e : Content) (p : ℕ) → Alike c d e → Alike (step_control (tick c) p) (step_content c d p) (step_content c e p)
  unfolding step_control step_content tick heard_by
  step_alike c d e p k =
      record {
        holding = at_all (λ x s l m. Agree v w s.reach → l ≡ m) c.site d.holding e.holding p _ _ _ voted k.holding;
        mail = k.mail;
      }
    where
      voted : Agree v w (gathered (heard_by c p) (c.carried p (c.site p).round) (c.site p).reach)
          → rule (c.site p).round (d.holding p) (messages (heard_by c p) (d.mail p (c.site p).round))
          ≡ rule (c.site p).round (e.holding p) (messages (heard_by c p) (e.mail p (c.site p).round))
      voted a =
          ap₂ (rule (c.site p).round) (k.holding p (λ q t. a q (gathered_keeps _ _ _ q t)))
          (heard_alike _ _ _ _ _ (k.mail p (c.site p).round) a)

  sends_alike : (j : ℕ) (c : Control) (d e : Content) (p : ℕ) → Alike c d e
      → Alike (sends_control j c p) (sends_content j c d p) (sends_content j c e p)
  unfolding sends_control sends_content
  sends_alike zero c d e p k = k
  sends_alike (suc j) c d e p k = send_alike (sends_control j c p) (sends_content j c d p) (sends_content j c e p) p j (sends_alike j c d e p k)

  next_alike : (c : Control) (d e : Content) (x : Event) → Alike c d e → Alike (next_control c x) (next_content c d x) (next_content c e x)
  unfolding next_control next_content
  next_alike c d e (Send p q) k = send_alike c d e p q k
  next_alike c d e (Receive p q) k = receive_alike c d e p q k
  next_alike c d e (Step p) k = step_alike c d e p k
  next_alike c d e (Broadcast p) k = sends_alike c.size c d e p k

  apply_alike : (c : Control) (d e : Content) (x : Event) → Alike c d e → Alike (apply_control c x) (apply_content c d x) (apply_content c e x)
  unfolding apply_control apply_content if_accepted
  apply_alike c d e x k = go (accepted (verdict c x))
    where
      go : (b : Bool) → Alike (cond b (next_control c x) c) (cond b (next_content c d x) d) (cond b (next_content c e x) e)
      go true = next_alike c d e x k
      go false = k

  after_alike : (c : Control) (d e : Content) (es : List Event) → Alike c d e
      → Alike (after (record { control = c; content = d }) es).control (after (record { control = c; content = d }) es).content
      (after (record { control = c; content = e }) es).content
  unfolding after apply
  after_alike c d e [] k = k
  after_alike c d e (x ∷ es) k = after_alike (apply_control c x) (apply_content c d x) (apply_content c e x) es (apply_alike c d e x k)

-- where the opening values agree on a process's reach after all events, its value, vote and decision are equal after the first of them
pub same_holding : (n : ℕ) (v w : ℕ → ℕ) (es later : List Event) (p : ℕ)
    → Agree v w ((after (opening n v) (es ++ later)).control.site p).reach
    → (after (opening n v) es).content.holding p ≡ (after (opening n w) es).content.holding p
unfolding opening
same_holding n v w es later p a =
    (after_alike v w (open_control n) (open_content v) (open_content w) es (open_alike v w n)).holding p
    (λ q t. a q (reach_grows_in n v es later p q t))
