-- Which messages are live, in transit or heard this round, after each event; that a live message is one that its sender has sent; and that no
-- message is written twice. Assumes nothing.
use Prim.Native.Nat.{ℕ, suc, ◌≤◌, ◌<◌}
use native.Mathlib.Omega.{arith}
use mathlib.Core.Path.{◌≡◌, refl, sym, ◌∙◌}
use mathlib.Core.Logic.{◌⊎◌, inl, inr, ⊎_elim}
use mathlib.Core.Bool.{true, false, true≢false}
use mathlib.Core.List.{List}
use lib.Dec.{ltb}
use borrow.Author.Tests.{ltb-false, le-ltb}
use Rattle.sets.specs.Sets.{empty, has, with, without}
use Rattle.sets.proofs.Membership.{with_cases, with_own, with_kept, without_own, without_other, without_was, empty_none}
use Rattle.rounds.specs.Config.{Site, Control, Content, open_control}
use Rattle.rounds.specs.Stages.{tick}
use Rattle.rounds.specs.Events.{timely, send_control, send_content, receive_control, from, step_control}
use Rattle.rounds.specs.Runs.{Report}
use Rattle.rounds.specs.Allowed.{Sends, Receives}
use Rattle.rounds.specs.Course.{Course}
use Rattle.rounds.specs.Claims.{Live}
use Rattle.rounds.specs.Claims.Live.{waiting, taken}
use Rattle.rounds.proofs.Updates.{at_one, at_each, at_same, at₂_one, at₂_same, cond_either}
use Rattle.rounds.proofs.Kept.{Kept, kept}

-- ---- what is live after an event
-- the message that a send of p to q puts in transit
pub record Posted (c : Control) (p q x r y : ℕ) : Type 0 where
  pub receiver : x ≡ q
  pub round : r ≡ (c.site p).round
  pub sender : y ≡ p
  pub kept : timely (c.site p).round (c.site q).round ≡ true

module _ (c : Control) (p q : ℕ) where
  pub send_was : (x r y : ℕ) → has ((send_control (tick c) p q).transit x r) y ≡ true → (has (c.transit x r) y ≡ true) ⊎ Posted c p q x r y
  unfolding send_control tick
  send_was =
      cond_either (λ (T : ℕ → ℕ → ℕ). (x r y : ℕ) → has (T x r) y ≡ true → (has (c.transit x r) y ≡ true) ⊎ Posted c p q x r y)
      (timely (c.site p).round (c.site q).round) _ _
      (λ e. at₂_one (λ x r t. (y : ℕ) → has t y ≡ true → (has (c.transit x r) y ≡ true) ⊎ Posted c p q x r y) c.transit q (c.site p).round _
      (λ y t. ⊎_elim inl (λ new. inr (record { receiver = refl; round = refl; sender = new; kept = e })) (with_cases _ p y t))
      (λ x r y t. inl t))
      (λ e x r y t. inl t)

  pub send_keeps : (x r y : ℕ) → has (c.transit x r) y ≡ true → has ((send_control (tick c) p q).transit x r) y ≡ true
  unfolding send_control tick
  send_keeps =
      cond_either (λ (T : ℕ → ℕ → ℕ). (x r y : ℕ) → has (c.transit x r) y ≡ true → has (T x r) y ≡ true)
      (timely (c.site p).round (c.site q).round) _ _
      (λ e. at₂_one (λ x r t. (y : ℕ) → has (c.transit x r) y ≡ true → has t y ≡ true) c.transit q (c.site p).round _
      (λ y t. with_kept _ p y t) (λ x r y t. t))
      (λ e x r y t. t)

  pub send_puts : (x r y : ℕ) → Posted c p q x r y → has ((send_control (tick c) p q).transit x r) y ≡ true
  unfolding send_control tick
  send_puts x r y m =
      rw (m.receiver, m.round, m.sender, m.kept, at₂_same c.transit q (c.site p).round (with (c.transit q (c.site p).round) p))
      (with_own (c.transit q (c.site p).round) p)

  heard_still : (x r y : ℕ) → r ≡ ((send_control (tick c) p q).site x).round → has ((send_control (tick c) p q).site x).heard y ≡ true → Live c x r y
  unfolding send_control tick
  heard_still x r y =
      at_one (λ x s. r ≡ s.round → has s.heard y ≡ true → Live c x r y) c.site p _ (λ e t. taken e t) (λ x e t. taken e t) x

  pub live_send : (x r y : ℕ) → Live (send_control (tick c) p q) x r y → Live c x r y ⊎ Posted c p q x r y
  live_send x r y (waiting t) = ⊎_elim (λ old. inl (waiting old)) inr (send_was x r y t)
  live_send x r y (taken e t) = inl (heard_still x r y e t)

module _ (c : Control) (p q : ℕ) where
  pub receive_was : (x r y : ℕ) → has ((receive_control (tick c) p q).transit x r) y ≡ true → has (c.transit x r) y ≡ true
  unfolding receive_control tick
  receive_was =
      at₂_one (λ x r t. (y : ℕ) → has t y ≡ true → has (c.transit x r) y ≡ true) c.transit p (c.site p).round _
      (λ y t. without_was _ q y t) (λ x r y t. t)

  pub receive_took : has ((receive_control (tick c) p q).transit p (c.site p).round) q ≡ false
  unfolding receive_control tick
  receive_took = rw (at₂_same c.transit p (c.site p).round (without (c.transit p (c.site p).round) q)) (without_own _ q)

  pub receive_keeps : (x r y : ℕ) → has (c.transit x r) y ≡ true → (x ≡ p → r ≡ (c.site p).round → y ≡ q → ⊥)
      → has ((receive_control (tick c) p q).transit x r) y ≡ true
  unfolding receive_control tick
  receive_keeps x r y =
      at₂_one (λ x r t. has (c.transit x r) y ≡ true → (x ≡ p → r ≡ (c.site p).round → y ≡ q → ⊥) → has t y ≡ true) c.transit p (c.site p).round _
      (λ t other. without_other _ q y (other refl refl) ∙ t) (λ x r t other. t) x r

  heard_now : Receives c p q → (x r y : ℕ) → r ≡ ((receive_control (tick c) p q).site x).round
      → has ((receive_control (tick c) p q).site x).heard y ≡ true → Live c x r y
  unfolding receive_control tick
  heard_now h x r y =
      at_one (λ x s. r ≡ s.round → has s.heard y ≡ true → Live c x r y) c.site p _
      (λ e t. ⊎_elim (λ old. taken e old) (λ new. came r y e new) (with_cases _ q y t))
      (λ x e t. taken e t) x
    where
      came : (r y : ℕ) → r ≡ (c.site p).round → y ≡ q → Live c p r y
      came r y e new = waiting (rw (e, new) h.waiting)

  pub live_receive : Receives c p q → (x r y : ℕ) → Live (receive_control (tick c) p q) x r y → Live c x r y
  live_receive h x r y (waiting t) = waiting (receive_was x r y t)
  live_receive h x r y (taken e t) = heard_now h x r y e t

module _ (c : Control) (p : ℕ) where
  pub step_was : (x r y : ℕ) → has ((step_control (tick c) p).transit x r) y ≡ true → (has (c.transit x r) y ≡ true) × (x ≡ p → (c.site p).round < r)
  unfolding step_control tick from
  step_was x r y =
      at_each (λ x T. has (T r) y ≡ true → (has (c.transit x r) y ≡ true) × (x ≡ p → (c.site p).round < r)) c.transit p _
      (cond_either (λ (t : ℕ). has t y ≡ true → (has (c.transit p r) y ≡ true) × (p ≡ p → (c.site p).round < r)) (ltb r (suc (c.site p).round)) empty _
      (λ e t. absurd (empty_none y t)) (λ e t. (t, λ same. ltb-false r (suc (c.site p).round) e)))
      (λ x other t. (t, λ same. absurd (other same))) x

  pub step_keeps : (x r y : ℕ) → has (c.transit x r) y ≡ true → (x ≡ p → (c.site p).round < r) → has ((step_control (tick c) p).transit x r) y ≡ true
  unfolding step_control tick from
  step_keeps x r y =
      at_one (λ x T. has (c.transit x r) y ≡ true → (x ≡ p → (c.site p).round < r) → has (T r) y ≡ true) c.transit p _
      (λ t later. rw (le-ltb r (suc (c.site p).round) (later refl)) t) (λ x t later. t) x

  unheard : (x r y : ℕ) → r ≡ ((step_control (tick c) p).site x).round → has ((step_control (tick c) p).site x).heard y ≡ true → Live c x r y
  unfolding step_control tick
  unheard x r y =
      at_one (λ x s. r ≡ s.round → has s.heard y ≡ true → Live c x r y) c.site p _
      (λ e t. absurd (empty_none y t)) (λ x e t. taken e t) x

  pub live_step : (x r y : ℕ) → Live (step_control (tick c) p) x r y → Live c x r y
  live_step x r y (waiting t) = waiting (step_was x r y t).0
  live_step x r y (taken e t) = unheard x r y e t

-- ---- what is sent stays sent
-- a site has sent to x for round r: that round is over, or it is the present one and x is in the sent set
abbrev Sent : ℕ → ℕ → Site → Type 0
Sent x r s = (r ≤ s.round) × (r ≡ s.round → has s.sent x ≡ true)

sent_kept : (x r y : ℕ) → Kept (λ c d. Sent x r (c.site y))
unfolding send_control receive_control step_control tick
sent_kept x r y =
    record {
      send = λ c d p q h. at_one (λ z s. Sent x r (c.site z) → Sent x r s) c.site p _ (λ o. (o.0, λ e. with_kept _ q x (o.1 e))) (λ z o. o) y;
      receive = λ c d p q h. at_one (λ z s. Sent x r (c.site z) → Sent x r s) c.site p _ (λ o. o) (λ z o. o) y;
      step = λ c d p h.
          at_one (λ z s. Sent x r (c.site z) → Sent x r s) c.site p _
          (λ o. let most = o.0 in (omega arith, λ e. absurd (omega arith))) (λ z o. o) y;
    }

sent_now : (c : Control) (p q : ℕ) → Sent q (c.site p).round ((send_control (tick c) p q).site p)
unfolding send_control tick
sent_now c p q = rw (at_same c.site p _) (omega arith, λ e. with_own _ q)

-- so after p has sent to q, on every course from there it may not send to q again before its next round
pub written_once : (c : Control) (d : Content) {c₁ : Control} {d₁ : Content} {rs : List Report} (p q : ℕ)
    → Course (send_control (tick c) p q) (send_content c d p q) c₁ d₁ rs → (c₁.site p).round ≡ (c.site p).round → Sends c₁ p q → ⊥
written_once c d p q l e h = true≢false (sym ((kept _ (sent_kept q (c.site p).round p) l (sent_now c p q)).1 (sym e)) ∙ h.may.unsent)

-- ---- a live message is one that its sender has sent
abbrev pub Spoken : Control → Type 0
Spoken c = (x r y : ℕ) → Live c x r y → Sent x r (c.site y)

posted_sent : (c : Control) (p q x r y : ℕ) → Posted c p q x r y → Sent x r ((send_control (tick c) p q).site y)
posted_sent c p q x r y m = rw (m.receiver, m.round, m.sender) (sent_now c p q)

pub spoken_kept : Kept (λ c d. Spoken c)
spoken_kept =
    record {
      send = λ c d p q h k x r y l.
          ⊎_elim (λ old. (sent_kept x r y).send c d p q h (k x r y old)) (posted_sent c p q x r y) (live_send c p q x r y l);
      receive = λ c d p q h k x r y l. (sent_kept x r y).receive c d p q h (k x r y (live_receive c p q h x r y l));
      step = λ c d p h k x r y l. (sent_kept x r y).step c d p h (k x r y (live_step c p x r y l));
    }

-- so what may be sent is not live
pub not_live : (c : Control) (p q : ℕ) → Spoken c → Sends c p q → Live c q (c.site p).round p → ⊥
not_live c p q spoken h l = true≢false (sym ((spoken q (c.site p).round p l).1 refl) ∙ h.may.unsent)

-- nothing is live at the opening
pub open_silent : (n x r y : ℕ) → Live (open_control n) x r y → ⊥
unfolding open_control
open_silent n x r y (waiting t) = empty_none y t
open_silent n x r y (taken e t) = empty_none y t
