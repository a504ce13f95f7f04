-- The sends of a broadcast leave each other's tests as they are, so that an allowed broadcast is N allowed sends.
-- Assumes nothing.
use Prim.Native.Nat.{ℕ, zero, suc, ◌+◌, ◌≤◌, ◌<◌}
use native.Mathlib.Nat.{eq-or-lt_of_le, le_of_suc-le-suc}
use native.Mathlib.Omega.{arith}
use mathlib.Core.Path.{◌≡◌, refl, ap, ◌∙◌}
use mathlib.Core.Logic.{⊎_elim}
use mathlib.Core.Bool.{true}
use Rattle.sets.specs.Sets.{has, with}
use Rattle.sets.proofs.Membership.{with_own, with_kept, with_other}
use Rattle.rounds.specs.Config.{Site, Control}
use Rattle.rounds.specs.Stages.{tick}
use Rattle.rounds.specs.Verdicts.{send_verdict}
use Rattle.rounds.specs.Events.{send_control, sends_control}
use Rattle.rounds.specs.Allowed.{MaySend, Sends, Broadcasts}
use Rattle.rounds.proofs.Updates.{at_one, at_same}

send_round : (c : Control) (p q x : ℕ) → ((send_control (tick c) p q).site x).round ≡ (c.site x).round
unfolding send_control tick
send_round c p q = at_one (λ k s. s.round ≡ (c.site k).round) c.site p _ refl (λ k. refl)

pub send_sent : (c : Control) (p q : ℕ) → ((send_control (tick c) p q).site p).sent ≡ with (c.site p).sent q
unfolding send_control tick
send_sent c p q = ap (λ (s : Site). s.sent) (at_same c.site p _)

pub sends_round : (k : ℕ) (c : Control) (p x : ℕ) → ((sends_control k c p).site x).round ≡ (c.site x).round
unfolding sends_control
sends_round zero c p x = refl
sends_round (suc k) c p x = send_round (sends_control k c p) p k x ∙ sends_round k c p x

pub sends_size : (k : ℕ) (c : Control) (p : ℕ) → (sends_control k c p).size ≡ c.size
unfolding sends_control send_control tick
sends_size zero c p = refl
sends_size (suc k) c p = sends_size k c p

pub sends_events : (k : ℕ) (c : Control) (p : ℕ) → (sends_control k c p).events ≡ c.events + k
unfolding sends_control send_control tick
sends_events zero c p = omega arith
sends_events (suc k) c p = let ih = sends_events k c p in omega arith

-- a target that has had its turn is in the sent set
pub sends_sent : (k : ℕ) (c : Control) (p i : ℕ) → i < k → has ((sends_control k c p).site p).sent i ≡ true
unfolding sends_control
sends_sent zero c p i h = absurd (omega arith)
sends_sent (suc k) c p i h =
    ap (λ (s : ℕ). has s i) (send_sent (sends_control k c p) p k)
    ∙ ⊎_elim (λ e. rw e (with_own _ k)) (λ l. with_kept _ k i (sends_sent k c p i l)) (eq-or-lt_of_le (le_of_suc-le-suc h))

-- a target that is yet to come is unsent if it was
sends_unsent : (k : ℕ) (c : Control) (p i : ℕ) → k ≤ i → has ((sends_control k c p).site p).sent i ≡ has (c.site p).sent i
unfolding sends_control
sends_unsent zero c p i h = refl
sends_unsent (suc k) c p i h =
    ap (λ (s : ℕ). has s i) (send_sent (sends_control k c p) p k) ∙ with_other _ k i (λ e. omega arith) ∙ sends_unsent k c p i (omega arith)

sends_may : (k : ℕ) (c : Control) (p i : ℕ) → k ≤ i → MaySend c p i → MaySend (sends_control k c p) p i
sends_may k c p i h m =
    record {
      unsent = sends_unsent k c p i h ∙ m.unsent;
      near = λ e. let mine = sends_round k c p p in let theirs = sends_round k c p i in m.near (omega arith);
    }

-- a target that is yet to come is answered as it was before the broadcast
pub sends_verdict : (k : ℕ) (c : Control) (p i : ℕ) → k ≤ i → send_verdict (sends_control k c p) p i ≡ send_verdict c p i
unfolding send_verdict
sends_verdict k c p i h = rw (sends_unsent k c p i h, sends_round k c p p, sends_round k c p i)

pub each_sends : (c : Control) (p : ℕ) → Broadcasts c p → (k : ℕ) → k < c.size → Sends (sends_control k c p) p k
each_sends c p b k h =
    let size = sends_size k c p in
    let events = sends_events k c p in
    let who = b.who in
    let room = b.room in
    record { from = omega arith; to = omega arith; room = omega arith; may = sends_may k c p k (omega arith) (b.each k h) }
