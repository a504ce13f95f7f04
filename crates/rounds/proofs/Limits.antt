-- The limits that hold in every run: rounds, accepted events, the window of what is in transit, and every set within the N processes.
-- The bound of the lead is in Lead. Assumes nothing.
use Prim.Native.Nat.{ℕ, suc, ◌+◌, ◌≤◌, ◌<◌, ◌^◌}
use native.Mathlib.Nat.{lt_of_not-le, le_of_suc-le-suc}
use native.Mathlib.Omega.{arith}
use mathlib.Core.Path.{◌≡◌, refl, ◌∙◌}
use mathlib.Core.Bool.{Bool, true, false, cond, ◌&&◌, false≢true}
use mathlib.Core.List.{List, [], ◌∷◌}
use lib.Dec.{ltb, leb}
use borrow.Author.Tests.{leb-true, ltb-true, le-leb, lt-leb, lt-ltb}
use Rattle.sets.specs.Sets.{empty, has}
use Rattle.sets.proofs.Membership.{empty_none}
use Rattle.sets.proofs.Bounds.{empty_below, with_below, without_below, union_below}
use Rattle.rounds.specs.Limits.{window, last_round, most_events}
use Rattle.rounds.specs.Config.{Site, Control, Content, at₂, open_control}
use Rattle.rounds.specs.Stages.{tick}
use Rattle.rounds.specs.Events.{timely, send_control, receive_control, gathered, from, step_control}
use Rattle.rounds.specs.Runs.{Report}
use Rattle.rounds.specs.Course.{Course}
use Rattle.rounds.proofs.Updates.{at_one, at_both, at₂_one, at₃_one, cond_either}
use Rattle.rounds.proofs.Kept.{Kept, kept}

-- ---- the number of processes stays
pub size_stays : {c₀ : Control} {d₀ : Content} {c : Control} {d : Content} {rs : List Report} → Course c₀ d₀ c d rs → c.size ≡ c₀.size
unfolding send_control receive_control step_control tick
size_stays {c₀ = c₀} l =
    kept (λ c d. c.size ≡ c₀.size)
    (record { send = λ c d p q h e. e; receive = λ c d p q h e. e; step = λ c d p h e. e })
    l refl

-- ---- rounds and events
abbrev pub InRounds : Site → Type 0
InRounds s = (1 ≤ s.round) × (s.round ≤ last_round)

pub rounds_kept : Kept (λ c d. (x : ℕ) → InRounds (c.site x))
unfolding send_control receive_control step_control tick
rounds_kept =
    record {
      send = λ c d p q h k. at_one (λ x s. InRounds s) c.site p _ (k p) k;
      receive = λ c d p q h k. at_one (λ x s. InRounds s) c.site p _ (k p) k;
      step = λ c d p h k.
          at_one (λ x s. InRounds s) c.site p _ (let low = (k p).0 in let high = (k p).1 in (omega arith, omega (arith, h.more))) k;
    }

pub events_kept : Kept (λ c d. c.events ≤ most_events)
unfolding send_control receive_control step_control tick
events_kept =
    record {
      send = λ c d p q h k. omega (arith, h.room);
      receive = λ c d p q h k. omega (arith, h.room);
      step = λ c d p h k. omega (arith, h.room);
    }

-- ---- the window: nothing is in transit for a round before the receiver's, or for one that is a window or more after it
abbrev Shut : ℕ → ℕ → ℕ → Type 0
Shut round r t = (r < round → t ≡ empty) × (round + window ≤ r → t ≡ empty)

abbrev pub Window : Control → Type 0
Window c = (x r : ℕ) → Shut (c.site x).round r (c.transit x r)

pub timely_lead : (r s : ℕ) → timely r s ≡ true → (s ≤ r) × (r < s + window)
unfolding timely
timely_lead r s e = go (leb s r) (ltb r (s + window)) refl refl e
  where
    go : (a b : Bool) → leb s r ≡ a → ltb r (s + window) ≡ b → (a && b) ≡ true → (s ≤ r) × (r < s + window)
    go true b f g e = (leb-true s r f, ltb-true r (s + window) (g ∙ e))
    go false b f g e = absurd (false≢true e)

pub in_time : (r s : ℕ) → s ≤ r → r < s + window → timely r s ≡ true
unfolding timely
in_time r s low high = rw (le-leb s r low, lt-ltb r (s + window) high)

pub too_late : (r s : ℕ) → r < s → timely r s ≡ false
unfolding timely
too_late r s h = rw (lt-leb s r h)

send_window : (c : Control) (p q : ℕ) → Window c → Window (send_control (tick c) p q)
unfolding send_control tick
send_window c p q k = at_one (λ x s. (r : ℕ) → Shut s.round r ((send_control (tick c) p q).transit x r)) c.site p _ (rest p) rest
  where
    rest : (x r : ℕ) → Shut (c.site x).round r ((send_control (tick c) p q).transit x r)
    rest =
        cond_either (λ (T : ℕ → ℕ → ℕ). (x r : ℕ) → Shut (c.site x).round r (T x r)) (timely (c.site p).round (c.site q).round) _ _
        (λ e. at₂_one (λ x r t. Shut (c.site x).round r t) c.transit q (c.site p).round _
        (let lead = timely_lead (c.site p).round (c.site q).round e in (λ h. absurd (omega arith), λ h. absurd (omega arith)))
        k)
        (λ e. k)

receive_window : (c : Control) (p q : ℕ) → Window c → Window (receive_control (tick c) p q)
unfolding receive_control tick at₂
receive_window c p q k =
    at_both (λ x s t. (r : ℕ) → Shut s.round r (t r)) c.site c.transit p _ _
    (at_one (λ r t. Shut (c.site p).round r t) (c.transit p) (c.site p).round _ (λ h. absurd (omega arith), λ h. absurd (omega arith)) (k p))
    k

step_window : (c : Control) (p : ℕ) → Window c → Window (step_control (tick c) p)
unfolding step_control tick from
step_window c p k =
    at_both (λ x s t. (r : ℕ) → Shut s.round r (t r)) c.site c.transit p _ _
    (λ r. (λ h. rw (lt-ltb r (suc (c.site p).round) h), λ h. gone (ltb r (suc (c.site p).round)) r ((k p r).1 (omega arith))))
    k
  where
    gone : (b : Bool) (r : ℕ) → c.transit p r ≡ empty → cond b empty (c.transit p r) ≡ empty
    gone true r e = refl
    gone false r e = e

pub window_kept : Kept (λ c d. Window c)
window_kept =
    record {
      send = λ c d p q h k. send_window c p q k;
      receive = λ c d p q h k. receive_window c p q k;
      step = λ c d p h k. step_window c p k;
    }

pub open_window : (n : ℕ) → Window (open_control n)
unfolding open_control
open_window n x r = (λ h. refl, λ h. refl)

-- so what is in transit to x is for a round of its window: its own or one after it
pub in_window : (c : Control) → Window c → (x r y : ℕ) → has (c.transit x r) y ≡ true → ((c.site x).round ≤ r) × (r < (c.site x).round + window)
in_window c w x r y t =
    (le_of_suc-le-suc (lt_of_not-le (λ l. empty_none y (rw ((w x r).0 l) at t))), lt_of_not-le (λ l. empty_none y (rw ((w x r).1 l) at t)))

-- ---- the sets are within the processes
pub record Within (c : Control) : Type 0 where
  pub sent : (x : ℕ) → (c.site x).sent < 2 ^ c.size
  pub heard : (x : ℕ) → (c.site x).heard < 2 ^ c.size
  pub reach : (x : ℕ) → x < c.size → (c.site x).reach < 2 ^ c.size
  pub transit : (x r : ℕ) → c.transit x r < 2 ^ c.size
  pub carried : (x r y : ℕ) → c.carried x r y < 2 ^ c.size

gathered_below : (n : ℕ) (qs : List ℕ) (f : ℕ → ℕ) (s : ℕ) → s < 2 ^ n → ((q : ℕ) → f q < 2 ^ n) → gathered qs f s < 2 ^ n
unfolding gathered
gathered_below n [] f s h k = h
gathered_below n (q ∷ qs) f s h k = gathered_below n qs f _ (union_below n s (f q) h (k q)) k

send_within : (c : Control) (p q : ℕ) → p < c.size → q < c.size → Within c → Within (send_control (tick c) p q)
unfolding send_control tick
send_within c p q hp hq k =
    record {
      sent = at_one (λ x s. s.sent < 2 ^ c.size) c.site p _ (with_below c.size (c.site p).sent q (k.sent p) hq) k.sent;
      heard = at_one (λ x s. s.heard < 2 ^ c.size) c.site p _ (k.heard p) k.heard;
      reach = at_one (λ x s. x < c.size → s.reach < 2 ^ c.size) c.site p _ (k.reach p) k.reach;
      transit =
          cond_either (λ (T : ℕ → ℕ → ℕ). (x r : ℕ) → T x r < 2 ^ c.size) (timely (c.site p).round (c.site q).round) _ _
          (λ e. at₂_one (λ x r t. t < 2 ^ c.size) c.transit q (c.site p).round _
          (with_below c.size _ p (k.transit q (c.site p).round) hp) k.transit)
          (λ e. k.transit);
      carried =
          cond_either (λ (T : ℕ → ℕ → ℕ → ℕ). (x r y : ℕ) → T x r y < 2 ^ c.size) (timely (c.site p).round (c.site q).round) _ _
          (λ e. at₃_one (λ x r y t. t < 2 ^ c.size) c.carried q (c.site p).round p _ (k.reach p hp) k.carried)
          (λ e. k.carried);
    }

receive_within : (c : Control) (p q : ℕ) → q < c.size → Within c → Within (receive_control (tick c) p q)
unfolding receive_control tick
receive_within c p q hq k =
    record {
      sent = at_one (λ x s. s.sent < 2 ^ c.size) c.site p _ (k.sent p) k.sent;
      heard = at_one (λ x s. s.heard < 2 ^ c.size) c.site p _ (with_below c.size (c.site p).heard q (k.heard p) hq) k.heard;
      reach = at_one (λ x s. x < c.size → s.reach < 2 ^ c.size) c.site p _ (k.reach p) k.reach;
      transit =
          at₂_one (λ x r t. t < 2 ^ c.size) c.transit p (c.site p).round _
          (without_below c.size _ q (k.transit p (c.site p).round)) k.transit;
      carried = k.carried;
    }

step_within : (c : Control) (p : ℕ) → Within c → Within (step_control (tick c) p)
unfolding step_control tick from
step_within c p k =
    record {
      sent = at_one (λ x s. s.sent < 2 ^ c.size) c.site p _ (empty_below c.size) k.sent;
      heard = at_one (λ x s. s.heard < 2 ^ c.size) c.site p _ (empty_below c.size) k.heard;
      reach = at_one (λ x s. x < c.size → s.reach < 2 ^ c.size) c.site p _
          (λ h. gathered_below c.size _ _ _ (k.reach p h) (k.carried p (c.site p).round)) k.reach;
      transit =
          at_one (λ x t. (r : ℕ) → t r < 2 ^ c.size) c.transit p _
          (λ r. cond_either (λ (t : ℕ). t < 2 ^ c.size) (ltb r (suc (c.site p).round)) _ _ (λ e. empty_below c.size) (λ e. k.transit p r))
          k.transit;
      carried = k.carried;
    }

pub within_kept : Kept (λ c d. Within c)
within_kept =
    record {
      send = λ c d p q h k. send_within c p q h.from h.to k;
      receive = λ c d p q h k. receive_within c p q h.from k;
      step = λ c d p h k. step_within c p k;
    }

pub open_within : (n : ℕ) → Within (open_control n)
unfolding open_control
open_within n =
    record {
      sent = λ x. empty_below n;
      heard = λ x. empty_below n;
      reach = λ x h. with_below n empty x (empty_below n) h;
      transit = λ x r. empty_below n;
      carried = λ x r y. empty_below n;
    }
