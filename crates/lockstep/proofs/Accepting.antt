-- Every event of lock step is accepted. A round begins with all processes at the same round and nothing sent, and so does the next one. In between,
-- what has been sent, taken and finished is told by how many events of the round there were. Assumes nothing.
use Prim.Native.Nat.{ℕ, suc, ◌+◌, ◌*◌, ◌^◌, ◌≤◌, ◌<◌}
use native.Mathlib.Omega.{arith}
use native.Mathlib.Decide.{dec_lt}
use mathlib.Core.Path.{◌≡◌, refl, sym, ap, ◌∙◌, subst}
use mathlib.Core.Bool.{true, false}
use mathlib.Core.List.{[], ◌∷◌}
use borrow.Author.Tests.{le-leb, lt-ltb}
use Rattle.sets.specs.Sets.{empty, has, with, full}
use Rattle.sets.proofs.Membership.{with_own, with_kept, with_other, without_other, has_empty}
use Rattle.sets.proofs.Bounds.{with_below, full_only, empty_below}
use Rattle.rounds.specs.declared.Event.TheVariants.{Send, Receive}
use Rattle.rounds.specs.Verdicts.{Accepted}
use Rattle.rounds.specs.Limits.{most_processes, window, last_round, most_events}
use Rattle.rounds.specs.Config.{Control, at₂, open_control, opening}
use Rattle.rounds.specs.Stages.{tick}
use Rattle.rounds.specs.Events.{timely, send_control, receive_control, step_control, next_control}
use Rattle.rounds.specs.Runs.{after, replay_verdict, sends}
use Rattle.rounds.specs.Allowed.{Sends, Receives, Steps}
use Rattle.rounds.proofs.Updates.{at_each, at_one, at_other, at₂_one, at₂_same}
use Rattle.lockstep.specs.LockStep.{receives_below, one_turn, all_send, all_turn, one_round, round_events, many_rounds}
use Rattle.lockstep.proofs.Phases.{Phase, one, then, weaker, each}

-- after e events a round begins: all processes are at round r, and have sent to nobody
record Ready (e r : ℕ) (c : Control) : Type 0 where
  size : c.size ≡ most_processes
  events : c.events ≡ e
  site : (x : ℕ) → x < most_processes → ((c.site x).round ≡ r) × ((c.site x).sent ≡ empty)

-- the place of p's send to q among the sends of a round, and of p's receive from q among the receives and steps; p's step comes behind its receives
abbrev send_place : ℕ → ℕ → ℕ
send_place p q = most_processes * p + q

abbrev turn_place : ℕ → ℕ → ℕ
turn_place p q = suc most_processes * p + q

-- a message of one who is at the receiver's round is put in transit
in_time : (r : ℕ) → timely r r ≡ true
unfolding timely
in_time r = rw (le-leb r r (omega arith), lt-ltb r (r + window) (omega arith))

module _ (e r : ℕ) (space : e + round_events ≤ most_events) (early : r < last_round) where
  -- ---- the first m sends: x is at round r, and has sent to those whose place is among them
  record Sender (m x round sent : ℕ) : Type 0 where
    level : round ≡ r
    below : sent < 2 ^ most_processes
    done : (y : ℕ) → y < most_processes → send_place x y < m → has sent y ≡ true
    left : (y : ℕ) → y < most_processes → m ≤ send_place x y → has sent y ≡ false

  record Sent (m : ℕ) (c : Control) : Type 0 where
    size : c.size ≡ most_processes
    events : c.events ≡ e + m
    site : (x : ℕ) → x < most_processes → Sender m x (c.site x).round (c.site x).sent
    posted : (x y : ℕ) → x < most_processes → y < most_processes → send_place x y < m → has (c.transit y r) x ≡ true

  module _ (p q : ℕ) (from : p < most_processes) (to : q < most_processes) (c : Control) (s : Sent (send_place p q) c) where
    may_send : Sends c p q
    may_send =
        let mine = (s.site p from).level in
        let other = (s.site q to).level in
        record {
          from = omega (arith, s.size);
          to = omega (arith, s.size);
          room = omega (arith, s.events);
          may = record { unsent = (s.site p from).left q to (omega arith); near = λ b. absurd (omega (arith, b)) };
        }

    moved : (send_control (tick c) p q).transit ≡ at₂ c.transit q r (with (c.transit q r) p)
    unfolding send_control tick
    moved = rw ((s.site p from).level, (s.site q to).level, in_time r)

    now_posted : (x y : ℕ) → x < most_processes → y < most_processes → send_place x y < send_place p (suc q)
        → has ((send_control (tick c) p q).transit y r) x ≡ true
    now_posted x y h k b = rw moved (elim (dec_lt (send_place x y) (send_place p q)) [
      | yes f ↦ at₂_one (λ i j t. has (c.transit i j) x ≡ true → has t x ≡ true) c.transit q r _
          (with_kept (c.transit q r) p x) (λ i j t. t) y r (s.posted x y h k f)
      | no f ↦
          let g : x ≡ p = omega (arith, f) in
          let j : y ≡ q = omega (arith, f) in
          rw (g, j, at₂_same c.transit q r (with (c.transit q r) p)) (with_own (c.transit q r) p)
    ])

    now_done : (y : ℕ) → y < most_processes → send_place p y < send_place p (suc q) → has (with (c.site p).sent q) y ≡ true
    now_done y h b = elim (dec_lt y q) [
      | yes f ↦ with_kept (c.site p).sent q y ((s.site p from).done y h (omega arith))
      | no f ↦ let g : y ≡ q = omega (arith, f) in rw g (with_own (c.site p).sent q)
    ]

    sent_one : Sent (send_place p (suc q)) (send_control (tick c) p q)
    unfolding send_control tick
    sent_one =
        record {
          size = s.size;
          events = omega (arith, s.events);
          site =
              at_each (λ x t. x < most_processes → Sender (send_place p (suc q)) x t.round t.sent) c.site p _
              (λ l. record {
                level = (s.site p l).level;
                below = with_below most_processes (c.site p).sent q (s.site p l).below to;
                done = now_done;
                left = λ y h b. with_other (c.site p).sent q y (λ f. omega (arith, f)) ∙ (s.site p l).left y h (omega arith);
              })
              (λ x n l. record {
                level = (s.site x l).level;
                below = (s.site x l).below;
                done = λ y h b. (s.site x l).done y h (omega (arith, n));
                left = λ y h b. (s.site x l).left y h (omega (arith, n));
              });
          posted = now_posted;
        }

  -- ---- all sends, and m events of the turns: x has stepped where the place of its step is among them, and what is left for it is still in transit
  record Taker (m x round sent : ℕ) : Type 0 where
    behind : m ≤ turn_place x most_processes → (round ≡ r) × (sent ≡ full most_processes)
    ahead : turn_place x most_processes < m → (round ≡ suc r) × (sent ≡ empty)

  record Turned (m : ℕ) (c : Control) : Type 0 where
    size : c.size ≡ most_processes
    events : c.events ≡ e + (send_place most_processes 0 + m)
    site : (x : ℕ) → x < most_processes → Taker m x (c.site x).round (c.site x).sent
    waits : (x y : ℕ) → x < most_processes → y < most_processes → m ≤ turn_place y x → has (c.transit y r) x ≡ true

  module _ (p q : ℕ) (by : p < most_processes) (from : q < most_processes) (c : Control) (s : Turned (turn_place p q) c) where
    may_receive : Receives c p q
    may_receive =
        record {
          to = omega (arith, s.size);
          from = omega (arith, s.size);
          room = omega (arith, s.events);
          waiting = rw ((s.site p by).behind (omega arith)).0 (s.waits q p from by (omega arith));
        }

    same : (x round sent : ℕ) → Taker (turn_place p q) x round sent → Taker (turn_place p (suc q)) x round sent
    same x round sent k = record { behind = λ b. k.behind (omega arith); ahead = λ b. k.ahead (omega (arith, from)) }

    received_one : Turned (turn_place p (suc q)) (receive_control (tick c) p q)
    unfolding receive_control tick
    received_one =
        record {
          size = s.size;
          events = omega (arith, s.events);
          site =
              at_one (λ x t. x < most_processes → Taker (turn_place p (suc q)) x t.round t.sent) c.site p _
              (λ l. same p (c.site p).round (c.site p).sent (s.site p l)) (λ x l. same x (c.site x).round (c.site x).sent (s.site x l));
          waits = λ x y h k b.
              at₂_one (λ i j t. (i ≡ p → x ≡ q → ⊥) → has (c.transit i j) x ≡ true → has t x ≡ true) c.transit p (c.site p).round _
              (λ n t. without_other (c.transit p (c.site p).round) q x (n refl) ∙ t) (λ i j n t. t) y r
              (λ f g. omega (arith, f, g)) (s.waits x y h k (omega arith));
        }

  module _ (p : ℕ) (who : p < most_processes) (c : Control) (s : Turned (turn_place p most_processes) c) where
    may_step : Steps c p
    may_step =
        let me = (s.site p who).behind (omega arith) in
        record {
          who = omega (arith, s.size);
          room = omega (arith, s.events);
          spoken = me.1 ∙ ap full (sym s.size);
          more = λ b. absurd (omega (arith, me.0, b));
        }

    stepped : Turned (turn_place (suc p) 0) (step_control (tick c) p)
    unfolding step_control tick
    stepped =
        record {
          size = s.size;
          events = omega (arith, s.events);
          site =
              at_each (λ x t. x < most_processes → Taker (turn_place (suc p) 0) x t.round t.sent) c.site p _
              (λ l. record { behind = λ b. absurd (omega arith); ahead = λ b. (ap suc ((s.site p l).behind (omega arith)).0, refl) })
              (λ x n l. record { behind = λ b. (s.site x l).behind (omega arith); ahead = λ b. (s.site x l).ahead (omega (arith, n)) });
          waits = λ x y h k b. rw (at_other c.transit p _ y (λ f. omega (arith, f))) (s.waits x y h k (omega arith));
        }

  -- ---- from one to the next
  starts : (c : Control) → Ready e r c → Sent (send_place 0 0) c
  starts c k =
      record {
        size = k.size;
        events = omega (arith, k.events);
        site = λ x l.
            rw (k.site x l).1
            (record { level = (k.site x l).0; below = empty_below most_processes; done = λ y h b. absurd (omega arith); left = λ y h b. has_empty y });
        posted = λ x y h j b. absurd (omega arith);
      }

  turns : (c : Control) → Sent (send_place most_processes 0) c → Turned (turn_place 0 0) c
  turns c k =
      record {
        size = k.size;
        events = omega (arith, k.events);
        site = λ x l.
            let s = k.site x l in
            record {
              behind = λ b. (s.level, full_only most_processes (c.site x).sent s.below (λ y h. s.done y h (omega arith)));
              ahead = λ b. absurd (omega arith);
            };
        waits = λ x y h j b. k.posted x y h j (omega arith);
      }

  ends : (c : Control) → Turned (turn_place most_processes 0) c → Ready (e + round_events) (suc r) c
  ends c k = record { size = k.size; events = omega (arith, k.events); site = λ x l. (k.site x l).ahead (omega arith) }

  -- ---- the round
  all_send_lem : Phase (Sent (send_place 0 0)) (all_send most_processes) (Sent (send_place most_processes 0))
  unfolding all_send sends next_control
  all_send_lem =
      each (λ p. Sent (send_place p 0)) all_send (sends most_processes) refl (λ p. refl) most_processes
      (λ p h. weaker (λ c k. k) (λ c. subst (λ (m : ℕ). Sent m c) (omega arith))
      (each (λ q. Sent (send_place p q)) (λ q. sends q p) (λ q. Send p q ∷ []) refl (λ q. refl) most_processes
      (λ q k. one (may_send p q h k) (sent_one p q h k))))

  all_turn_lem : Phase (Turned (turn_place 0 0)) (all_turn most_processes) (Turned (turn_place most_processes 0))
  unfolding all_turn one_turn receives_below next_control
  all_turn_lem =
      each (λ p. Turned (turn_place p 0)) all_turn one_turn refl (λ p. refl) most_processes
      (λ p h. then
      (each (λ q. Turned (turn_place p q)) (λ q. receives_below q p) (λ q. Receive p q ∷ []) refl (λ q. refl) most_processes
      (λ q k. one (may_receive p q h k) (received_one p q h k)))
      (one (may_step p h) (stepped p h)))

  one_round_lem : Phase (Ready e r) one_round (Ready (e + round_events) (suc r))
  unfolding one_round
  one_round_lem = then (weaker starts turns all_send_lem) (weaker (λ c k. k) ends all_turn_lem)

-- ---- as many rounds as there is room for
many_rounds_lem : (n : ℕ) → round_events * n ≤ most_events → Phase (Ready 0 1) (many_rounds n) (Ready (round_events * n) (suc n))
unfolding many_rounds
many_rounds_lem n space =
    each (λ k. Ready (round_events * k) (suc k)) many_rounds (λ k. one_round) refl (λ k. refl) n
    (λ k l. weaker (λ c s. s) (λ c. subst (λ (m : ℕ). Ready m (suc (suc k)) c) (omega arith))
    (one_round_lem (round_events * k) (suc k) (omega arith) (omega arith)))

ready : (v : ℕ → ℕ) → Ready 0 1 (opening most_processes v).control
unfolding opening open_control
ready v = record { size = refl; events = refl; site = λ x l. (refl, refl) }

-- every event is accepted
pub all_accepted : (v : ℕ → ℕ) (n : ℕ) → round_events * n ≤ most_events → replay_verdict (opening most_processes v) (many_rounds n) ≡ Accepted
all_accepted v n space = (many_rounds_lem n space).accepts (opening most_processes v) (ready v)

-- and so counted
pub all_counted : (v : ℕ → ℕ) (n : ℕ) → round_events * n ≤ most_events
    → (after (opening most_processes v) (many_rounds n)).control.events ≡ round_events * n
all_counted v n space = ((many_rounds_lem n space).comes (opening most_processes v) (ready v)).events
