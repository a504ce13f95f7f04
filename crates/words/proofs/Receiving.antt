-- What the words show after an accepted receive: the message leaves transit and its sender is heard. Only the receiver's words change.
-- Assumes nothing.
use Prim.Native.Nat.{ℕ, ◌+◌, ◌≤◌, ◌<◌}
use native.Mathlib.Omega.{arith}
use mathlib.Core.Path.{◌≡◌, refl, sym, ap, ◌∙◌}
use mathlib.Core.List.{List, [], ◌∷◌}
use lib.Dec.{lit<}
use Rattle.sets.specs.Sets.{with, without}
use Rattle.rounds.specs.Limits.{window}
use Rattle.rounds.specs.Config.{Site, Control, Content, at, at₂}
use Rattle.rounds.specs.Stages.{index, tick}
use Rattle.rounds.specs.Events.{receive_control}
use Rattle.rounds.specs.Allowed.{Receives}
use Rattle.rounds.specs.Claims.{Live}
use Rattle.rounds.proofs.Updates.{at_one, at_each, at_same, at_other}
use Rattle.rounds.proofs.Live.{live_receive}
use Rattle.words.specs.Layout.{Mem, Line, Transit, Mail, get, Write, ◌:=◌, writes, ROUND, SENT, HEARD, REACH, SINCE, COUNTS}
use Rattle.words.specs.Spelled.{site_of}
use Rattle.words.specs.Calls.{begun, taken, received}
use Rattle.words.specs.Shows.{ShowsProcess, Shown}
use Rattle.words.proofs.Places.{Inside, kept, wrote}
use Rattle.words.proofs.Frames.{index_small, holding_kept, message_kept, carried_kept, changed}
use Rattle.words.proofs.Spelling.{round_word, transit_shown}
use Rattle.words.proofs.Fitting.{Fit}
use Rattle.words.proofs.Settling.{tick_live, tick_fit, unstaged, begun_shows}

unfoldable takings : ℕ → ℕ → ℕ → ℕ → ℕ → List Write
takings p q r senders heard = Transit p r := without senders q ∷ Line p HEARD := with heard q ∷ []

-- p is settled
module _ (m : Mem) (c : Control) (d : Content) (p q : ℕ) (f : Fit (tick c)) (h : Receives c p q) (now : get m (Line p SINCE) ≡ (tick c).events)
    (k : Shown m (tick c) d) where
  abbrev after : Control
  after = receive_control (tick c) p q

  abbrev taking : List Write
  taking = takings p q (c.site p).round (c.transit p (c.site p).round) (get m (Line p HEARD))

  abbrev b : Mem
  b = writes m taking

  taking_fine : Inside taking
  unfolding takings tick
  taking_fine = let few = f.few in let hp = h.to in omega arith

  round_stays : (x : ℕ) → (after.site x).round ≡ (c.site x).round
  unfolding receive_control tick
  round_stays = at_one (λ x s. s.round ≡ (c.site x).round) c.site p _ refl (λ x. refl)

  old_live : (r y : ℕ) → Live after p r y → Live (tick c) p r y
  old_live r y l = tick_live c p r y (live_receive c p q h p r y l)

  places : (r : ℕ) → (c.site p).round ≤ r → r < (c.site p).round + window
      → get b (Transit p r) ≡ at (c.transit p) (c.site p).round (without (c.transit p (c.site p).round) q) r
  unfolding takings tick
  places =
      at_each (λ r v. (c.site p).round ≤ r → r < (c.site p).round + window → get b (Transit p r) ≡ v) (c.transit p) (c.site p).round _
      (λ low high. let few = f.few in let hp = h.to in wrote m taking taking_fine 0 (lit< tt) k.long (omega arith))
      (λ r n low high. let few = f.few in let hp = h.to in kept m taking taking_fine (Transit p r) (omega arith) ∙ (k.each p h.to).transit r low high)

  own_taken : ShowsProcess b after d p
  unfolding takings receive_control tick site_of at₂
  own_taken =
      let few = f.few in
      let hp = h.to in
      let was = k.each p h.to in
      record {
        site =
            rw (
              kept m taking taking_fine (Line p ROUND) (omega arith),
              kept m taking taking_fine (Line p SENT) (omega arith),
              wrote m taking taking_fine 1 (lit< tt) k.long (omega arith),
              kept m taking taking_fine (Line p REACH) (omega arith),
            )
            (ap (λ (s : Site). record { round = s.round; sent = s.sent; heard = with s.heard q; reach = s.reach }) was.site ∙ sym (at_same c.site p _));
        holding = holding_kept m b p (λ i l. kept m taking taking_fine (Line p i) (omega arith)) ∙ was.holding;
        transit = λ r low high.
            rw (at_same c.transit p (at (c.transit p) (c.site p).round (without (c.transit p (c.site p).round) q)))
            (places r (rw (round_stays p) at low) (rw (round_stays p) at high));
        mail = λ r y l. let old = old_live r y l in let near = f.near p r y old in
            message_kept m b p r y (λ i s. kept m taking taking_fine (Mail p r y i) (omega arith)) ∙ was.mail r y old;
        carried = λ r y l. let old = old_live r y l in let near = f.near p r y old in
            carried_kept m b p r y (λ i s. kept m taking taking_fine (Mail p r y i) (omega arith)) ∙ was.carried r y old;
        past = rw (kept m taking taking_fine (Line p SINCE) (omega arith)) was.past;
        count = λ s. let small = index_small s in
            rw (kept m taking taking_fine (Line p SINCE) (omega arith), kept m taking taking_fine (Line p (COUNTS + index s)) (omega arith))
            (unstaged _ _ _ _ _ _ s now (was.count s));
      }

  taken_words : taken m p q ≡ b
  unfolding taken takings tick
  taken_words = rw (round_word m (tick c) d k p h.to, transit_shown m (tick c) d k p h.to)

  taken_shows : Shown (taken m p q) after d
  unfolding takings receive_control tick at₂
  taken_shows =
      rw taken_words
      (changed m taking (tick c) after d d p taking_fine (refl, (refl, tt)) f.few f.near refl refl
      (λ x n.
      record { site = at_other c.site p _ x n; transit = at_other c.transit p _ x n; carried = refl; count = refl; holding = refl; mail = refl })
      (λ l. own_taken) k)

-- ---- an accepted receive
pub received_shows : (m : Mem) (c : Control) (d : Content) (p q : ℕ) → Fit c → Receives c p q → Shown m c d
    → Shown (received m p q) (receive_control (tick c) p q) d
unfolding received
received_shows m c d p q f h k =
    let b = begun_shows m c d p f h.room h.to k in
    taken_shows (begun m p) c d p q (tick_fit c h.room f) h b.1 b.0
