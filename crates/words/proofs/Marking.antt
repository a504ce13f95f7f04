-- The first change of a send: the sender's set gains the receiver. Only the sender's words change.
-- Assumes nothing.
use Prim.Native.Nat.{ℕ, ◌+◌, ◌<◌}
use native.Mathlib.Omega.{arith}
use mathlib.Core.Path.{◌≡◌, refl, sym, ap, ◌∙◌}
use mathlib.Core.Bool.{true}
use mathlib.Core.List.{List, [], ◌∷◌}
use lib.Dec.{lit<}
use Rattle.sets.specs.Sets.{has, with}
use Rattle.rounds.specs.Config.{Site, Control, Content, at}
use Rattle.rounds.specs.Stages.{index}
use Rattle.rounds.specs.Claims.{Live}
use Rattle.rounds.specs.Claims.Live.{waiting, taken}
use Rattle.rounds.proofs.Updates.{at_one, at_same, at_other}
use Rattle.words.specs.Layout.{Mem, Line, Transit, Mail, get, Write, ◌:=◌, writes, ROUND, SENT, HEARD, REACH, SINCE, COUNTS}
use Rattle.words.specs.Spelled.{site_of}
use Rattle.words.specs.Calls.{marked}
use Rattle.words.specs.Shows.{ShowsProcess, Shown}
use Rattle.words.proofs.Places.{Inside, kept, wrote}
use Rattle.words.proofs.Frames.{index_small, holding_kept, message_kept, carried_kept, changed}
use Rattle.words.proofs.Fitting.{Fit}
use Rattle.words.proofs.Settling.{unstaged}

unfoldable pub marks : Control → ℕ → ℕ → Control
marks c p q =
    let me = c.site p in
    record {
      size = c.size;
      events = c.events;
      site = at c.site p (record { round = me.round; sent = with me.sent q; heard = me.heard; reach = me.reach });
      transit = c.transit;
      carried = c.carried;
      count = c.count;
    }

module _ (c : Control) (p q : ℕ) where
  pub marks_round : (x : ℕ) → ((marks c p q).site x).round ≡ (c.site x).round
  unfolding marks
  marks_round = at_one (λ x s. s.round ≡ (c.site x).round) c.site p _ refl (λ x. refl)

  pub marks_reach : (x : ℕ) → ((marks c p q).site x).reach ≡ (c.site x).reach
  unfolding marks
  marks_reach = at_one (λ x s. s.reach ≡ (c.site x).reach) c.site p _ refl (λ x. refl)

  marks_live : (x r y : ℕ) → Live (marks c p q) x r y → Live c x r y
  unfolding marks
  marks_live x r y (waiting t) = waiting t
  marks_live x r y (taken e t) =
      at_one (λ x s. r ≡ s.round → has s.heard y ≡ true → Live c x r y) c.site p _ (λ e t. taken e t) (λ x e t. taken e t) x e t

  pub marks_fit : Fit c → Fit (marks c p q)
  unfolding marks
  marks_fit f =
      record {
        few = f.few;
        near = λ x r y l. rw (marks_round x) (f.near x r y (marks_live x r y l));
        room = f.room;
        small = f.small;
      }

module _ (m : Mem) (c : Control) (d : Content) (p q : ℕ) (f : Fit c) (hp : p < c.size) (now : get m (Line p SINCE) ≡ c.events) (k : Shown m c d) where
  unfoldable marking : List Write
  marking = Line p SENT := with (get m (Line p SENT)) q ∷ []

  marking_fine : Inside marking
  unfolding marking
  marking_fine = let few = f.few in omega arith

  own_marked : ShowsProcess (writes m marking) (marks c p q) d p
  unfolding marking marks site_of
  own_marked =
      let few = f.few in
      let was = k.each p hp in
      record {
        site =
            rw (
              kept m marking marking_fine (Line p ROUND) (omega arith),
              wrote m marking marking_fine 0 (lit< tt) k.long (omega arith),
              kept m marking marking_fine (Line p HEARD) (omega arith),
              kept m marking marking_fine (Line p REACH) (omega arith),
            )
            (ap (λ (s : Site). record { round = s.round; sent = with s.sent q; heard = s.heard; reach = s.reach }) was.site ∙ sym (at_same c.site p _));
        holding = holding_kept m (writes m marking) p (λ i h. kept m marking marking_fine (Line p i) (omega arith)) ∙ was.holding;
        transit = λ r low high.
            kept m marking marking_fine (Transit p r) (omega arith) ∙ was.transit r (rw (marks_round c p q p) at low) (rw (marks_round c p q p) at high);
        mail = λ r y l. let old = marks_live c p q p r y l in let near = f.near p r y old in
            message_kept m (writes m marking) p r y (λ i h. kept m marking marking_fine (Mail p r y i) (omega arith)) ∙ was.mail r y old;
        carried = λ r y l. let old = marks_live c p q p r y l in let near = f.near p r y old in
            carried_kept m (writes m marking) p r y (λ i h. kept m marking marking_fine (Mail p r y i) (omega arith)) ∙ was.carried r y old;
        past = rw (kept m marking marking_fine (Line p SINCE) (omega arith)) was.past;
        count = λ s. let small = index_small s in
            rw (kept m marking marking_fine (Line p SINCE) (omega arith), kept m marking marking_fine (Line p (COUNTS + index s)) (omega arith))
            (unstaged _ _ _ _ _ _ s now (was.count s));
      }

  pub mark_shows : Shown (marked m p q) (marks c p q) d
  unfolding marked marking marks
  mark_shows =
      changed m marking c (marks c p q) d d p marking_fine (refl, tt) f.few f.near refl refl
      (λ x n. record { site = at_other c.site p _ x n; transit = refl; carried = refl; count = refl; holding = refl; mail = refl })
      (λ h. own_marked) k

  pub mark_since : (x : ℕ) → x < c.size → get m (Line x SINCE) ≡ c.events → get (marked m p q) (Line x SINCE) ≡ c.events
  unfolding marked marking
  mark_since x hx e = let few = f.few in kept m marking marking_fine (Line x SINCE) (omega arith) ∙ e
