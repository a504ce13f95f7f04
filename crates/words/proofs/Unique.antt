-- A memory shows one configuration: two that it shows are the same in all that the processes below the size hold, all that is in transit to
-- them and all that they have heard. And what it shows is a run: the configuration after some events from an opening. Assumes nothing.
use Prim.Native.Nat.{ℕ, ◌+◌, ◌≤◌, ◌<◌}
use native.Mathlib.Omega.{arith}
use native.Mathlib.Decide.{dec_le, dec_lt}
use mathlib.Core.Path.{◌≡◌, sym, ap, ◌∙◌, subst}
use mathlib.Core.Bool.{true}
use Rattle.sets.specs.Sets.{has}
use Rattle.rounds.specs.Limits.{window}
use Rattle.rounds.specs.Config.{Site, Config, open_control, open_content, opening}
use Rattle.rounds.specs.Claims.{Live}
use Rattle.rounds.specs.Claims.Live.{waiting, taken}
use Rattle.rounds.proofs.Recorded.{Recorded, recorded}
use Rattle.words.specs.Layout.{Mem}
use Rattle.words.specs.Shows.{Shows, Same}
use Rattle.words.proofs.Fitting.{window_of}
use Rattle.words.proofs.Reading.{size_means, count_shown}

module _ (m : Mem) (c e : Config) (k : Shows m c) (l : Shows m e) where
  same_size : c.control.size ≡ e.control.size
  same_size = sym (size_means m c k) ∙ size_means m e l

  inside : (p : ℕ) → p < c.control.size → p < e.control.size
  inside p h = rw same_size at h

  same_site : (p : ℕ) → p < c.control.size → c.control.site p ≡ e.control.site p
  same_site p h = sym (k.shown.each p h).site ∙ (l.shown.each p (inside p h)).site

  -- in the window the words tell; outside it nothing is in transit
  same_transit : (p r : ℕ) → p < c.control.size → c.control.transit p r ≡ e.control.transit p r
  same_transit p r h = go (dec_le (c.control.site p).round r) (dec_lt r ((c.control.site p).round + window))
    where
      same_round : (e.control.site p).round ≡ (c.control.site p).round
      same_round = ap (λ (s : Site). s.round) (sym (same_site p h))

      go : Dec ((c.control.site p).round ≤ r) → Dec (r < (c.control.site p).round + window) → c.control.transit p r ≡ e.control.transit p r
      go (yes low) (yes high) =
          sym ((k.shown.each p h).transit r low high)
          ∙ (l.shown.each p (inside p h)).transit r (omega (arith, same_round)) (omega (arith, same_round))
      go (no n) any =
          (window_of c.control.size k.values k.course p r).0 (omega arith)
          ∙ sym ((window_of e.control.size l.values l.course p r).0 (omega (arith, same_round)))
      go (yes low) (no n) =
          (window_of c.control.size k.values k.course p r).1 (omega arith)
          ∙ sym ((window_of e.control.size l.values l.course p r).1 (omega (arith, same_round)))

  same_live : (p r q : ℕ) → p < c.control.size → Live c.control p r q → Live e.control p r q
  same_live p r q h (waiting t) = waiting (rw (same_transit p r h) at t)
  same_live p r q h (taken i t) =
      taken (i ∙ ap (λ (s : Site). s.round) (same_site p h)) (subst (λ (s : Site). has s.heard q ≡ true) (same_site p h) t)

  pub unique : Same c e
  unique =
      record {
        size = same_size;
        events = sym k.shown.events ∙ l.shown.events;
        site = same_site;
        holding = λ p h. sym (k.shown.each p h).holding ∙ (l.shown.each p (inside p h)).holding;
        transit = same_transit;
        count = λ p s h. sym (count_shown m c k p s h) ∙ count_shown m e l p s (inside p h);
        mail = λ p r q h t. sym ((k.shown.each p h).mail r q t) ∙ (l.shown.each p (inside p h)).mail r q (same_live p r q h t);
        carried = λ p r q h t. sym ((k.shown.each p h).carried r q t) ∙ (l.shown.each p (inside p h)).carried r q (same_live p r q h t);
      }

pub shown_run : (m : Mem) (c : Config) (k : Shows m c) → Recorded (opening c.control.size k.values) c
unfolding opening
shown_run m c k = recorded (open_control c.control.size) (open_content k.values) k.course
