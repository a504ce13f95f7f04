-- Demand 3 of the lent list, in the terms of its contract: two replays of one list beside the same N, from any opening values.
-- Assumes nothing.
use Prim.Native.Nat.{ℕ}
use native.Mathlib.Omega.{arith}
use native.Mathlib.Decide.{dec_lt}
use mathlib.Core.Path.{◌≡◌, refl, sym, ap, ◌∙◌}
use mathlib.Core.List.{List, [], ◌∷◌, ◌++◌}
use lib.ListN.{length}
use Rattle.rounds.specs.declared.Stage.TheVariants.{Sending, Collecting, Pending, Idle}
use Rattle.rounds.specs.declared.Event as rounds
use Rattle.rounds.specs.Config.{Control, Config}
use Rattle.rounds.specs.Verdicts.{Verdict}
use Rattle.rounds.specs.Runs.{value_at, night, night_reports}
use Rattle.rounds.specs.Claims.{Agree}
use Rattle.rounds.proofs.Demands.{nights_alike}
use Rattle.words.specs.declared.Standing.{Standing}
use Rattle.words.specs.Layout.{Mem}
use Rattle.words.specs.Spelled.{people, control_of}
use Rattle.words.specs.Calls.{nobody, standing_of}
use Rattle.words.specs.Shows.{Shows, standing}
use Rattle.words.proofs.Reading.{size_means, events_means, site_means, site_none}
use Rattle.listed.specs.declared.Event as listed
use Rattle.listed.specs.Listed.{event_of, events_of, Passed}

-- two processes are shown with the same waits: all but value, vote and decision
pub record SameWaits (a b : Standing) : Type 0 where
  pub round : a.round ≡ b.round
  pub reach : a.reach ≡ b.reach
  pub sending : a.sending ≡ b.sending
  pub collecting : a.collecting ≡ b.collecting
  pub pending : a.pending ≡ b.pending
  pub idle : a.idle ≡ b.idle

-- of two replays of a list, which give r and leave x from the values xs, and give s and leave y from the values ys
pub record ListBlind (n : ℕ) (xs ys : List ℕ) (events : List listed.Event) (r s : Verdict) (x y : Mem) : Type 0 where
  pub answer : r ≡ s
  -- what `size`, `events` and `site` read of the two memories
  pub size : people x ≡ people y
  pub accepted : (control_of x).events ≡ (control_of y).events
  pub waits : (p : ℕ) → SameWaits (standing_of x p) (standing_of y p)
  -- the heard-of sets of their steps
  pub heard_of : night_reports n xs (events_of events) ≡ night_reports n ys (events_of events)
  -- and all of a process, where the values agree on its reach after these and any later events of the list
  pub held : (later : List listed.Event) (p : ℕ) → Agree (value_at xs) (value_at ys) ((night n xs (events_of (events ++ later))).control.site p).reach
      → standing_of x p ≡ standing_of y p

-- ---- the same of two memories, by what they show
waits_of : (c d : Config) (p : ℕ) → c.control ≡ d.control → SameWaits (standing c p) (standing d p)
unfolding standing
waits_of c d p e =
    record {
      round = ap (λ (k : Control). (k.site p).round) e;
      reach = ap (λ (k : Control). (k.site p).reach) e;
      sending = ap (λ (k : Control). k.count p Sending) e;
      collecting = ap (λ (k : Control). k.count p Collecting) e;
      pending = ap (λ (k : Control). k.count p Pending) e;
      idle = ap (λ (k : Control). k.count p Idle) e;
    }

all_of : (c d : Config) (p : ℕ) → c.control ≡ d.control → c.content.holding p ≡ d.content.holding p → standing c p ≡ standing d p
unfolding standing
all_of c d p e f = rw (e, f)

module _ {x y : Mem} (c d : Config) (k : Shows x c) (l : Shows y d) (same : c.control ≡ d.control) (p : ℕ) where
  -- a process is there in both runs, or in neither, of which nothing is shown
  either : (P : Standing → Standing → Type 0) → P (standing c p) (standing d p) → P nobody nobody → P (standing_of x p) (standing_of y p)
  either P both none =
      let size = ap (λ (j : Control). j.size) same in
      elim (dec_lt p c.control.size) [
        | yes h ↦ rw (site_means x c k p h, site_means y d l p (omega arith)) both
        | no h ↦ rw (site_none x c k p (omega (arith, h)), site_none y d l p (omega (arith, h))) none
      ]

  waits_shown : SameWaits (standing_of x p) (standing_of y p)
  waits_shown =
      either SameWaits (waits_of c d p same)
      (record { round = refl; reach = refl; sending = refl; collecting = refl; pending = refl; idle = refl })

  all_shown : c.content.holding p ≡ d.content.holding p → standing_of x p ≡ standing_of y p
  all_shown e = either (λ a b. a ≡ b) (all_of c d p same e) refl

-- ---- the events of a longer list
events_append : (a b : List listed.Event) → events_of (a ++ b) ≡ events_of a ++ events_of b
unfolding events_of
events_append [] b = refl
events_append (e ∷ a) b = ap (λ (l : List rounds.Event). event_of e ∷ l) (events_append a b)

pub list_blind : (n : ℕ) (xs ys : List ℕ) (events : List listed.Event) → length xs ≡ length ys → {r s : Verdict} {x y : Mem}
    → Passed n xs events r x → Passed n ys events s y → ListBlind n xs ys events r s x y
list_blind n xs ys events same {r} {s} {x} {y} f g =
    let alike = nights_alike n xs ys (events_of events) same in
    let c = night n xs (events_of events) in
    let d = night n ys (events_of events) in
    record {
      answer = f.0 ∙ alike.answer ∙ sym g.0;
      size = size_means x c f.2 ∙ ap (λ (k : Control). k.size) alike.control ∙ sym (size_means y d g.2);
      accepted = events_means x c f.2 ∙ ap (λ (k : Control). k.events) alike.control ∙ sym (events_means y d g.2);
      waits = waits_shown c d f.2 g.2 alike.control;
      heard_of = alike.heard_of;
      held = λ later p agree. all_shown c d f.2 g.2 alike.control p (alike.holding (events_of later) p (rw (events_append events later) at agree));
    }
