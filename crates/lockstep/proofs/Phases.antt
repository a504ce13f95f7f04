-- Events that are all accepted, from any run whose control part is so, to one whose control part is so; and how such events are put together.
-- Assumes nothing.
use Prim.Native.Nat.{ℕ, zero, suc, ◌<◌}
use native.Mathlib.Omega.{arith}
use mathlib.Core.Path.{◌≡◌, refl, sym, ap, ◌∙◌, subst}
use mathlib.Core.List.{List, [], ◌∷◌, ◌++◌}
use Rattle.rounds.specs.declared.Event.{Event}
use Rattle.rounds.specs.Verdicts.{Verdict}
use Rattle.rounds.specs.Verdicts.{Accepted}
use Rattle.rounds.specs.Config.{Control, Config}
use Rattle.rounds.specs.Verdicts.{number_of, accepted, verdict}
use Rattle.rounds.specs.Events.{next_control}
use Rattle.rounds.specs.Runs.{after, replay_verdict}
use Rattle.rounds.specs.Allowed.{Allowed}
use Rattle.rounds.proofs.Answers.{accepted_is, allows}
use Rattle.rounds.proofs.InTurn.{after_append, apply_accepted, then_verdict, replay_append, replay_one}

pub record Phase (P : Control → Type 0) (es : List Event) (Q : Control → Type 0) : Type 0 where
  pub accepts : (c : Config) → P c.control → replay_verdict c es ≡ Accepted
  pub comes : (c : Config) → P c.control → Q (after c es).control

-- no event
pub none : {P : Control → Type 0} → Phase P [] P
unfolding replay_verdict after
none = record { accepts = λ c p. refl; comes = λ c p. p }

-- one that is allowed
pub one : {P Q : Control → Type 0} {e : Event} → ((c : Control) → P c → Allowed c e) → ((c : Control) → P c → Q (next_control c e))
    → Phase P (e ∷ []) Q
unfolding after
one {P = P} {Q = Q} {e = e} may next =
    record {
      accepts = λ c p. replay_one c e ∙ answer c p;
      comes = λ c p. rw (apply_accepted c e (accepted_is _ (answer c p))) (next c.control p);
    }
  where
    answer : (c : Config) → P c.control → verdict c.control e ≡ Accepted
    answer c p = allows c.control e (may c.control p)

-- some, and then others
pub then : {P Q R : Control → Type 0} {es fs : List Event} → Phase P es Q → Phase Q fs R → Phase P (es ++ fs) R
unfolding accepted number_of
then {R = R} {es = es} {fs = fs} f g =
    record {
      accepts = λ c p. replay_append c es fs ∙ ap (λ (v : Verdict). then_verdict v (replay_verdict (after c es) fs)) (f.accepts c p)
          ∙ g.accepts (after c es) (f.comes c p);
      comes = λ c p. subst (λ (d : Config). R d.control) (sym (after_append c es fs)) (g.comes (after c es) (f.comes c p));
    }

-- more is known before, or less is said after
pub weaker : {P P' Q Q' : Control → Type 0} {es : List Event} → ((c : Control) → P' c → P c) → ((c : Control) → Q c → Q' c) → Phase P es Q
    → Phase P' es Q'
weaker f g a = record { accepts = λ c p. a.accepts c (f c.control p); comes = λ c p. g _ (a.comes c (f c.control p)) }

-- parts, one after the other
pub each : (I : ℕ → Control → Type 0) (f g : ℕ → List Event) → f 0 ≡ [] → ((k : ℕ) → f (suc k) ≡ f k ++ g k)
    → (n : ℕ) → ((k : ℕ) → k < n → Phase (I k) (g k) (I (suc k))) → Phase (I 0) (f n) (I n)
each I f g first next zero part = rw first none
each I f g first next (suc n) part = rw (next n) (then (each I f g first next n (λ k l. part k (omega arith))) (part n (omega arith)))
