-- What is in the sent set and in the heard set of a process: exactly whom it sent to, and whom it received from, since its last step.
-- Assumes nothing.
use Prim.Native.Nat.{ℕ}
use mathlib.Core.Path.{◌≡◌, refl, sym, ap, ◌∙◌}
use mathlib.Core.Logic.{◌↔◌, ◌⊎◌, inl, inr, ⊎_elim}
use mathlib.Core.Bool.{true, true≢false}
use mathlib.Core.List.{List, [], ◌∷◌, ◌++◌}
use Rattle.sets.specs.Sets.{empty, has, with}
use Rattle.sets.proofs.Membership.{with_cases, with_own, with_kept, empty_none}
use Rattle.rounds.specs.declared.Event.{Event}
use Rattle.rounds.specs.declared.Event.TheVariants.{Send, Receive, Step}
use Rattle.rounds.specs.Config.{Site, open_control, opening}
use Rattle.rounds.specs.Stages.{tick}
use Rattle.rounds.specs.Events.{send_control, receive_control, step_control}
use Rattle.rounds.specs.Runs.{deeds}
use Rattle.rounds.specs.Claims.{ran, SinceStep}
use Rattle.rounds.proofs.Updates.{at_each}
use Rattle.rounds.proofs.Last.{Last, nowhere, last, longer}
use Rattle.rounds.proofs.Last.Last.{itself, sooner}
use Rattle.rounds.proofs.Deeds.{Recalled, recalled}

-- ---- one more deed x at the end of xs
module _ (p : ℕ) (e : Event) (xs : List Event) (x : Event) where
  -- it is e
  since_now : e ≡ x → SinceStep p e (xs ++ (x ∷ []))
  since_now is =
      record { earlier = xs; later = []; whole = ap (λ (z : Event). xs ++ (z ∷ [])) is; still = λ a b h. nowhere a (Step p) b h }

  -- it is no step of p
  since_still : (x ≡ Step p → ⊥) → SinceStep p e xs → SinceStep p e (xs ++ (x ∷ []))
  since_still other s =
      record {
        earlier = s.earlier;
        later = s.later ++ (x ∷ []);
        whole = longer s.earlier e s.later xs x s.whole;
        still = λ a b h. go a b (last a (Step p) b s.later x h);
      }
    where
      go : (a b : List Event) → Last a (Step p) b s.later x → ⊥
      go a b (itself none same is) = other (sym is)
      go a b (sooner more ends rest) = s.still a more rest

  -- so far it is e, or it is no step of p and e is one of xs
  since_was : SinceStep p e (xs ++ (x ∷ [])) → (e ≡ x) ⊎ ((x ≡ Step p → ⊥) × SinceStep p e xs)
  since_was s = go (last s.earlier e s.later xs x s.whole)
    where
      go : Last s.earlier e s.later xs x → (e ≡ x) ⊎ ((x ≡ Step p → ⊥) × SinceStep p e xs)
      go (itself none same is) = inl is
      go (sooner more ends rest) =
          inr (
            λ step. s.still more [] (ap (λ (z : Event). more ++ (z ∷ [])) (sym step) ∙ sym ends),
            record {
              earlier = s.earlier;
              later = more;
              whole = rest;
              still = λ a b h. s.still a (b ++ (x ∷ [])) (longer a (Step p) b more x h ∙ sym ends);
            },
          )

-- ---- what a deed makes of a set that is exactly the targets of some deeds since the last step
module _ (act : ℕ → Event) (p s : ℕ) (xs : List Event) (so : (q : ℕ) → (has s q ≡ true) ↔ SinceStep p (act q) xs) where
  -- a deed of another kind, or of another process, leaves it
  unmoved : (x : Event) → ((q : ℕ) → act q ≡ x → ⊥) → (x ≡ Step p → ⊥) → (q : ℕ) → (has s q ≡ true) ↔ SinceStep p (act q) (xs ++ (x ∷ []))
  unmoved x other still q =
      (λ t. since_still p (act q) xs x still ((so q).0 t), λ u. ⊎_elim (λ is. absurd (other q is)) (λ was. (so q).1 was.1) (since_was p (act q) xs x u))

  -- one more target joins it
  joined : (k : ℕ) → ((q : ℕ) → act q ≡ act k → q ≡ k) → (act k ≡ Step p → ⊥)
      → (q : ℕ) → (has (with s k) q ≡ true) ↔ SinceStep p (act q) (xs ++ (act k ∷ []))
  joined k same still q = (
    λ t. ⊎_elim
        (λ old. since_still p (act q) xs (act k) still ((so q).0 old))
        (λ new. since_now p (act q) xs (act k) (ap act new))
        (with_cases s k q t),
    λ u. ⊎_elim (λ is. rw (same q is) (with_own s k)) (λ was. with_kept s k q ((so q).1 was.1)) (since_was p (act q) xs (act k) u),
  )

  -- and a step of the process empties it
  emptied : ((q : ℕ) → act q ≡ Step p → ⊥) → (q : ℕ) → (has empty q ≡ true) ↔ SinceStep p (act q) (xs ++ (Step p ∷ []))
  emptied other q =
      (λ t. absurd (empty_none q t), λ u. ⊎_elim (λ is. absurd (other q is)) (λ was. absurd (was.0 refl)) (since_was p (act q) xs (Step p) u))

-- ---- of every process, both sets
record Told (s : Site) (p : ℕ) (xs : List Event) : Type 0 where
  sent : (q : ℕ) → (has s.sent q ≡ true) ↔ SinceStep p (Send p q) xs
  heard : (q : ℕ) → (has s.heard q ≡ true) ↔ SinceStep p (Receive p q) xs

-- ---- a deed of another process leaves both
aside : (s : Site) (p : ℕ) (xs : List Event) (x : Event) → ((q : ℕ) → Send p q ≡ x → ⊥) → ((q : ℕ) → Receive p q ≡ x → ⊥) → (x ≡ Step p → ⊥)
    → Told s p xs → Told s p (xs ++ (x ∷ []))
aside s p xs x sends receives steps t =
    record {
      sent = unmoved (Send p) p s.sent xs t.sent x sends steps;
      heard = unmoved (Receive p) p s.heard xs t.heard x receives steps;
    }

told : Recalled (λ c d xs. (x : ℕ) → Told (c.site x) x xs)
unfolding send_control receive_control step_control tick
told =
    record {
      send = λ c d xs p q h k.
          at_each (λ x s. Told s x (xs ++ (Send p q ∷ []))) c.site p _
          (record {
            sent = joined (Send p) p (c.site p).sent xs (k p).sent q (λ i e. cc) (λ e. true≢false cc);
            heard = unmoved (Receive p) p (c.site p).heard xs (k p).heard (Send p q) (λ i e. true≢false cc) (λ e. true≢false cc);
          })
          (λ x other. aside (c.site x) x xs (Send p q) (λ i e. other cc) (λ i e. true≢false cc) (λ e. true≢false cc) (k x));
      receive = λ c d xs p q h k.
          at_each (λ x s. Told s x (xs ++ (Receive p q ∷ []))) c.site p _
          (record {
            sent = unmoved (Send p) p (c.site p).sent xs (k p).sent (Receive p q) (λ i e. true≢false cc) (λ e. true≢false cc);
            heard = joined (Receive p) p (c.site p).heard xs (k p).heard q (λ i e. cc) (λ e. true≢false cc);
          })
          (λ x other. aside (c.site x) x xs (Receive p q) (λ i e. true≢false cc) (λ i e. other cc) (λ e. true≢false cc) (k x));
      step = λ c d xs p h k.
          at_each (λ x s. Told s x (xs ++ (Step p ∷ []))) c.site p _
          (record {
            sent = emptied (Send p) p (c.site p).sent xs (k p).sent (λ i e. true≢false cc);
            heard = emptied (Receive p) p (c.site p).heard xs (k p).heard (λ i e. true≢false cc);
          })
          (λ x other. aside (c.site x) x xs (Step p) (λ i e. true≢false cc) (λ i e. true≢false cc) (λ e. other cc) (k x));
    }

-- ---- of runs
opened : (p : ℕ) (e : Event) (q : ℕ) → (has empty q ≡ true) ↔ SinceStep p e []
opened p e q = (λ t. absurd (empty_none q t), λ s. absurd (nowhere s.earlier e s.later s.whole))

module _ (n : ℕ) (v : ℕ → ℕ) (es : List Event) (p : ℕ) where
  both : Told ((ran n v es).control.site p) p (deeds (open_control n) es)
  unfolding open_control opening
  both =
      recalled (λ c d xs. (x : ℕ) → Told (c.site x) x xs) told (opening n v) es
      (λ x. record { sent = λ q. opened x (Send x q) q; heard = λ q. opened x (Receive x q) q }) p

  pub sent_since : (q : ℕ) → (has ((ran n v es).control.site p).sent q ≡ true) ↔ SinceStep p (Send p q) (deeds (open_control n) es)
  sent_since = both.sent

  pub heard_since : (q : ℕ) → (has ((ran n v es).control.site p).heard q ≡ true) ↔ SinceStep p (Receive p q) (deeds (open_control n) es)
  heard_since = both.heard
