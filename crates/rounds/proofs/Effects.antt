-- What an accepted send, receive and step do, whole; and what a step makes of the messages heard.
-- Assumes nothing.
use Prim.Native.Nat.{ℕ, suc}
use native.Mathlib.Omega.{arith}
use mathlib.Core.Path.{◌≡◌, refl, sym, ap, ap₂, subst, ◌∙◌}
use mathlib.Core.Bool.{Bool, true, false, cond}
use mathlib.Core.List.Memᴰ.{head as here}
use mathlib.Core.List.Memᴰ.{tail as there}
use mathlib.Core.List.{List, [], ◌∷◌, Memᴰ as Among}
use borrow.Author.Tests.{lt-ltb, le-ltb}
use Rattle.sets.specs.Sets.{has, union, members}
use Rattle.sets.proofs.Order.{members_in}
use Rattle.voting.specs.declared.Message.{Message}
use Rattle.voting.specs.Voting.{rule}
use Rattle.rounds.specs.Config.{Site, Control, Content, Config}
use Rattle.rounds.specs.declared.Event.{Event}
use Rattle.rounds.specs.declared.Event.TheVariants.{Send, Receive, Step}
use Rattle.rounds.specs.Stages.{tick}
use Rattle.rounds.specs.Verdicts.{accepted, verdict}
use Rattle.rounds.specs.Events.{timely, send_control, send_content, receive_control, gathered, messages, heard_by, from, step_control, step_content, next_control, next_content, apply}
use Rattle.rounds.specs.Effects.{Posts, Takes, Advances}
use Rattle.rounds.proofs.Updates.{at_same, at_other, at₂_same, at₂_other, at₃_same, at₃_other}
use Rattle.rounds.proofs.Limits.{in_time, too_late}
use Rattle.rounds.proofs.InTurn.{apply_accepted}

-- ---- chosen of two
-- what a message that is put in transit leaves as it was, it leaves so too where it is not
same_either : {A : Type 0} (b : Bool) {x y : A} → x ≡ y → cond b x y ≡ y
same_either true e = e
same_either false e = refl

-- what is chosen of two functions, at one place
cond_at₂ : {A : Type 0} (b : Bool) (f g : ℕ → ℕ → A) (i j : ℕ) → cond b f g i j ≡ cond b (f i j) (g i j)
cond_at₂ true f g i j = refl
cond_at₂ false f g i j = refl

cond_at₃ : {A : Type 0} (b : Bool) (f g : ℕ → ℕ → ℕ → A) (i j k : ℕ) → cond b f g i j k ≡ cond b (f i j k) (g i j k)
cond_at₃ true f g i j k = refl
cond_at₃ false f g i j k = refl

-- ---- the three, on the parts of a configuration
module _ (c : Control) (d : Content) (p : ℕ) where
  abbrev me : Site
  me = c.site p

  abbrev r : ℕ
  r = me.round

  posts : (q : ℕ) → Posts (record { control = c; content = d }) (record { control = send_control (tick c) p q; content = send_content c d p q }) p q
  unfolding send_control send_content tick
  posts q =
      let b = timely r (c.site q).round in
      record {
        counted = record { size = refl; events = refl; count = λ x s. refl };
        sender = record { own = at_same c.site p _; others = at_other c.site p _ };
        kept = λ low high.
            rw (in_time r (c.site q).round low high)
            (at₂_same c.transit q r _, at₃_same d.mail q r p _, at₃_same c.carried q r p _);
        late = λ l. rw (too_late r (c.site q).round l) (refl, refl, refl);
        transit = λ x s other. cond_at₂ b _ c.transit x s ∙ same_either b (at₂_other c.transit q r _ x s other);
        mail = λ x s y other. cond_at₃ b _ d.mail x s y ∙ same_either b (at₃_other d.mail q r p _ x s y other);
        carried = λ x s y other. cond_at₃ b _ c.carried x s y ∙ same_either b (at₃_other c.carried q r p _ x s y other);
        holding = refl;
      }

  takes : (q : ℕ) → Takes (record { control = c; content = d }) (record { control = receive_control (tick c) p q; content = d }) p q
  unfolding receive_control tick
  takes q =
      record {
        counted = record { size = refl; events = refl; count = λ x s. refl };
        receiver = record { own = at_same c.site p _; others = at_other c.site p _ };
        taken = at₂_same c.transit p r _;
        transit = at₂_other c.transit p r _;
        carried = refl;
        content = refl;
      }

  advances : Advances (record { control = c; content = d }) (record { control = step_control (tick c) p; content = step_content c d p }) p
  unfolding step_control step_content heard_by tick from
  advances =
      record {
        counted = record { size = refl; events = refl; count = λ x s. refl };
        stepper = record { own = at_same c.site p _; others = at_other c.site p _ };
        voted = at_same d.holding p _;
        holding = at_other d.holding p _;
        dropped = λ s l. ap (λ (f : ℕ → ℕ). f s) (at_same c.transit p _) ∙ rw (lt-ltb s (suc r) (omega arith));
        waiting = λ s l. ap (λ (f : ℕ → ℕ). f s) (at_same c.transit p _) ∙ rw (le-ltb s (suc r) (omega arith));
        transit = λ x s other. ap (λ (f : ℕ → ℕ). f s) (at_other c.transit p _ x other);
        mail = refl;
        carried = refl;
      }

-- ---- the same of accepted events
module _ (c : Config) where
  -- what an accepted event does is what its next configuration has
  done : (e : Event) (D : Config → Type 0) → accepted (verdict c.control e) ≡ true
      → D (record { control = next_control c.control e; content = next_content c.control c.content e }) → D (apply c e)
  done e D a = subst D (sym (apply_accepted c e a))

  pub send_does : (p q : ℕ) → accepted (verdict c.control (Send p q)) ≡ true → Posts c (apply c (Send p q)) p q
  unfolding next_control next_content
  send_does p q a = done (Send p q) (λ d. Posts c d p q) a (posts c.control c.content p q)

  pub receive_does : (p q : ℕ) → accepted (verdict c.control (Receive p q)) ≡ true → Takes c (apply c (Receive p q)) p q
  unfolding next_control next_content
  receive_does p q a = done (Receive p q) (λ d. Takes c d p q) a (takes c.control c.content p q)

  pub step_does : (p : ℕ) → accepted (verdict c.control (Step p)) ≡ true → Advances c (apply c (Step p)) p
  unfolding next_control next_content
  step_does p a = done (Step p) (λ d. Advances c d p) a (advances c.control c.content p)

-- ---- a step
same_messages : (qs : List ℕ) (f g : ℕ → Message) → ((q : ℕ) → Among q qs → f q ≡ g q) → messages qs f ≡ messages qs g
unfolding messages
same_messages [] f g same = refl
same_messages (q ∷ qs) f g same =
    ap₂ {C = List Message} (λ m ms. m ∷ ms) (same q (here refl)) (same_messages qs f g (λ k a. same k (there a)))

same_gathered : (qs : List ℕ) (f g : ℕ → ℕ) (s : ℕ) → ((q : ℕ) → Among q qs → f q ≡ g q) → gathered qs f s ≡ gathered qs g s
unfolding gathered
same_gathered [] f g s same = refl
same_gathered (q ∷ qs) f g s same =
    ap (λ (x : ℕ). gathered qs f (union s x)) (same q (here refl)) ∙ same_gathered qs f g (union s (g q)) (λ k a. same k (there a))

-- the rule is applied to the messages of those heard, whatever they are found to be, and the reach gains what they carry
module _ (c : Control) (d : Content) (p : ℕ) where
  pub step_votes : (said : ℕ → Message) → ((q : ℕ) → has (c.site p).heard q ≡ true → d.mail p (c.site p).round q ≡ said q)
      → (step_content c d p).holding p ≡ rule (c.site p).round (d.holding p) (messages (members c.size (c.site p).heard) said)
  unfolding step_content heard_by
  step_votes said same =
      at_same d.holding p _
      ∙ ap (rule (c.site p).round (d.holding p))
      (same_messages (members c.size (c.site p).heard) (d.mail p (c.site p).round) said (λ q a. same q (members_in _ _ q a).1))

  pub step_reaches : (knew : ℕ → ℕ) → ((q : ℕ) → has (c.site p).heard q ≡ true → c.carried p (c.site p).round q ≡ knew q)
      → ((step_control (tick c) p).site p).reach ≡ gathered (members c.size (c.site p).heard) knew (c.site p).reach
  unfolding step_control heard_by tick
  step_reaches knew same =
      ap (λ (s : Site). s.reach) (at_same c.site p _)
      ∙ same_gathered (members c.size (c.site p).heard) (c.carried p (c.site p).round) knew (c.site p).reach
      (λ q a. same q (members_in _ _ q a).1)
