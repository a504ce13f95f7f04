-- What is in transit, and who sent it: a message is in transit exactly when its sender sent it in time, and its receiver has neither received it nor
-- stepped beyond its round since; and every live message was sent to its receiver. Assumes nothing.
use Prim.Native.Nat.{ℕ, ◌+◌, ◌≤◌, ◌<◌}
use native.Mathlib.Omega.{arith}
use mathlib.Core.Path.{◌≡◌, refl, sym, ap, subst, ◌∙◌}
use mathlib.Core.Logic.{◌↔◌, ◌⊎◌, inl, inr, ⊎_elim}
use mathlib.Core.Bool.{true, true≢false}
use mathlib.Core.List.{List, [], ◌∷◌, ◌++◌}
use Rattle.sets.specs.Sets.{has}
use Rattle.sets.proofs.Membership.{empty_none}
use Rattle.rounds.specs.declared.Event.{Event}
use Rattle.rounds.specs.declared.Event.TheVariants.{Send, Receive, Step}
use Rattle.rounds.specs.Limits.{window}
use Rattle.rounds.specs.Config.{Control, Content, Config, open_control, open_content, opening}
use Rattle.rounds.specs.Stages.{tick}
use Rattle.rounds.specs.Events.{send_control, send_content, receive_control, step_control, step_content}
use Rattle.rounds.specs.Runs.{after, deeds}
use Rattle.rounds.specs.Allowed.{Receives}
use Rattle.rounds.specs.Claims.{ran, Live, SentTo, Underway}
use Rattle.rounds.proofs.Updates.{at_one, at_each}
use Rattle.rounds.proofs.Limits.{timely_lead, in_time}
use Rattle.rounds.proofs.Live.{Posted, send_was, send_keeps, send_puts, live_send, receive_was, receive_took, receive_keeps, live_receive, step_was, step_keeps, live_step, open_silent}
use Rattle.rounds.proofs.Last.{Last, nowhere, last, longer}
use Rattle.rounds.proofs.Last.Last.{itself, sooner}
use Rattle.rounds.proofs.Deeds.{Recalled, recalled, MadeBy, made_recalled}

module _ (n : ℕ) (v : ℕ → ℕ) where
  -- the round of a process after these deeds
  abbrev round_of : List Event → ℕ → ℕ
  round_of xs x = ((ran n v xs).control.site x).round

  -- ---- one more deed z at the end of xs
  module _ (xs : List Event) (z : Event) (x r y : ℕ) where
    sent_now : Send y x ≡ z → round_of xs y ≡ r → SentTo n v (xs ++ (z ∷ [])) x r y
    sent_now is round = record { earlier = xs; later = []; whole = ap (λ (e : Event). xs ++ (e ∷ [])) is; round = round }

    sent_before : SentTo n v xs x r y → SentTo n v (xs ++ (z ∷ [])) x r y
    sent_before s =
        record {
          earlier = s.earlier;
          later = s.later ++ (z ∷ []);
          whole = longer s.earlier (Send y x) s.later xs z s.whole;
          round = s.round;
        }

    -- sent just now, in time
    record Posting : Type 0 where
      is : Send y x ≡ z
      round : round_of xs y ≡ r
      low : round_of xs x ≤ r
      high : r < round_of xs x + window

    -- z does not take the message
    abbrev Leaves : Type 0
    Leaves = Receive x y ≡ z → round_of xs x ≡ r → ⊥

    posting_under : Posting → round_of (xs ++ (z ∷ [])) x ≤ r → Underway n v (xs ++ (z ∷ [])) x r y
    unfolding sent_now
    posting_under m unpassed =
        record {
          sent = sent_now m.is m.round;
          lead = (m.low, m.high);
          untaken = λ a b h. absurd (nowhere a (Receive x y) b h);
          unpassed = unpassed;
        }

    under_still : Underway n v xs x r y → Leaves → round_of (xs ++ (z ∷ [])) x ≤ r → Underway n v (xs ++ (z ∷ [])) x r y
    unfolding sent_before
    under_still u leaves unpassed =
        record {
          sent = sent_before u.sent;
          lead = u.lead;
          untaken = λ a b h. go a b (last a (Receive x y) b u.sent.later z h);
          unpassed = unpassed;
        }
      where
        go : (a b : List Event) → Last a (Receive x y) b u.sent.later z → round_of (u.sent.earlier ++ (Send y x ∷ a)) x ≡ r → ⊥
        go a b (itself none same is) round =
            leaves is (ap (λ (l : List Event). round_of l x) (sym (ap (λ (l : List Event). u.sent.earlier ++ (Send y x ∷ l)) same ∙ u.sent.whole)) ∙ round)
        go a b (sooner more ends rest) round = u.untaken a more rest round

    under_was : Underway n v (xs ++ (z ∷ [])) x r y → round_of xs x ≤ r → Posting ⊎ (Underway n v xs x r y × Leaves)
    under_was u unpassed = go (last u.sent.earlier (Send y x) u.sent.later xs z u.sent.whole)
      where
        go : Last u.sent.earlier (Send y x) u.sent.later xs z → Posting ⊎ (Underway n v xs x r y × Leaves)
        go (itself none same is) =
            let lead = u.lead in
            inl
            (record {
              is = is;
              round = ap (λ (l : List Event). round_of l y) (sym same) ∙ u.sent.round;
              low = unpassed;
              high = subst (λ (l : List Event). r < round_of l x + window) same lead.1;
            })
        go (sooner more ends rest) =
            inr (
              record {
                sent = record { earlier = u.sent.earlier; later = more; whole = rest; round = u.sent.round };
                lead = u.lead;
                untaken = λ a b h. u.untaken a (b ++ (z ∷ [])) (longer a (Receive x y) b more z h ∙ sym ends);
                unpassed = unpassed;
              },
              λ is round. u.untaken more [] (ap (λ (e : Event). more ++ (e ∷ [])) is ∙ sym ends) (ap (λ (l : List Event). round_of l x) rest ∙ round),
            )

  -- ---- what is said of a run and its deeds
  record Tells (c : Control) (d : Content) (xs : List Event) : Type 0 where
    made : MadeBy (opening n v) c d xs
    transit : (x r y : ℕ) → (has (c.transit x r) y ≡ true) ↔ Underway n v xs x r y
    live : (x r y : ℕ) → Live c x r y → SentTo n v xs x r y

  -- the round of a process, by the deeds and as it is held
  round_is : (c : Control) (d : Content) (xs : List Event) → MadeBy (opening n v) c d xs → (x : ℕ) → round_of xs x ≡ (c.site x).round
  round_is c d xs m x = ap (λ (k : Config). (k.control.site x).round) m

  module _ (c : Control) (d : Content) (xs : List Event) (t : Tells c d xs) (p q : ℕ)
      (made : MadeBy (opening n v) (send_control (tick c) p q) (send_content c d p q) (xs ++ (Send p q ∷ []))) where
    same_round : (x : ℕ) → round_of (xs ++ (Send p q ∷ [])) x ≡ round_of xs x
    unfolding send_control tick
    same_round x =
        round_is _ _ _ made x
        ∙ at_one (λ x s. s.round ≡ (c.site x).round) c.site p _ refl (λ x. refl) x
        ∙ sym (round_is c d xs t.made x)

    -- what is posted, by the deeds and as it is held
    posting : (x r y : ℕ) → Posted c p q x r y → Posting xs (Send p q) x r y
    posting x r y m =
        let lead = timely_lead _ _ m.kept in
        let mine = round_is c d xs t.made p in
        let theirs = round_is c d xs t.made q in
        let round = m.round in
        rw (m.receiver, m.sender) (record { is = refl; round = omega arith; low = omega arith; high = omega arith })

    posted : (x r y : ℕ) → Posting xs (Send p q) x r y → Posted c p q x r y
    posted x r y m =
        let is = m.is in
        let who : (y ≡ p) × (x ≡ q) = (cc, cc) in
        let mine = round_is c d xs t.made y in
        let theirs = round_is c d xs t.made x in
        let round = m.round in
        let low = m.low in
        let high = m.high in
        record {
          receiver = who.1;
          round = rw (← who.0) (omega arith);
          sender = who.0;
          kept = rw (← who.0, ← who.1) (in_time _ _ (omega arith) (omega arith));
        }

    send_tells : Tells (send_control (tick c) p q) (send_content c d p q) (xs ++ (Send p q ∷ []))
    send_tells =
        record {
          made = made;
          transit = λ x r y. (
            λ has'. ⊎_elim
                (λ old. let u = (t.transit x r y).0 old in
                under_still xs (Send p q) x r y u (λ e round. true≢false cc) (rw (same_round x) u.unpassed))
                (λ new. let m = posting x r y new in posting_under xs (Send p q) x r y m (rw (same_round x) m.low))
                (send_was c p q x r y has'),
            λ u. ⊎_elim
                (λ new. send_puts c p q x r y (posted x r y new))
                (λ old. send_keeps c p q x r y ((t.transit x r y).1 old.0))
                (under_was xs (Send p q) x r y u (rw (same_round x) at u.unpassed)),
          );
          live = λ x r y l. ⊎_elim
              (λ old. sent_before xs (Send p q) x r y (t.live x r y old))
              (λ new. let m = posting x r y new in sent_now xs (Send p q) x r y m.is m.round)
              (live_send c p q x r y l);
        }

  module _ (c : Control) (d : Content) (xs : List Event) (t : Tells c d xs) (p q : ℕ) (h : Receives c p q)
      (made : MadeBy (opening n v) (receive_control (tick c) p q) d (xs ++ (Receive p q ∷ []))) where
    same_round_taken : (x : ℕ) → round_of (xs ++ (Receive p q ∷ [])) x ≡ round_of xs x
    unfolding receive_control tick
    same_round_taken x =
        round_is _ _ _ made x
        ∙ at_one (λ x s. s.round ≡ (c.site x).round) c.site p _ refl (λ x. refl) x
        ∙ sym (round_is c d xs t.made x)

    -- what is in transit still was not taken
    untaken : (x r y : ℕ) → has ((receive_control (tick c) p q).transit x r) y ≡ true → Leaves xs (Receive p q) x r y
    untaken x r y has' is round =
        let who : (x ≡ p) × (y ≡ q) = (cc, cc) in
        let theirs : r ≡ (c.site p).round = sym round ∙ round_is c d xs t.made x ∙ ap (λ (z : ℕ). (c.site z).round) who.0 in
        true≢false (sym (rw (who.0, who.1, theirs) at has') ∙ receive_took c p q)

    receive_tells : Tells (receive_control (tick c) p q) d (xs ++ (Receive p q ∷ []))
    receive_tells =
        record {
          made = made;
          transit = λ x r y. (
            λ has'. let u = (t.transit x r y).0 (receive_was c p q x r y has') in
                under_still xs (Receive p q) x r y u (untaken x r y has') (rw (same_round_taken x) u.unpassed),
            λ u. ⊎_elim
                (λ new. let is = new.is in absurd (true≢false cc))
                (λ old. receive_keeps c p q x r y ((t.transit x r y).1 old.0)
                (λ e f g. old.1 (rw (e, g)) (rw e (round_is c d xs t.made p ∙ sym f))))
                (under_was xs (Receive p q) x r y u (rw (same_round_taken x) at u.unpassed)),
          );
          live = λ x r y l. sent_before xs (Receive p q) x r y (t.live x r y (live_receive c p q h x r y l));
        }

  module _ (c : Control) (d : Content) (xs : List Event) (t : Tells c d xs) (p : ℕ)
      (made : MadeBy (opening n v) (step_control (tick c) p) (step_content c d p) (xs ++ (Step p ∷ []))) where
    -- who is not beyond r before the step, and is at r at least where it is p that steps, is not beyond r after it; and the other way round
    not_beyond : (x r : ℕ) → round_of xs x ≤ r → (x ≡ p → (c.site p).round < r) → round_of (xs ++ (Step p ∷ [])) x ≤ r
    unfolding step_control tick
    not_beyond x r low later =
        let was = round_is c d xs t.made x in
        rw (round_is _ _ _ made x)
        (at_one (λ x s. (c.site x).round ≤ r → (x ≡ p → (c.site p).round < r) → s.round ≤ r) c.site p _
        (λ low later. later refl) (λ x low later. low) x (omega arith) later)

    was_not_beyond : (x r : ℕ) → round_of (xs ++ (Step p ∷ [])) x ≤ r → (round_of xs x ≤ r) × (x ≡ p → (c.site p).round < r)
    unfolding step_control tick
    was_not_beyond x r high =
        rw (round_is c d xs t.made x)
        (at_each (λ x s. s.round ≤ r → ((c.site x).round ≤ r) × (x ≡ p → (c.site p).round < r)) c.site p _
        (λ h. (omega arith, λ e. h)) (λ x other h. (h, λ e. absurd (other e))) x (rw (round_is _ _ _ made x) at high))

    step_tells : Tells (step_control (tick c) p) (step_content c d p) (xs ++ (Step p ∷ []))
    step_tells =
        record {
          made = made;
          transit = λ x r y. (
            λ has'. let was = step_was c p x r y has' in
                let u = (t.transit x r y).0 was.0 in
                under_still xs (Step p) x r y u (λ e round. true≢false cc) (not_beyond x r u.unpassed was.1),
            λ u. let was = was_not_beyond x r u.unpassed in
                ⊎_elim
                (λ new. let is = new.is in absurd (true≢false cc))
                (λ old. step_keeps c p x r y ((t.transit x r y).1 old.0) was.1)
                (under_was xs (Step p) x r y u was.0),
          );
          live = λ x r y l. sent_before xs (Step p) x r y (t.live x r y (live_step c p x r y l));
        }

  tells : Recalled Tells
  tells =
      record {
        send = λ c d xs p q h t. send_tells c d xs t p q ((made_recalled (opening n v)).send c d xs p q h t.made);
        receive = λ c d xs p q h t. receive_tells c d xs t p q h ((made_recalled (opening n v)).receive c d xs p q h t.made);
        step = λ c d xs p h t. step_tells c d xs t p ((made_recalled (opening n v)).step c d xs p h t.made);
      }

  -- ---- of runs
  open_tells : Tells (open_control n) (open_content v) []
  unfolding after opening open_control
  open_tells =
      record {
        made = refl;
        transit = λ x r y. (λ t. absurd (empty_none y t), λ u. absurd (nowhere u.sent.earlier (Send y x) u.sent.later u.sent.whole));
        live = λ x r y l. absurd (open_silent n x r y l);
      }

  run_tells : (es : List Event) → Tells (ran n v es).control (ran n v es).content (deeds (open_control n) es)
  unfolding opening
  run_tells es = recalled Tells tells (opening n v) es open_tells

  pub transit_since : (es : List Event) (x r y : ℕ) → (has ((ran n v es).control.transit x r) y ≡ true) ↔ Underway n v (deeds (open_control n) es) x r y
  transit_since es = (run_tells es).transit

  pub live_sent : (es : List Event) (x r y : ℕ) → Live (ran n v es).control x r y → SentTo n v (deeds (open_control n) es) x r y
  live_sent es = (run_tells es).live
