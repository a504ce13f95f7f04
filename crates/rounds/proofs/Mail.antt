-- Mail is true: a live message carries what its sender held in the round for which it was sent, at every moment of that round.
-- Assumes nothing.
use Prim.Native.Nat.{ℕ, ◌≤◌}
use native.Mathlib.Omega.{arith}
use mathlib.Core.Path.{◌≡◌, refl, sym, ap, ◌∙◌, subst}
use mathlib.Core.Logic.{◌⊎◌, ⊎_elim}
use mathlib.Core.Bool.{Bool, true, false, cond, true≢false}
use mathlib.Core.List.{List}
use Rattle.voting.specs.declared.Message.{Message}
use Rattle.voting.specs.declared.Holding.{Holding}
use Rattle.voting.specs.Voting.{message}
use Rattle.rounds.specs.Config.{Site, Control, Content, at₃}
use Rattle.rounds.specs.Stages.{tick}
use Rattle.rounds.specs.Events.{timely, send_control, send_content, receive_control, step_control, step_content}
use Rattle.rounds.specs.Runs.{Report}
use Rattle.rounds.specs.Allowed.{Receives}
use Rattle.rounds.specs.Course.{Course, FromOpening}
use Rattle.rounds.specs.Claims.{Live}
use Rattle.rounds.proofs.Updates.{at_one, at_both, at₃_each_both}
use Rattle.rounds.proofs.Kept.{Kept, kept}
use Rattle.rounds.proofs.Live.{Posted, live_send, live_receive, live_step, Spoken, spoken_kept, open_silent}

-- ---- what is claimed of every live message, by receiver, round, sender, what it carries of the vote, and the reach it carries
abbrev Claim : (ℕ → ℕ → ℕ → Message → ℕ → Type 0) → Control → Content → Type 0
Claim Q c d = (x r y : ℕ) → Live c x r y → Q x r y (d.mail x r y) (c.carried x r y)

module _ (Q : ℕ → ℕ → ℕ → Message → ℕ → Type 0) (c : Control) (d : Content) where
  -- a send writes one message, and leaves every other live one as it was
  claim_send : (p q : ℕ) → Claim Q c d → Q q (c.site p).round p (message (d.holding p)) (c.site p).reach
      → Claim Q (send_control (tick c) p q) (send_content c d p q)
  unfolding send_control send_content tick
  claim_send p q old new x r y l = go (timely (c.site p).round (c.site q).round) refl x r y (live_send c p q x r y l)
    where
      go : (b : Bool) → timely (c.site p).round (c.site q).round ≡ b → (x r y : ℕ) → Live c x r y ⊎ Posted c p q x r y
          → Q x r y
          (cond b (at₃ d.mail q (c.site p).round p (message (d.holding p))) d.mail x r y)
          (cond b (at₃ c.carried q (c.site p).round p (c.site p).reach) c.carried x r y)
      go true e =
          at₃_each_both (λ x r y m s. Live c x r y ⊎ Posted c p q x r y → Q x r y m s) d.mail c.carried q (c.site p).round p _ _
          (λ l. new)
          (λ y other. ⊎_elim (old q (c.site p).round y) (λ post. absurd (other post.sender)))
          (λ r y other. ⊎_elim (old q r y) (λ post. absurd (other post.round)))
          (λ x r y other. ⊎_elim (old x r y) (λ post. absurd (other post.receiver)))
      go false e = λ x r y. ⊎_elim (old x r y) (λ post. absurd (true≢false (sym post.kept ∙ e)))

  claim_receive : (p q : ℕ) → Receives c p q → Claim Q c d → Claim Q (receive_control (tick c) p q) d
  unfolding receive_control tick
  claim_receive p q h old x r y l = old x r y (live_receive c p q h x r y l)

  claim_step : (p : ℕ) → Claim Q c d → Claim Q (step_control (tick c) p) (step_content c d p)
  unfolding step_control step_content tick
  claim_step p old x r y l = old x r y (live_step c p x r y l)

-- ---- now: a live message for the round that its sender is in carries what its sender holds
abbrev Current : Control → Content → ℕ → ℕ → ℕ → Message → ℕ → Type 0
Current c d x r y m s = r ≡ (c.site y).round → (m ≡ message (d.holding y)) × (s ≡ (c.site y).reach)

abbrev Fresh : Control → Content → Type 0
Fresh c d = Claim (Current c d) c d

send_fresh : (c : Control) (d : Content) (p q : ℕ) → Fresh c d → Fresh (send_control (tick c) p q) (send_content c d p q)
unfolding send_control send_content tick
send_fresh c d p q k x r y l =
    at_one (λ y s. Current c d x r y m t → r ≡ s.round → (m ≡ message (d.holding y)) × (t ≡ s.reach)) c.site p _ (λ o. o) (λ y o. o) y
    (claim_send (Current c d) c d p q k (λ e. (refl, refl)) x r y l)
  where
    m : Message
    m = (send_content c d p q).mail x r y

    t : ℕ
    t = (send_control (tick c) p q).carried x r y

receive_fresh : (c : Control) (d : Content) (p q : ℕ) → Receives c p q → Fresh c d → Fresh (receive_control (tick c) p q) d
unfolding receive_control tick
receive_fresh c d p q h k x r y l =
    at_one
    (λ y s. Current c d x r y (d.mail x r y) (c.carried x r y) → r ≡ s.round → (d.mail x r y ≡ message (d.holding y)) × (c.carried x r y ≡ s.reach))
    c.site p _ (λ o. o) (λ y o. o) y
    (claim_receive (Current c d) c d p q h k x r y l)

-- who enters a round has sent nothing for it yet
step_fresh : (c : Control) (d : Content) (p : ℕ) → Spoken c → Fresh c d → Fresh (step_control (tick c) p) (step_content c d p)
unfolding step_control step_content tick
step_fresh c d p spoken k x r y l =
    at_both (λ y s h. Live c x r y → r ≡ s.round → (d.mail x r y ≡ message h) × (c.carried x r y ≡ s.reach)) c.site d.holding p _ _
    (λ l e. let most = (spoken x r p l).0 in absurd (omega arith))
    (k x r) y (live_step c p x r y l)

fresh_kept : Kept (λ c d. Spoken c × Fresh c d)
fresh_kept =
    record {
      send = λ c d p q h k. (spoken_kept.send c d p q h k.0, send_fresh c d p q k.1);
      receive = λ c d p q h k. (spoken_kept.receive c d p q h k.0, receive_fresh c d p q h k.1);
      step = λ c d p h k. (spoken_kept.step c d p h k.0, step_fresh c d p k.0 k.1);
    }

pub spoken_fresh : (n : ℕ) (v : ℕ → ℕ) {c : Control} {d : Content} {rs : List Report} → FromOpening n v c d rs → Spoken c × Fresh c d
spoken_fresh n v l =
    kept _ fresh_kept l ((λ x r y m. absurd (open_silent n x r y m)), (λ x r y m. absurd (open_silent n x r y m)))

-- ---- ever after: what y held in the round r is what the live messages that it sent for r carry
module _ (y r : ℕ) (h : Holding) (s : ℕ) where
  -- it has come to the round, and while it lasts this is held
  abbrev Holds : Site → Holding → Type 0
  Holds site holding = (r ≤ site.round) × (site.round ≡ r → (holding ≡ h) × (site.reach ≡ s))

  abbrev Says : ℕ → ℕ → ℕ → Message → ℕ → Type 0
  Says x r' y' m t = y' ≡ y → r' ≡ r → (m ≡ message h) × (t ≡ s)

  record Since (c : Control) (d : Content) : Type 0 where
    holds : Holds (c.site y) (d.holding y)
    says : Claim Says c d

  send_since : (c : Control) (d : Content) (p q : ℕ) → Since c d → Since (send_control (tick c) p q) (send_content c d p q)
  unfolding send_control send_content tick
  send_since c d p q k =
      record {
        holds = at_one (λ z site. Holds (c.site z) (d.holding z) → Holds site (d.holding z)) c.site p _ (λ o. o) (λ z o. o) y k.holds;
        says =
            claim_send Says c d p q k.says
            (λ e f. let own = subst (λ (z : ℕ). Holds (c.site z) (d.holding z)) (sym e) k.holds in (ap message (own.1 f).0, (own.1 f).1));
      }

  receive_since : (c : Control) (d : Content) (p q : ℕ) → Receives c p q → Since c d → Since (receive_control (tick c) p q) d
  unfolding receive_control tick
  receive_since c d p q m k =
      record {
        holds = at_one (λ z site. Holds (c.site z) (d.holding z) → Holds site (d.holding z)) c.site p _ (λ o. o) (λ z o. o) y k.holds;
        says = claim_receive Says c d p q m k.says;
      }

  step_since : (c : Control) (d : Content) (p : ℕ) → Since c d → Since (step_control (tick c) p) (step_content c d p)
  unfolding step_control step_content tick
  step_since c d p k =
      record {
        holds =
            at_both (λ z site holding. Holds (c.site z) (d.holding z) → Holds site holding) c.site d.holding p _ _
            (λ o. let come = o.0 in (omega arith, λ e. absurd (omega arith))) (λ z o. o) y k.holds;
        says = claim_step Says c d p k.says;
      }

  since_kept : Kept Since
  since_kept =
      record {
        send = λ c d p q m k. send_since c d p q k;
        receive = λ c d p q m k. receive_since c d p q m k;
        step = λ c d p m k. step_since c d p k;
      }

-- a live message for the round r carries what its sender held at a moment, any moment, at which it was in that round
pub mail_true : (n : ℕ) (v : ℕ → ℕ) {c₁ : Control} {d₁ : Content} {rs₁ : List Report} {c : Control} {d : Content} {rs : List Report}
    → FromOpening n v c₁ d₁ rs₁ → Course c₁ d₁ c d rs → (x y : ℕ) → Live c x (c₁.site y).round y
    → (d.mail x (c₁.site y).round y ≡ message (d₁.holding y)) × (c.carried x (c₁.site y).round y ≡ (c₁.site y).reach)
mail_true n v {c₁ = c₁} {d₁ = d₁} opened course x y l =
    (kept (Since y (c₁.site y).round (d₁.holding y) (c₁.site y).reach) (since_kept _ _ _ _) course
    (record { holds = (omega arith, λ e. (refl, refl)); says = now })
    ).says x (c₁.site y).round y l refl refl
  where
    now : Claim (Says y (c₁.site y).round (d₁.holding y) (c₁.site y).reach) c₁ d₁
    now x' r y' m e f =
        subst (λ (z : ℕ). (d₁.mail x' r y' ≡ message (d₁.holding z)) × (c₁.carried x' r y' ≡ (c₁.site z).reach)) e
        ((spoken_fresh n v opened).1 x' r y' m (f ∙ ap (λ (z : ℕ). (c₁.site z).round) (sym e)))
