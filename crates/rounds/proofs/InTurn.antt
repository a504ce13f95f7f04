-- What a run of a list of events is: a refused event changes nothing, a broadcast is its sends, and a replay is the run of the events that it comes
-- to before a refused one. Assumes nothing.
use Prim.Native.Nat.{ℕ, zero, suc, ◌+◌, ◌≤◌, ◌<◌}
use native.Mathlib.Omega.{arith}
use mathlib.Core.Path.{◌≡◌, refl, sym, ap, ◌∙◌}
use mathlib.Core.Bool.{Bool, true, false, cond, true≢false}
use mathlib.Core.List.{List, [], ◌∷◌, ◌++◌}
use Rattle.rounds.specs.declared.Event.{Event}
use Rattle.rounds.specs.declared.Event.TheVariants.{Send, Broadcast}
use Rattle.rounds.specs.Verdicts.{Verdict}
use Rattle.rounds.specs.Verdicts.{Accepted}
use Rattle.rounds.specs.Limits.{most_events}
use Rattle.rounds.specs.Config.{Config}
use Rattle.rounds.specs.Verdicts.{accepted, send_verdict, first_refusal, verdict}
use Rattle.rounds.specs.Events.{sends_control, sends_content, next_control, next_content, if_accepted, apply_control, apply_content, apply}
use Rattle.rounds.specs.Runs.{after, replay, replay_verdict, heeded, sends}
use Rattle.rounds.specs.Allowed.{Allowed}
use Rattle.rounds.specs.Claims.{Stop}
use Rattle.rounds.proofs.Answers.{accepted_is, is_accepted, none_refused_lem, send_plain, broadcast_plain, allowed, allows}
use Rattle.rounds.proofs.Broadcasts.{sends_size, sends_events, sends_verdict, each_sends}

pub after_append : (c : Config) (es fs : List Event) → after c (es ++ fs) ≡ after (after c es) fs
unfolding after
after_append c [] fs = refl
after_append c (e ∷ es) fs = after_append (apply c e) es fs

-- ---- one event
abbrev both : Config → Event → Bool → Config
both c e b =
    record {
      control = cond b (next_control c.control e) c.control;
      content = cond b (next_content c.control c.content e) c.content;
    }

pub apply_accepted : (c : Config) (e : Event) → accepted (verdict c.control e) ≡ true
    → apply c e ≡ record { control = next_control c.control e; content = next_content c.control c.content e }
unfolding apply apply_control apply_content if_accepted
apply_accepted c e a = ap (both c e) a

pub apply_refused : (c : Config) (e : Event) → accepted (verdict c.control e) ≡ false → apply c e ≡ c
unfolding apply apply_control apply_content if_accepted
apply_refused c e a = ap (both c e) a

-- one more accepted event behind others
pub after_more : (c₀ c : Config) (es : List Event) (e : Event) → after c₀ es ≡ c → Allowed c.control e
    → after c₀ (es ++ (e ∷ [])) ≡ record { control = next_control c.control e; content = next_content c.control c.content e }
unfolding after
after_more c₀ c es e ends h =
    after_append c₀ es (e ∷ [])
    ∙ ap (λ (b : Config). apply b e) ends
    ∙ apply_accepted c e (accepted_is _ (allows c.control e h))

-- ---- a broadcast
module _ (c : Config) (p : ℕ) where
  abbrev part : ℕ → Config
  part k = record { control = sends_control k c.control p; content = sends_content k c.control c.content p }

  -- the run of its sends to the processes below k, each of which is accepted
  after_sends : (k : ℕ) → ((i : ℕ) → i < k → accepted (verdict (sends_control i c.control p) (Send p i)) ≡ true) → after c (sends k p) ≡ part k
  unfolding sends after sends_control sends_content next_control next_content
  after_sends zero h = refl
  after_sends (suc k) h =
      after_append c (sends k p) (Send p k ∷ [])
      ∙ ap (λ (d : Config). after d (Send p k ∷ [])) (after_sends k (λ i l. h i (omega arith)))
      ∙ apply_accepted (part k) (Send p k) (h k (omega arith))

  -- an accepted broadcast is its sends, one after the other
  pub broadcast_sends : accepted (verdict c.control (Broadcast p)) ≡ true → apply c (Broadcast p) ≡ after c (sends c.control.size p)
  unfolding next_control next_content
  broadcast_sends a =
      apply_accepted c (Broadcast p) a
      ∙ sym (after_sends c.control.size each)
    where
      each : (i : ℕ) → i < c.control.size → accepted (verdict (sends_control i c.control p) (Send p i)) ≡ true
      each i l = accepted_is _ (allows _ (Send p i) (each_sends c.control p (allowed c.control (Broadcast p) a) i l))

-- ---- the replay
-- where its verdict is Accepted, it is the run of all its events
pub replay_whole : (c : Config) (es : List Event) → accepted (replay_verdict c es) ≡ true → replay c es ≡ after c es
unfolding replay replay_verdict after if_accepted
replay_whole c [] a = refl
replay_whole c (e ∷ es) a = go (accepted (verdict c.control e)) refl a (replay_whole (apply c e) es)
  where
    go : (b : Bool) → accepted (verdict c.control e) ≡ b → accepted (cond b (replay_verdict (apply c e) es) (verdict c.control e)) ≡ true
        → (accepted (replay_verdict (apply c e) es) ≡ true → replay (apply c e) es ≡ after (apply c e) es)
        → cond b (replay (apply c e) es) c ≡ after (apply c e) es
    go true q z r = r z
    go false q z r = absurd (true≢false (sym z ∙ q))

-- otherwise it stops at the first refused event, with its verdict, and is the run of the events before it
pub replay_stops : (c : Config) (es : List Event) → accepted (replay_verdict c es) ≡ false → Stop c es
unfolding replay replay_verdict after if_accepted
replay_stops c [] a = absurd (true≢false (sym (accepted_is Accepted refl) ∙ a))
replay_stops c (e ∷ es) a = go (accepted (verdict c.control e)) refl a (replay_stops (apply c e) es)
  where
    go : (b : Bool) → accepted (verdict c.control e) ≡ b → accepted (cond b (replay_verdict (apply c e) es) (verdict c.control e)) ≡ false
        → (accepted (replay_verdict (apply c e) es) ≡ false → Stop (apply c e) es) → Stop c (e ∷ es)
    go true q z next =
        let s = next z in
        record {
          earlier = e ∷ s.earlier;
          refused = s.refused;
          later = s.later;
          whole = ap (λ (l : List Event). e ∷ l) s.whole;
          accepted = rw q s.accepted;
          answer = rw q s.answer;
          state = rw q s.state;
        }
    go false q z next =
        record { earlier = []; refused = e; later = es; whole = refl; accepted = refl; answer = rw q; state = rw q }

-- so it is the run of the events that it comes to before a refused one
pub replay_heeded : (c : Config) (es : List Event) → replay c es ≡ after c (heeded c.control es)
unfolding replay heeded after if_accepted apply
replay_heeded c [] = refl
replay_heeded c (e ∷ es) = go (accepted (verdict c.control e)) (replay_heeded (apply c e) es)
  where
    go : (b : Bool) → replay (apply c e) es ≡ after (apply c e) (heeded (apply c e).control es)
        → cond b (replay (apply c e) es) c ≡ after c (cond b (e ∷ heeded (apply_control c.control e) es) [])
    go true ih = ih
    go false ih = refl

-- one verdict, or what comes where that accepts
abbrev pub then_verdict : Verdict → Verdict → Verdict
then_verdict v next = cond (accepted v) next v

-- events and then others are answered as the first are or, where these are all accepted, as the others after them
pub replay_append : (c : Config) (es fs : List Event) → replay_verdict c (es ++ fs) ≡ then_verdict (replay_verdict c es) (replay_verdict (after c es) fs)
unfolding replay_verdict after if_accepted
replay_append c [] fs = sym (ap (λ (b : Bool). cond b (replay_verdict c fs) Accepted) (accepted_is Accepted refl))
replay_append c (e ∷ es) fs = go (accepted (verdict c.control e)) refl (replay_append (apply c e) es fs)
  where
    go : (b : Bool) → accepted (verdict c.control e) ≡ b
        → replay_verdict (apply c e) (es ++ fs) ≡ then_verdict (replay_verdict (apply c e) es) (replay_verdict (after (apply c e) es) fs)
        → cond b (replay_verdict (apply c e) (es ++ fs)) (verdict c.control e)
        ≡ then_verdict (cond b (replay_verdict (apply c e) es) (verdict c.control e)) (replay_verdict (after (apply c e) es) fs)
    go true q ih = ih
    go false q ih = sym (ap (λ (b : Bool). cond b (replay_verdict (after (apply c e) es) fs) (verdict c.control e)) q)

-- one event alone
pub replay_one : (c : Config) (e : Event) → replay_verdict c (e ∷ []) ≡ verdict c.control e
unfolding replay_verdict if_accepted
replay_one c e = go (accepted (verdict c.control e)) refl
  where
    go : (b : Bool) → accepted (verdict c.control e) ≡ b → cond b Accepted (verdict c.control e) ≡ verdict c.control e
    go true a = sym (is_accepted (verdict c.control e) a)
    go false a = refl

-- a broadcast of a process, with room for its events, is answered as the replay of its sends is: with the first of them that is refused
module _ (c : Config) (p : ℕ) (who : p < c.control.size) (space : c.control.events + c.control.size ≤ most_events) where
  answered : (i : ℕ) → i < c.control.size → verdict (sends_control i c.control p) (Send p i) ≡ send_verdict c.control p i
  answered i h =
      let size = sends_size i c.control p in
      let events = sends_events i c.control p in
      send_plain (sends_control i c.control p) p i (omega arith) (omega arith) (omega arith) ∙ sends_verdict i c.control p i (omega arith)

  sends_replay : (k : ℕ) → k ≤ c.control.size → replay_verdict c (sends k p) ≡ first_refusal k (send_verdict c.control p)
  unfolding sends replay_verdict first_refusal
  sends_replay zero h = refl
  sends_replay (suc k) h =
      replay_append c (sends k p) (Send p k ∷ [])
      ∙ rw (sends_replay k (omega arith)) (go (accepted (first_refusal k (send_verdict c.control p))) refl)
    where
      go : (b : Bool) → accepted (first_refusal k (send_verdict c.control p)) ≡ b
          → cond b (replay_verdict (after c (sends k p)) (Send p k ∷ [])) (first_refusal k (send_verdict c.control p))
          ≡ cond b (send_verdict c.control p k) (first_refusal k (send_verdict c.control p))
      go true a =
          replay_one (after c (sends k p)) (Send p k)
          ∙ ap (λ (d : Config). verdict d.control (Send p k))
          (after_sends c p k (λ i l. ap accepted (answered i (omega arith)) ∙ none_refused_lem k (send_verdict c.control p) a i l))
          ∙ answered k h
      go false a = refl

  pub broadcast_first : verdict c.control (Broadcast p) ≡ replay_verdict c (sends c.control.size p)
  broadcast_first = broadcast_plain c.control p who space ∙ sym (sends_replay c.control.size (omega arith))
