-- One more event, and a process settled: the words that count it, and what they then show.
-- Assumes nothing.
use Prim.Native.Nat.{ℕ, suc, ◌+◌, ◌-◌, ◌*◌, ◌^◌, ◌≤◌, ◌<◌}
use native.Mathlib.Omega.{arith}
use native.Mathlib.Decide.{ℕ_discrete}
use mathlib.Core.Path.{◌≡◌, refl, sym, ap, ◌∙◌, subst}
use mathlib.Core.Bool.{Bool, true, false, cond}
use mathlib.Core.List.{List, [], ◌∷◌}
use lib.Dec.{eqb, lit<, lit≤}
use borrow.Author.Tests.{eq-eqb, ne_eqb}
use Rattle.rounds.specs.declared.Stage.{Stage}
use Rattle.rounds.specs.Limits.{most_events}
use Rattle.rounds.specs.Config.{Control, Content}
use Rattle.rounds.specs.Stages.{sent_to_all, heard_from_all, waited, stage, index, one, tick}
use Rattle.rounds.specs.Claims.{Live}
use Rattle.rounds.specs.Claims.Live.{waiting, taken}
use Rattle.words.specs.Layout.{Mem, Head, Line, Transit, Mail, get, Write, ◌:=◌, writes, SIZE, EVENTS, SINCE, COUNTS}
use Rattle.words.specs.Spelled.{word}
use Rattle.words.specs.Calls.{counted, settled, begun}
use Rattle.words.specs.Shows.{ShowsProcess, Shown}
use Rattle.words.proofs.Places.{Inside, kept, wrote, writes_length, head_only}
use Rattle.words.proofs.Frames.{index_small, holding_kept, site_kept, message_kept, carried_kept, words_same, changed}
use Rattle.words.proofs.Spelling.{stage_shown}
use Rattle.words.proofs.Fitting.{Fit, word_fits}

-- ---- one and the same stage
one_same : (a s : Stage) → index s ≡ index a → one a s ≡ 1
unfolding one
one_same a s e = rw (eq-eqb (index a) (index s) (sym e))

one_other : (a s : Stage) → (index s ≡ index a → ⊥) → one a s ≡ 0
unfolding one
one_other a s n = rw (ne_eqb (index a) (index s) (λ e. n (sym e)))

one_small : (a s : Stage) → one a s ≤ 1
unfolding one
one_small a s = go (eqb (index a) (index s))
  where
    go : (b : Bool) → cond b 1 0 ≤ 1
    go true = lit≤ tt
    go false = lit≤ tt

-- ---- one more event
live_tick : (c : Control) (x r q : ℕ) → Live (tick c) x r q → Live c x r q
unfolding tick
live_tick c x r q (waiting t) = waiting t
live_tick c x r q (taken e t) = taken e t

pub tick_live : (c : Control) (x r q : ℕ) → Live c x r q → Live (tick c) x r q
unfolding tick
tick_live c x r q (waiting t) = waiting t
tick_live c x r q (taken e t) = taken e t

pub tick_fit : (c : Control) → c.events < most_events → Fit c → Fit (tick c)
unfolding tick
tick_fit c more f =
    record {
      few = f.few;
      near = λ x r q l. f.near x r q (live_tick c x r q l);
      room = omega arith;
      small = λ x s. omega (arith, f.small x s, one_small (stage c x) s);
    }

tick_stage : (c : Control) (x : ℕ) → stage (tick c) x ≡ stage c x
unfolding tick stage sent_to_all heard_from_all waited
tick_stage c x = refl

-- the event is counted at the stage that the process is at, and waits to be settled
one_more : (a n o e s : ℕ) → s ≤ e → n ≡ a + o * (e - s) → n + o ≡ a + o * (e + 1 - s)
one_more a n o e s h q = rw more (omega arith)
  where
    more : e + 1 - s ≡ suc (e - s)
    more = omega arith

tick_process : (m : Mem) (c : Control) (d : Content) (x : ℕ) → ShowsProcess m c d x → ShowsProcess m (tick c) d x
unfolding tick
tick_process m c d x k =
    record {
      site = k.site;
      holding = k.holding;
      transit = k.transit;
      mail = λ r q l. k.mail r q (live_tick c x r q l);
      carried = λ r q l. k.carried r q (live_tick c x r q l);
      past = let past = k.past in omega arith;
      count = λ s. rw (tick_stage c x) (one_more _ _ _ c.events _ k.past (k.count s));
    }

counted_shows : (m : Mem) (c : Control) (d : Content) → Fit c → c.events < most_events → Shown m c d → Shown (counted m) (tick c) d
unfolding counted tick
counted_shows m c d f more k =
    let v = word (get m (Head EVENTS) + 1) in
    let ws : List Write = Head EVENTS := v ∷ [] in
    let fine : Inside ws = omega arith in
    record {
      long = writes_length m ws ∙ k.long;
      size = kept m ws fine (Head SIZE) (omega arith) ∙ k.size;
      events = wrote m ws fine 0 (lit< tt) k.long (omega arith) ∙ ap (λ (e : ℕ). word (e + 1)) k.events ∙ word_fits (c.events + 1) (omega arith);
      each = λ x h. let few = f.few in
          tick_process (counted m) c d x
          (words_same m (counted m) x (omega arith) (head_only m EVENTS v (lit< tt) x) c d f.near (k.each x h));
    }

-- ---- a process settled
level : (e : ℕ) → e - e ≡ 0
level e = omega arith

settled_same : (n st o new any e s : ℕ) → s ≤ e → n ≡ st + o * (e - s) → o ≡ 1 → new ≡ st + (e - s) → n ≡ new + any * (e - e)
settled_same n st o new any e s h q i f = let r : n ≡ st + 1 * (e - s) = rw i at q in rw (level e) (omega arith)

settled_other : (n st o new any e s : ℕ) → n ≡ st + o * (e - s) → o ≡ 0 → new ≡ st → n ≡ new + any * (e - e)
settled_other n st o new any e s q i f = let r : n ≡ st + 0 * (e - s) = rw i at q in rw (level e) (omega arith)

-- a count of one that is settled does not tell its stage
pub unstaged : (a b : Stage) (n st e s : ℕ) (t : Stage) → s ≡ e → n ≡ st + one a t * (e - s) → n ≡ st + one b t * (e - s)
unstaged a b n st e s t i q = let r : n ≡ st + one a t * 0 = rw (i, level e) at q in rw (i, level e) (omega arith)

within : (n st o e s : ℕ) → e ≤ most_events → n ≤ e → o ≡ 1 → n ≡ st + o * (e - s) → st + (e - s) < 2 ^ 32
within n st o e s r f i q = let t : n ≡ st + 1 * (e - s) = rw i at q in omega arith

module _ (m : Mem) (c : Control) (d : Content) (p : ℕ) (f : Fit c) (hp : p < c.size) (k : Shown m c d) where
  unfoldable settling : List Write
  settling =
      Line p (COUNTS + index (stage c p)) := (get m (Line p (COUNTS + index (stage c p))) + (c.events - get m (Line p SINCE)))
      ∷ Line p SINCE := c.events
      ∷ []

  settled_words : settled m p ≡ writes m settling
  unfolding settled settling
  settled_words =
      let own = k.each p hp in
      let room : get m (Line p (COUNTS + index (stage c p))) + (c.events - get m (Line p SINCE)) < 2 ^ 32 =
      within _ _ _ _ _ f.room (f.small p (stage c p)) (one_same (stage c p) (stage c p) refl) (own.count (stage c p)) in
      rw (stage_shown m c d k f.few p hp, k.events, word_fits _ room)

  fine : Inside settling
  unfolding settling
  fine = let few = f.few in let small = index_small (stage c p) in omega arith

  since_now : get (writes m settling) (Line p SINCE) ≡ c.events
  unfolding settling
  since_now = let few = f.few in wrote m settling fine 1 (lit< tt) k.long (omega arith)

  own_settled : ShowsProcess (writes m settling) c d p
  unfolding settling
  own_settled =
      let few = f.few in
      let small = index_small (stage c p) in
      let was = k.each p hp in
      record {
        site = site_kept m (writes m settling) p (λ i low high. kept m settling fine (Line p i) (omega arith)) ∙ was.site;
        holding = holding_kept m (writes m settling) p (λ i h. kept m settling fine (Line p i) (omega arith)) ∙ was.holding;
        transit = λ r low high. kept m settling fine (Transit p r) (omega arith) ∙ was.transit r low high;
        mail = λ r q l. let near = f.near p r q l in
            message_kept m (writes m settling) p r q (λ i h. kept m settling fine (Mail p r q i) (omega arith)) ∙ was.mail r q l;
        carried = λ r q l. let near = f.near p r q l in
            carried_kept m (writes m settling) p r q (λ i h. kept m settling fine (Mail p r q i) (omega arith)) ∙ was.carried r q l;
        past = rw since_now (omega arith);
        count = λ s. let s-small = index_small s in rw since_now (elim (ℕ_discrete (index s) (index (stage c p))) [
          | yes e ↦
              settled_same _ (get m (Line p (COUNTS + index s))) _ _ _ _ (get m (Line p SINCE)) was.past (was.count s) (one_same (stage c p) s e)
              (ap (λ (i : ℕ). get (writes m settling) (Line p (COUNTS + i))) e
              ∙ wrote m settling fine 0 (lit< tt) k.long (omega arith)
              ∙ ap (λ (i : ℕ). get m (Line p (COUNTS + i)) + (c.events - get m (Line p SINCE))) (sym e))
          | no n ↦
              settled_other _ (get m (Line p (COUNTS + index s))) _ _ _ _ (get m (Line p SINCE)) (was.count s) (one_other (stage c p) s n)
              (kept m settling fine (Line p (COUNTS + index s)) (omega arith))
        ]);
      }

  pub settled_shows : Shown (settled m p) c d
  unfolding settling
  settled_shows =
      rw settled_words
      (changed m settling c c d d p fine (refl, (refl, tt)) f.few f.near refl refl
      (λ x n. record { site = refl; transit = refl; carried = refl; count = refl; holding = refl; mail = refl })
      (λ h. own_settled) k)

  pub settled_since : get (settled m p) (Line p SINCE) ≡ c.events
  settled_since = rw settled_words since_now

  -- another that was settled stays so
  pub since_stays : (x : ℕ) → x < c.size → get m (Line x SINCE) ≡ c.events → get (settled m p) (Line x SINCE) ≡ c.events
  unfolding settling
  since_stays x hx e =
      let few = f.few in
      let small = index_small (stage c p) in
      elim (ℕ_discrete x p) [
        | yes i ↦ subst (λ (j : ℕ). get (settled m p) (Line j SINCE) ≡ c.events) (sym i) settled_since
        | no n ↦ rw settled_words (kept m settling fine (Line x SINCE) (omega arith) ∙ e)
      ]

-- ---- both
pub begun_shows : (m : Mem) (c : Control) (d : Content) (p : ℕ) → Fit c → c.events < most_events → p < c.size → Shown m c d
    → Shown (begun m p) (tick c) d × (get (begun m p) (Line p SINCE) ≡ (tick c).events)
unfolding begun tick
begun_shows m c d p f more hp k =
    let t = counted_shows m c d f more k in
    let g = tick_fit c more f in
    (settled_shows (counted m) (tick c) d p g hp t, settled_since (counted m) (tick c) d p g hp t)
