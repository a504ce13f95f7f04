-- What words show of a process where neither its words nor what the configuration holds of it change; and so what a change that is about
-- one process alone leaves of all the others. Assumes nothing.
use Prim.Native.Nat.{ℕ, ◌+◌, ◌≤◌, ◌<◌}
use native.Mathlib.Omega.{arith}
use native.Mathlib.Decide.{ℕ_discrete}
use mathlib.Core.Path.{◌≡◌, refl, sym, ap, ◌∙◌, subst}
use mathlib.Core.Bool.{true}
use mathlib.Core.List.{List}
use lib.Dec.{lit<, lit≤}
use Rattle.sets.specs.Sets.{has}
use Rattle.rounds.specs.declared.Stage.{Stage}
use Rattle.rounds.specs.declared.Stage.TheVariants.{Sending, Collecting, Pending, Idle}
use Rattle.rounds.specs.Limits.{most_processes, window}
use Rattle.rounds.specs.Config.{Site, Control, Content}
use Rattle.rounds.specs.Stages.{sent_to_all, heard_from_all, waited, stage, index}
use Rattle.rounds.specs.Claims.{Live}
use Rattle.rounds.specs.Claims.Live.{waiting, taken}
use Rattle.words.specs.Layout.{Mem, line, letter, Place, Line, Transit, Mail, get, Write, writes, SIZE, EVENTS, VALUE, VOTED, VOTE, DECIDED, DECISION, ROUND, SENT, HEARD, REACH, SINCE, COUNTS, CARRIED}
use Rattle.words.specs.Spelled.{site_of, holding_of, message_of, carried_of}
use Rattle.words.specs.Shows.{ShowsProcess, Shown}
use Rattle.words.proofs.Places.{In, Of, Inside, AllOf, others_kept, head_kept, writes_length}

pub index_small : (s : Stage) → index s < 4
unfolding index
index_small Sending = lit< tt
index_small Collecting = lit< tt
index_small Pending = lit< tt
index_small Idle = lit< tt

-- ---- what is spelled by words that are the same
module _ (m b : Mem) (x : ℕ) where
  pub holding_kept : ((k : ℕ) → k < ROUND → get b (Line x k) ≡ get m (Line x k)) → holding_of b x ≡ holding_of m x
  unfolding holding_of
  holding_kept same = rw (same VALUE (lit< tt), same VOTED (lit< tt), same VOTE (lit< tt), same DECIDED (lit< tt), same DECISION (lit< tt))

  pub site_kept : ((k : ℕ) → ROUND ≤ k → k < SINCE → get b (Line x k) ≡ get m (Line x k)) → site_of b x ≡ site_of m x
  unfolding site_of
  site_kept same =
      rw (same ROUND (lit≤ tt) (lit< tt), same SENT (lit≤ tt) (lit< tt), same HEARD (lit≤ tt) (lit< tt), same REACH (lit≤ tt) (lit< tt))

  pub message_kept : (r q : ℕ) → ((k : ℕ) → k < letter → get b (Mail x r q k) ≡ get m (Mail x r q k)) → message_of b x r q ≡ message_of m x r q
  unfolding message_of
  message_kept r q same = rw (same VALUE (lit< tt), same VOTED (lit< tt), same VOTE (lit< tt))

  pub carried_kept : (r q : ℕ) → ((k : ℕ) → k < letter → get b (Mail x r q k) ≡ get m (Mail x r q k)) → carried_of b x r q ≡ carried_of m x r q
  unfolding carried_of
  carried_kept r q same = same CARRIED (lit< tt)

-- ---- a live message is of a process that has a place, for a round that has one
abbrev pub Near : Control → Type 0
Near c = (x r q : ℕ) → Live c x r q → (q < most_processes) × ((c.site x).round ≤ r) × (r < (c.site x).round + window)

-- ---- all words of x are the same
abbrev SameWords : Mem → Mem → ℕ → Type 0
SameWords m b x = (a : Place) → Of x a → In a → get b a ≡ get m a

pub words_same : (m b : Mem) (x : ℕ) → x < most_processes → SameWords m b x → (c : Control) (d : Content) → Near c
    → ShowsProcess m c d x → ShowsProcess b c d x
words_same m b x hx same c d near k =
    record {
      site = site_kept m b x (λ i low high. own i (omega arith)) ∙ k.site;
      holding = holding_kept m b x (λ i h. own i (omega arith)) ∙ k.holding;
      transit = λ r low high. same (Transit x r) refl hx ∙ k.transit r low high;
      mail = λ r q l. message_kept m b x r q (λ i h. same (Mail x r q i) refl (hx, (near x r q l).0, h)) ∙ k.mail r q l;
      carried = λ r q l. carried_kept m b x r q (λ i h. same (Mail x r q i) refl (hx, (near x r q l).0, h)) ∙ k.carried r q l;
      past = rw (own SINCE (lit< tt)) k.past;
      count = λ s. let small = index_small s in rw (own (COUNTS + index s) (omega arith), own SINCE (lit< tt)) (k.count s);
    }
  where
    own : (i : ℕ) → i < line → get b (Line x i) ≡ get m (Line x i)
    own i h = same (Line x i) refl (hx, h)

-- ---- two configurations hold the same of x
pub record Alike (c e : Control) (d f : Content) (x : ℕ) : Type 0 where
  pub site : e.site x ≡ c.site x
  pub transit : e.transit x ≡ c.transit x
  pub carried : e.carried x ≡ c.carried x
  pub count : e.count x ≡ c.count x
  pub holding : f.holding x ≡ d.holding x
  pub mail : f.mail x ≡ d.mail x

module _ (c e : Control) (d f : Content) (x : ℕ) (size : e.size ≡ c.size) (events : e.events ≡ c.events) (a : Alike c e d f x) where
  stage_alike : stage e x ≡ stage c x
  unfolding stage sent_to_all heard_from_all waited
  stage_alike = rw (size, a.site, a.transit)

  live_alike : (r q : ℕ) → Live e x r q → Live c x r q
  live_alike r q (waiting t) = waiting (subst (λ (s : ℕ → ℕ). has (s r) q ≡ true) a.transit t)
  live_alike r q (taken h t) = taken (h ∙ ap (λ (s : Site). s.round) a.site) (subst (λ (s : Site). has s.heard q ≡ true) a.site t)

  alike_shows : (m : Mem) → ShowsProcess m c d x → ShowsProcess m e f x
  alike_shows m k =
      record {
        site = k.site ∙ sym a.site;
        holding = k.holding ∙ sym a.holding;
        transit = λ r low high.
            k.transit r (rw a.site at low) (rw a.site at high) ∙ ap (λ (t : ℕ → ℕ). t r) (sym a.transit);
        mail = λ r q l. rw a.mail (k.mail r q (live_alike r q l));
        carried = λ r q l. rw a.carried (k.carried r q (live_alike r q l));
        past = rw events k.past;
        count = λ s. rw (a.count, stage_alike, events) (k.count s);
      }

-- ---- a change of one process: what its own words show then is all that is to be seen
pub changed : (m : Mem) (ws : List Write) (c e : Control) (d f : Content) (p : ℕ) → Inside ws → AllOf p ws → c.size ≤ most_processes → Near c
    → e.size ≡ c.size → e.events ≡ c.events → ((x : ℕ) → (x ≡ p → ⊥) → Alike c e d f x)
    → (p < c.size → ShowsProcess (writes m ws) e f p) → Shown m c d → Shown (writes m ws) e f
changed m ws c e d f p fine own few near size events alike mine k =
    record {
      long = writes_length m ws ∙ k.long;
      size = head_kept m ws fine p own SIZE (lit< tt) ∙ k.size ∙ sym size;
      events = head_kept m ws fine p own EVENTS (lit< tt) ∙ k.events ∙ sym events;
      each = λ x h. each x (rw size at h) (ℕ_discrete x p);
    }
  where
    each : (x : ℕ) → x < c.size → Dec (x ≡ p) → ShowsProcess (writes m ws) e f x
    each x h (yes i) = subst (λ (j : ℕ). ShowsProcess (writes m ws) e f j) (sym i) (mine (rw i at h))
    each x h (no n) =
        alike_shows c e d f x size events (alike x n) (writes m ws)
        (words_same m (writes m ws) x (omega arith) (λ a u i. others_kept m ws fine p own x n a u i) c d near (k.each x h))
