-- What the words show after an accepted opening: the opened configuration, whatever the memory held.
-- Assumes nothing.
use Prim.Native.Nat.{ℕ, zero, suc, ◌+◌, ◌≤◌, ◌<◌}
use native.Mathlib.Omega.{arith}
use native.Mathlib.Decide.{ℕ_discrete}
use mathlib.Core.Path.{◌≡◌, refl, sym, ◌∙◌, subst}
use mathlib.Core.List.{List, [], ◌∷◌}
use lib.Dec.{lit<, lit≤}
use lib.ListN.{get_or, length, length-replicate, get_or-replicate}
use Rattle.sets.specs.Sets.{empty, with}
use Rattle.voting.specs.Voting.{opens}
use Rattle.rounds.specs.Limits.{most_processes}
use Rattle.rounds.specs.Config.{open_control, open_content}
use Rattle.rounds.specs.Stages.{index}
use Rattle.rounds.proofs.Live.{open_silent}
use Rattle.words.specs.Layout.{Mem, RUN, heads, line, Place, Head, Line, Transit, at, get, Write, ◌:=◌, writes, SIZE, EVENTS, VALUE, VOTED, DECIDED, ROUND, SENT, HEARD, REACH, SINCE, COUNTS}
use Rattle.words.specs.Spelled.{choice, site_of, holding_of}
use Rattle.words.specs.Calls.{blank, placed, placed_below, opened}
use Rattle.words.specs.Shows.{ShowsProcess, Shown, Given}
use Rattle.words.proofs.Places.{In, Of, in_run, Inside, kept, wrote, writes_length, others_kept, head_kept, head_only}
use Rattle.words.proofs.Frames.{index_small}

blank_zero : (a : Place) → In a → get blank a ≡ 0
unfolding get blank
blank_zero a h = get_or-replicate RUN (at a) 0 0 (in_run a h)

blank_length : length blank ≡ RUN
unfolding blank
blank_length = length-replicate {A = ℕ} RUN 0

-- all words of x are 0
abbrev Blank : Mem → ℕ → Type 0
Blank m x = (a : Place) → Of x a → In a → get m a ≡ 0

-- a word of a line that an opening does not write
abbrev Unwritten : ℕ → Type 0
Unwritten k = (k < line) × (k ≡ VALUE → ⊥) × (k ≡ ROUND → ⊥) × (k ≡ REACH → ⊥)

-- the words of x are those of a process that opens with the value v
record Fresh (m : Mem) (x v : ℕ) : Type 0 where
  value : get m (Line x VALUE) ≡ v
  round : get m (Line x ROUND) ≡ 1
  reach : get m (Line x REACH) ≡ with empty x
  others : (k : ℕ) → Unwritten k → get m (Line x k) ≡ 0
  transit : (r : ℕ) → get m (Transit x r) ≡ 0

module _ (m : Mem) (p v : ℕ) (long : length m ≡ RUN) (hp : p < most_processes) where
  unfoldable placing : List Write
  placing = Line p VALUE := v ∷ Line p ROUND := 1 ∷ Line p REACH := with empty p ∷ []

  fine : Inside placing
  unfolding placing
  fine = omega arith

  placed_own : Blank m p → Fresh (placed m p v) p v
  unfolding placed placing
  placed_own b =
      record {
        value = wrote m placing fine 0 (lit< tt) long (omega arith);
        round = wrote m placing fine 1 (lit< tt) long (omega arith);
        reach = wrote m placing fine 2 (lit< tt) long (omega arith);
        others = λ k u. kept m placing fine (Line p k) (omega arith) ∙ b (Line p k) refl (hp, u.0);
        transit = λ r. kept m placing fine (Transit p r) (omega arith) ∙ b (Transit p r) refl hp;
      }

  placed_same : (x : ℕ) → (x ≡ p → ⊥) → (a : Place) → Of x a → In a → get (placed m p v) a ≡ get m a
  unfolding placed placing
  placed_same = others_kept m placing fine p (refl, (refl, (refl, tt)))

  placed_head : (k : ℕ) → k < heads → get (placed m p v) (Head k) ≡ get m (Head k)
  unfolding placed placing
  placed_head = head_kept m placing fine p (refl, (refl, (refl, tt)))

  placed_length : length (placed m p v) ≡ RUN
  unfolding placed placing
  placed_length = writes_length m placing ∙ long

-- ---- the processes one after the other
module _ (xs : List ℕ) (m : Mem) (long : length m ≡ RUN) (clear : (x : ℕ) → Blank m x) where
  below_length : (k : ℕ) → k ≤ most_processes → length (placed_below k xs m) ≡ RUN
  unfolding placed_below
  below_length zero h = long
  below_length (suc k) h = placed_length (placed_below k xs m) k (get_or xs k 0) (below_length k (omega arith)) h

  below_head : (k : ℕ) → k ≤ most_processes → (i : ℕ) → i < heads → get (placed_below k xs m) (Head i) ≡ get m (Head i)
  unfolding placed_below
  below_head zero h i s = refl
  below_head (suc k) h i s =
      placed_head (placed_below k xs m) k (get_or xs k 0) (below_length k (omega arith)) h i s ∙ below_head k (omega arith) i s

  below_blank : (k : ℕ) → k ≤ most_processes → (x : ℕ) → k ≤ x → Blank (placed_below k xs m) x
  unfolding placed_below
  below_blank zero h x s a u i = clear x a u i
  below_blank (suc k) h x s a u i =
      placed_same (placed_below k xs m) k (get_or xs k 0) (below_length k (omega arith)) h x (λ e. omega arith) a u i
      ∙ below_blank k (omega arith) x (omega arith) a u i

  below_fresh : (k : ℕ) → k ≤ most_processes → (x : ℕ) → x < k → Fresh (placed_below k xs m) x (get_or xs x 0)
  unfolding placed_below
  below_fresh zero h x s = absurd (omega arith)
  below_fresh (suc k) h x s = go (ℕ_discrete x k) (below_fresh k (omega arith) x)
    where
      go : Dec (x ≡ k) → (x < k → Fresh (placed_below k xs m) x (get_or xs x 0)) → Fresh (placed (placed_below k xs m) k (get_or xs k 0)) x (get_or xs x 0)
      go (yes e) ih =
          subst (λ (j : ℕ). Fresh (placed (placed_below k xs m) k (get_or xs k 0)) j (get_or xs j 0)) (sym e)
          (placed_own (placed_below k xs m) k (get_or xs k 0) (below_length k (omega arith)) h (below_blank k (omega arith) k (omega arith)))
      go (no n) ih =
          let was = ih (omega arith) in
          let same = placed_same (placed_below k xs m) k (get_or xs k 0) (below_length k (omega arith)) h x n in
          record {
            value = same (Line x VALUE) refl (omega arith, lit< tt) ∙ was.value;
            round = same (Line x ROUND) refl (omega arith, lit< tt) ∙ was.round;
            reach = same (Line x REACH) refl (omega arith, lit< tt) ∙ was.reach;
            others = λ i u. same (Line x i) refl (omega arith, u.0) ∙ was.others i u;
            transit = λ r. same (Transit x r) refl (omega arith) ∙ was.transit r;
          }

-- ---- such words show a process that opens
module _ (m : Mem) (n x : ℕ) (v : ℕ → ℕ) (f : Fresh m x (v x)) where
  since_zero : get m (Line x SINCE) ≡ 0
  since_zero = f.others SINCE (omega arith)

  fresh_site : site_of m x ≡ (open_control n).site x
  unfolding open_control site_of
  fresh_site =
      rw (f.round, f.others SENT (omega arith), f.others HEARD (omega arith), f.reach)

  fresh_holding : holding_of m x ≡ (open_content v).holding x
  unfolding open_content holding_of opens choice
  fresh_holding =
      rw (f.value, f.others VOTED (omega arith), f.others DECIDED (omega arith))

  fresh_shows : ShowsProcess m (open_control n) (open_content v) x
  unfolding open_control
  fresh_shows =
      record {
        site = fresh_site;
        holding = fresh_holding;
        transit = λ r low high. f.transit r;
        mail = λ r q l. absurd (open_silent n x r q l);
        carried = λ r q l. absurd (open_silent n x r q l);
        past = rw since_zero (lit≤ tt);
        count = λ s. let small = index_small s in rw (f.others (COUNTS + index s) (omega arith), since_zero) (omega arith);
      }

-- ---- a memory of zeros: there is no process
pub blank_shown : (v : ℕ → ℕ) → Shown blank (open_control 0) (open_content v)
unfolding open_control
blank_shown v =
    record {
      long = blank_length;
      size = blank_zero (Head SIZE) (omega arith);
      events = blank_zero (Head EVENTS) (omega arith);
      each = λ p h. absurd (omega arith);
    }

-- ---- the opened memory
pub opened_shown : (n : ℕ) (xs : List ℕ) (v : ℕ → ℕ) → n ≤ most_processes → Given n xs v → Shown (opened n xs) (open_control n) (open_content v)
unfolding opened open_control
opened_shown n xs v few given =
    record {
      long = below_length xs headed headed_long clear n few;
      size = below_head xs headed headed_long clear n few SIZE (lit< tt) ∙ wrote blank heading (omega arith) 0 (lit< tt) blank_length (omega arith);
      events =
          below_head xs headed headed_long clear n few EVENTS (lit< tt)
          ∙ kept blank heading (omega arith) (Head EVENTS) (omega arith)
          ∙ blank_zero (Head EVENTS) (lit< tt);
      each = λ x h.
          fresh_shows (placed_below n xs headed) n x v
          (subst (λ (y : ℕ). Fresh (placed_below n xs headed) x y) (sym (given.each x h)) (below_fresh xs headed headed_long clear n few x h));
    }
  where
    heading : List Write
    heading = Head SIZE := n ∷ []

    headed : Mem
    headed = writes blank heading

    headed_long : length headed ≡ RUN
    headed_long = writes_length blank heading ∙ blank_length

    clear : (x : ℕ) → Blank headed x
    clear x a u i = head_only blank SIZE n (lit< tt) x a u i ∙ blank_zero a i
