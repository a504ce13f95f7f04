-- The second change of a send whose message is kept: it is put in the receiver's mail, for its round, with a reach and what it says. Only the
-- receiver's words change. Assumes nothing.
use Prim.Native.Nat.{ℕ, ◌+◌, ◌%◌, ◌≤◌, ◌<◌}
use native.Mathlib.Omega.{arith}
use mathlib.Core.Path.{◌≡◌, refl, ◌∙◌}
use mathlib.Core.Logic.{◌⊎◌, inl, inr, ⊎_elim}
use mathlib.Core.Bool.{true}
use mathlib.Core.List.{List, [], ◌∷◌}
use lib.Dec.{lit<}
use Rattle.sets.specs.Sets.{has, with}
use Rattle.sets.proofs.Membership.{with_cases}
use Rattle.voting.specs.declared.Message.{Message}
use Rattle.rounds.specs.Limits.{most_processes, window}
use Rattle.rounds.specs.Config.{Control, Content, at₂, at₃, at}
use Rattle.rounds.specs.Stages.{index}
use Rattle.rounds.specs.Claims.{Live}
use Rattle.rounds.specs.Claims.Live.{waiting, taken}
use Rattle.rounds.proofs.Updates.{at_each, at_same, at_other, at₂_one}
use Rattle.words.specs.Layout.{Mem, line, letter, Line, Transit, Mail, get, Write, ◌:=◌, writes, VALUE, VOTED, VOTE, SINCE, COUNTS, CARRIED}
use Rattle.words.specs.Spelled.{choice, message_of, carried_of}
use Rattle.words.specs.Shows.{ShowsProcess, Shown}
use Rattle.words.proofs.Places.{Inside, kept, wrote}
use Rattle.words.proofs.Frames.{index_small, holding_kept, site_kept, message_kept, carried_kept, changed}
use Rattle.words.proofs.Fitting.{Fit}
use Rattle.words.proofs.Settling.{unstaged}

unfoldable pub posts : Control → ℕ → ℕ → ℕ → ℕ → Control
posts c p q r reach =
    record {
      size = c.size;
      events = c.events;
      site = c.site;
      transit = at₂ c.transit q r (with (c.transit q r) p);
      carried = at₃ c.carried q r p reach;
      count = c.count;
    }

unfoldable pub mails : Content → ℕ → ℕ → ℕ → Message → Content
mails d p q r say = record { holding = d.holding; mail = at₃ d.mail q r p say }

-- its words, where these senders are in transit already
unfoldable pub postings : ℕ → ℕ → ℕ → ℕ → ℕ → ℕ → ℕ → ℕ → List Write
postings senders p q r value voted vote reach =
    Transit q r := with senders p
    ∷ Mail q r p VALUE := value
    ∷ Mail q r p VOTED := voted
    ∷ Mail q r p VOTE := vote
    ∷ Mail q r p CARRIED := reach
    ∷ []

module _ (c : Control) (p q r reach : ℕ) where
  -- what is live was so before, or is this message
  posts_live : (x s y : ℕ) → Live (posts c p q r reach) x s y → Live c x s y ⊎ ((x ≡ q) × (s ≡ r) × (y ≡ p))
  unfolding posts
  posts_live x s y (waiting t) =
      at₂_one (λ x s S. (y : ℕ) → has S y ≡ true → Live c x s y ⊎ ((x ≡ q) × (s ≡ r) × (y ≡ p))) c.transit q r _
      (λ y t. ⊎_elim (λ old. inl (waiting old)) (λ new. inr (refl, refl, new)) (with_cases _ p y t))
      (λ x s y t. inl (waiting t)) x s y t
  posts_live x s y (taken e t) = inl (taken e t)

module _ (m : Mem) (c : Control) (d : Content) (p q r reach value voted vote : ℕ) (f : Fit c) (hp : p < most_processes) (hq : q < c.size)
    (low : (c.site q).round ≤ r) (high : r < (c.site q).round + window) (now : get m (Line q SINCE) ≡ c.events) (k : Shown m c d) where
  abbrev posting : List Write
  posting = postings (c.transit q r) p q r value voted vote reach

  abbrev say : Message
  say = record { value = value; vote = choice voted vote }

  abbrev after : Control
  after = posts c p q r reach

  posting_fine : Inside posting
  unfolding postings
  posting_fine = let few = f.few in omega arith

  posts_near : (s y : ℕ) → Live after q s y → (y < most_processes) × ((c.site q).round ≤ s) × (s < (c.site q).round + window)
  posts_near s y l = ⊎_elim (f.near q s y) (λ e. let u = e.1 in let w = e.2 in (omega arith, omega arith, omega arith)) (posts_live c p q r reach q s y l)

  -- another message of the receiver's
  old_live : (s y : ℕ) → ((s ≡ r) × (y ≡ p) → ⊥) → Live after q s y → Live c q s y
  old_live s y n l = ⊎_elim (λ old. old) (λ e. absurd (n (e.1, e.2))) (posts_live c p q r reach q s y l)

  line_kept : (i : ℕ) → i < line → get (writes m posting) (Line q i) ≡ get m (Line q i)
  unfolding postings
  line_kept i h = let few = f.few in kept m posting posting_fine (Line q i) (omega arith)

  letter_kept : (s y : ℕ) → ((s ≡ r) × (y ≡ p) → ⊥) → Live after q s y → (i : ℕ) → i < letter
      → get (writes m posting) (Mail q s y i) ≡ get m (Mail q s y i)
  unfolding postings
  letter_kept s y n l i h =
      let few = f.few in
      let near = posts_near s y l in
      kept m posting posting_fine (Mail q s y i) (tt, (other, (other, (other, (other, (omega arith, omega arith, h))))))
    where
      other : {i j : ℕ} → q ≡ q → s % window ≡ r % window → y ≡ p → i ≡ j → ⊥
      other a b e g = let near = posts_near s y l in n (omega arith, e)

  new_message : message_of (writes m posting) q r p ≡ say
  unfolding postings message_of
  new_message =
      let few = f.few in
      rw (
        wrote m posting posting_fine 1 (lit< tt) k.long (omega arith),
        wrote m posting posting_fine 2 (lit< tt) k.long (omega arith),
        wrote m posting posting_fine 3 (lit< tt) k.long (omega arith),
      )

  new_reach : carried_of (writes m posting) q r p ≡ reach
  unfolding postings carried_of
  new_reach = let few = f.few in wrote m posting posting_fine 4 (lit< tt) k.long (omega arith)

  places : (s : ℕ) → (c.site q).round ≤ s → s < (c.site q).round + window
      → get (writes m posting) (Transit q s) ≡ at (c.transit q) r (with (c.transit q r) p) s
  unfolding postings
  places =
      at_each (λ s v. (c.site q).round ≤ s → s < (c.site q).round + window → get (writes m posting) (Transit q s) ≡ v) (c.transit q) r _
      (λ lo hi. let few = f.few in wrote m posting posting_fine 0 (lit< tt) k.long (omega arith))
      (λ s n lo hi. let few = f.few in kept m posting posting_fine (Transit q s) (omega arith) ∙ (k.each q hq).transit s lo hi)

  letters : (s y : ℕ) → Live after q s y → message_of (writes m posting) q s y ≡ at₂ (d.mail q) r p say s y
  unfolding at₂
  letters =
      at_each (λ s F. (y : ℕ) → Live after q s y → message_of (writes m posting) q s y ≡ F y) (d.mail q) r _
      (at_each (λ y v. Live after q r y → message_of (writes m posting) q r y ≡ v) (d.mail q r) p _
      (λ l. new_message)
      (λ y n l. old r y (λ e. n e.1) l))
      (λ s n y l. old s y (λ e. n e.0) l)
    where
      old : (s y : ℕ) → ((s ≡ r) × (y ≡ p) → ⊥) → Live after q s y → message_of (writes m posting) q s y ≡ d.mail q s y
      old s y n l = message_kept m (writes m posting) q s y (letter_kept s y n l) ∙ (k.each q hq).mail s y (old_live s y n l)

  reaches : (s y : ℕ) → Live after q s y → carried_of (writes m posting) q s y ≡ at₂ (c.carried q) r p reach s y
  unfolding at₂
  reaches =
      at_each (λ s F. (y : ℕ) → Live after q s y → carried_of (writes m posting) q s y ≡ F y) (c.carried q) r _
      (at_each (λ y v. Live after q r y → carried_of (writes m posting) q r y ≡ v) (c.carried q r) p _
      (λ l. new_reach)
      (λ y n l. old r y (λ e. n e.1) l))
      (λ s n y l. old s y (λ e. n e.0) l)
    where
      old : (s y : ℕ) → ((s ≡ r) × (y ≡ p) → ⊥) → Live after q s y → carried_of (writes m posting) q s y ≡ c.carried q s y
      old s y n l = carried_kept m (writes m posting) q s y (letter_kept s y n l) ∙ (k.each q hq).carried s y (old_live s y n l)

  own_posted : ShowsProcess (writes m posting) after (mails d p q r say) q
  unfolding posts mails at₂ at₃
  own_posted =
      let few = f.few in
      let was = k.each q hq in
      record {
        site = site_kept m (writes m posting) q (λ i lo hi. line_kept i (omega arith)) ∙ was.site;
        holding = holding_kept m (writes m posting) q (λ i h. line_kept i (omega arith)) ∙ was.holding;
        transit = λ s lo hi. rw (at_same c.transit q (at (c.transit q) r (with (c.transit q r) p))) (places s lo hi);
        mail = λ s y l. rw (at_same d.mail q (at₂ (d.mail q) r p say)) (letters s y l);
        carried = λ s y l. rw (at_same c.carried q (at₂ (c.carried q) r p reach)) (reaches s y l);
        past = rw (line_kept SINCE (lit< tt)) was.past;
        count = λ s. let small = index_small s in
            rw (line_kept SINCE (lit< tt), line_kept (COUNTS + index s) (omega arith)) (unstaged _ _ _ _ _ _ s now (was.count s));
      }

  pub post_shows : Shown (writes m posting) after (mails d p q r say)
  unfolding postings posts mails at₂ at₃
  post_shows =
      changed m posting c after d (mails d p q r say) q posting_fine (refl, (refl, (refl, (refl, (refl, tt))))) f.few f.near refl refl
      (λ x n.
      record {
        site = refl;
        transit = at_other c.transit q _ x n;
        carried = at_other c.carried q _ x n;
        count = refl;
        holding = refl;
        mail = at_other d.mail q _ x n;
      })
      (λ h. own_posted) k
