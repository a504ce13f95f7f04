-- What the words show after an accepted step, in two changes of one process: what it holds, by the voting rule on what it heard; and its round,
-- with what is in transit for the round that ended gone. Assumes nothing.
use Prim.Native.Nat.{ℕ, suc, ◌+◌, ◌≤◌, ◌<◌}
use native.Mathlib.Omega.{arith}
use native.Mathlib.Decide.{ℕ_discrete}
use native.Mathlib.Numerals.{add-one}
use mathlib.Core.Path.{◌≡◌, refl, sym, ap, ◌∙◌}
use mathlib.Core.List.{List, [], ◌∷◌}
use lib.Dec.{lit<}
use borrow.Author.Tests.{le-ltb}
use Rattle.sets.specs.Sets.{empty, members}
use Rattle.std.specs.Prelude.{Option, Some, None}
use Rattle.voting.specs.declared.Holding.{Holding}
use Rattle.voting.specs.Voting.{rule}
use Rattle.rounds.specs.Limits.{window, last_round}
use Rattle.rounds.specs.Config.{Site, Control, Content, at}
use Rattle.rounds.specs.Stages.{index, tick}
use Rattle.rounds.specs.Events.{messages, heard_by, from, step_control, step_content}
use Rattle.rounds.specs.Allowed.{Steps}
use Rattle.rounds.specs.Claims.{Live}
use Rattle.rounds.specs.Claims.Live.{taken}
use Rattle.rounds.proofs.Updates.{at_same, at_other}
use Rattle.rounds.proofs.Live.{live_step}
use Rattle.rounds.proofs.Effects.{step_votes, step_reaches}
use Rattle.words.specs.Layout.{Mem, line, Line, Transit, Mail, get, Write, ◌:=◌, writes, VALUE, VOTED, VOTE, DECIDED, DECISION, ROUND, SENT, HEARD, REACH, SINCE, COUNTS}
use Rattle.words.specs.Spelled.{choice, flag_of, word_of, people, site_of, holding_of, message_of, carried_of}
use Rattle.words.specs.Calls.{begun, messages_below, reach_below, held, advanced, stepped}
use Rattle.words.specs.Shows.{ShowsProcess, Shown}
use Rattle.words.proofs.Places.{Inside, kept, wrote, round_place}
use Rattle.words.proofs.Frames.{index_small, holding_kept, site_kept, message_kept, carried_kept, changed}
use Rattle.words.proofs.Spelling.{round_word, reach_word, people_shown}
use Rattle.words.proofs.Fitting.{Fit, word_fits}
use Rattle.words.proofs.Settling.{tick_live, tick_fit, unstaged, begun_shows}

-- ---- what the process holds
choice_back : (v : Option ℕ) → choice (flag_of v) (word_of v) ≡ v
unfolding choice flag_of word_of
choice_back None = refl
choice_back (Some x) = refl

unfoldable holds : Content → ℕ → Holding → Content
holds d p h = record { holding = at d.holding p h; mail = d.mail }

module _ (m : Mem) (c : Control) (d : Content) (p : ℕ) (h : Holding) (f : Fit c) (hp : p < c.size) (k : Shown m c d) where
  unfoldable holdings : List Write
  holdings =
      Line p VALUE := h.value
      ∷ Line p VOTED := flag_of h.vote
      ∷ Line p VOTE := word_of h.vote
      ∷ Line p DECIDED := flag_of h.decision
      ∷ Line p DECISION := word_of h.decision
      ∷ []

  fine : Inside holdings
  unfolding holdings
  fine = let few = f.few in omega arith

  line_kept : (i : ℕ) → ROUND ≤ i → i < line → get (writes m holdings) (Line p i) ≡ get m (Line p i)
  unfolding holdings
  line_kept i low high = let few = f.few in kept m holdings fine (Line p i) (omega arith)

  own_held : ShowsProcess (writes m holdings) c (holds d p h) p
  unfolding holdings holds holding_of
  own_held =
      let few = f.few in
      let was = k.each p hp in
      record {
        site = site_kept m (writes m holdings) p (λ i low high. line_kept i low (omega arith)) ∙ was.site;
        holding =
            rw (
              wrote m holdings fine 0 (lit< tt) k.long (omega arith),
              wrote m holdings fine 1 (lit< tt) k.long (omega arith),
              wrote m holdings fine 2 (lit< tt) k.long (omega arith),
              wrote m holdings fine 3 (lit< tt) k.long (omega arith),
              wrote m holdings fine 4 (lit< tt) k.long (omega arith),
              choice_back h.vote,
              choice_back h.decision,
            )
            (sym (at_same d.holding p h));
        transit = λ r low high. kept m holdings fine (Transit p r) (omega arith) ∙ was.transit r low high;
        mail = λ r y l. let near = f.near p r y l in
            message_kept m (writes m holdings) p r y (λ i s. kept m holdings fine (Mail p r y i) (omega arith)) ∙ was.mail r y l;
        carried = λ r y l. let near = f.near p r y l in
            carried_kept m (writes m holdings) p r y (λ i s. kept m holdings fine (Mail p r y i) (omega arith)) ∙ was.carried r y l;
        past = rw (line_kept SINCE (omega arith) (omega arith)) was.past;
        count = λ s. let small = index_small s in
            rw (line_kept SINCE (omega arith) (omega arith), line_kept (COUNTS + index s) (omega arith) (omega arith)) (was.count s);
      }

  held_shows : Shown (held m p h) c (holds d p h)
  unfolding held holdings holds
  held_shows =
      changed m holdings c c d (holds d p h) p fine (refl, (refl, (refl, (refl, (refl, tt))))) f.few f.near refl refl
      (λ x n. record { site = refl; transit = refl; carried = refl; count = refl; holding = at_other d.holding p h x n; mail = refl })
      (λ l. own_held) k

  held_since : get m (Line p SINCE) ≡ c.events → get (held m p h) (Line p SINCE) ≡ c.events
  unfolding held holdings
  held_since e = line_kept SINCE (omega arith) (omega arith) ∙ e

-- ---- its round, and what is in transit
unfoldable advances : ℕ → ℕ → ℕ → List Write
advances p r reach =
    Transit p r := empty
    ∷ Line p ROUND := suc r
    ∷ Line p SENT := empty
    ∷ Line p HEARD := empty
    ∷ Line p REACH := reach
    ∷ []

-- p is settled; its reach becomes that of the round machine; nothing is in transit for the round that gets the place of the one that ends
module _ (m : Mem) (c : Control) (d : Content) (p : ℕ) (f : Fit (tick c)) (h : Steps c p) (top : (c.site p).round ≤ last_round)
    (beyond : c.transit p ((c.site p).round + window) ≡ empty) (now : get m (Line p SINCE) ≡ (tick c).events) (k : Shown m (tick c) d) where
  abbrev after : Control
  after = step_control (tick c) p

  abbrev reach : ℕ
  reach = (after.site p).reach

  abbrev advancing : List Write
  advancing = advances p (c.site p).round reach

  abbrev b : Mem
  b = writes m advancing

  advancing_fine : Inside advancing
  unfolding advances tick
  advancing_fine = let few = f.few in let who = h.who in omega arith

  own_site : after.site p ≡ record { round = suc (c.site p).round; sent = empty; heard = empty; reach = reach }
  unfolding step_control tick
  own_site =
      at_same c.site p _
      ∙ ap (λ (s : Site). record { round = suc (c.site p).round; sent = empty; heard = empty; reach = s.reach }) (sym (at_same c.site p _))

  old_live : (r y : ℕ) → Live after p r y → Live (tick c) p r y
  old_live r y l = tick_live c p r y (live_step c p p r y l)

  places : (r : ℕ) → suc (c.site p).round ≤ r → r < suc (c.site p).round + window → get b (Transit p r) ≡ from (suc (c.site p).round) (c.transit p) r
  unfolding advances from tick
  places r low high =
      let few = f.few in
      let who = h.who in
      rw (le-ltb r (suc (c.site p).round) low)
      (elim (ℕ_discrete r ((c.site p).round + window)) [
        | yes e ↦
            round_place b p r (c.site p).round (omega arith)
            ∙ wrote m advancing advancing_fine 0 (lit< tt) k.long (omega arith)
            ∙ sym beyond
            ∙ ap (c.transit p) (sym e)
        | no n ↦ kept m advancing advancing_fine (Transit p r) (omega arith) ∙ (k.each p h.who).transit r (omega arith) (omega arith)
      ])

  own_advanced : ShowsProcess b after d p
  unfolding advances step_control tick site_of
  own_advanced =
      let few = f.few in
      let who = h.who in
      let was = k.each p h.who in
      record {
        site =
            rw (
              wrote m advancing advancing_fine 1 (lit< tt) k.long (omega arith),
              wrote m advancing advancing_fine 2 (lit< tt) k.long (omega arith),
              wrote m advancing advancing_fine 3 (lit< tt) k.long (omega arith),
              wrote m advancing advancing_fine 4 (lit< tt) k.long (omega arith),
            )
            (sym own_site);
        holding = holding_kept m b p (λ i l. kept m advancing advancing_fine (Line p i) (omega arith)) ∙ was.holding;
        transit = λ r low high.
            rw (at_same c.transit p (from (suc (c.site p).round) (c.transit p))) (places r (rw own_site at low) (rw own_site at high));
        mail = λ r y l. let old = old_live r y l in let near = f.near p r y old in
            message_kept m b p r y (λ i s. kept m advancing advancing_fine (Mail p r y i) (omega arith)) ∙ was.mail r y old;
        carried = λ r y l. let old = old_live r y l in let near = f.near p r y old in
            carried_kept m b p r y (λ i s. kept m advancing advancing_fine (Mail p r y i) (omega arith)) ∙ was.carried r y old;
        past = rw (kept m advancing advancing_fine (Line p SINCE) (omega arith)) was.past;
        count = λ s. let small = index_small s in
            rw (kept m advancing advancing_fine (Line p SINCE) (omega arith), kept m advancing advancing_fine (Line p (COUNTS + index s)) (omega arith))
            (unstaged _ _ _ _ _ _ s now (was.count s));
      }

  advanced_words : advanced m p (c.site p).round reach ≡ b
  unfolding advanced advances
  advanced_words = rw (word_fits ((c.site p).round + 1) (omega arith), add-one (c.site p).round)

  advanced_shows : Shown (advanced m p (c.site p).round reach) after d
  unfolding advances step_control tick
  advanced_shows =
      rw advanced_words
      (changed m advancing (tick c) after d d p advancing_fine (refl, (refl, (refl, (refl, (refl, tt))))) f.few f.near refl refl
      (λ x n.
      record { site = at_other c.site p _ x n; transit = at_other c.transit p _ x n; carried = refl; count = refl; holding = refl; mail = refl })
      (λ l. own_advanced) k)

-- ---- an accepted step
module _ (m : Mem) (c : Control) (d : Content) (p : ℕ) (few : Fit c) (hp : p < c.size) (k : Shown m c d) where
  heard_shown : members (people m) (get m (Line p HEARD)) ≡ members c.size (c.site p).heard
  unfolding site_of
  heard_shown = rw (people_shown m c d k few.few, ap (λ (s : Site). s.heard) (k.each p hp).site)

  -- the rule on what the words say is the round machine's step
  holding_shown : rule (get m (Line p ROUND)) (holding_of m p) (messages_below (people m) m p)
      ≡ rule (c.site p).round (d.holding p) (messages (heard_by c p) (d.mail p (c.site p).round))
  unfolding messages_below step_content
  holding_shown =
      let own = k.each p hp in
      rw (round_word m c d k p hp, own.holding, heard_shown)
      (sym (step_votes c d p (message_of m p (c.site p).round) (λ q t. sym (own.mail (c.site p).round q (taken refl t))))
      ∙ at_same d.holding p _)

  reach_shown : reach_below (people m) m p ≡ ((step_control (tick c) p).site p).reach
  unfolding reach_below
  reach_shown =
      let own = k.each p hp in
      rw (round_word m c d k p hp, reach_word m c d k p hp, heard_shown)
      (sym (step_reaches c d p (carried_of m p (c.site p).round) (λ q t. sym (own.carried (c.site p).round q (taken refl t)))))

pub stepped_shows : (m : Mem) (c : Control) (d : Content) (p : ℕ) → Fit c → (c.site p).round ≤ last_round
    → c.transit p ((c.site p).round + window) ≡ empty → Steps c p → Shown m c d
    → Shown (stepped m p) (step_control (tick c) p) (step_content c d p)
unfolding stepped step_content holds tick
stepped_shows m c d p f top beyond h k =
    let g = tick_fit c h.room f in
    let b = begun_shows m c d p f h.room h.who k in
    let next = rule (c.site p).round (d.holding p) (messages (heard_by c p) (d.mail p (c.site p).round)) in
    rw (holding_shown m c d p f h.who k, round_word m c d k p h.who, reach_shown m c d p f h.who k)
    (advanced_shows (held (begun m p) p next) c (holds d p next) p g h top beyond
    (held_since (begun m p) (tick c) d p next g h.who b.0 b.1)
    (held_shows (begun m p) (tick c) d p next g h.who b.0))
