-- What the words show after an accepted send: the sender's set gains the receiver and, where the message is kept, it is put in the receiver's mail.
-- Assumes nothing.
use Prim.Native.Nat.{ℕ, ◌+◌, ◌≤◌, ◌<◌}
use native.Mathlib.Omega.{arith}
use mathlib.Core.Path.{◌≡◌, refl, ap, ◌∙◌}
use mathlib.Core.Bool.{Bool, true, false, cond}
use Rattle.voting.specs.Voting.{message}
use Rattle.rounds.specs.Limits.{window}
use Rattle.rounds.specs.Config.{Control, Content}
use Rattle.rounds.specs.Stages.{tick}
use Rattle.rounds.specs.Verdicts.{ahead}
use Rattle.rounds.specs.Events.{timely, send_control, send_content}
use Rattle.rounds.specs.Allowed.{Sends}
use Rattle.rounds.proofs.Limits.{timely_lead}
use Rattle.words.specs.declared.Fate.TheVariants.{Discarded, Kept, Refused}
use Rattle.words.specs.Layout.{Mem, Line, get, writes, VALUE, VOTED, VOTE, ROUND, SINCE}
use Rattle.words.specs.Spelled.{choice, holding_of}
use Rattle.words.specs.Calls.{settled, begun, fate, marked, posted, delivered, sent}
use Rattle.words.specs.Shows.{Shown}
use Rattle.words.proofs.Marking.{marks, marks_round, marks_reach, marks_fit, mark_shows, mark_since}
use Rattle.words.proofs.Posting.{posts, mails, postings, post_shows}
use Rattle.words.proofs.Spelling.{round_word, reach_word}
use Rattle.words.proofs.Fitting.{Fit}
use Rattle.words.proofs.Settling.{tick_fit, settled_shows, settled_since, since_stays, begun_shows}

module _ (c : Control) (d : Content) (p q : ℕ) where
  -- the two changes are the round machine's send
  send_kept : timely (c.site p).round (c.site q).round ≡ true
      → (send_control c p q ≡ posts (marks c p q) p q (c.site p).round (c.site p).reach)
      × (send_content c d p q ≡ mails d p q (c.site p).round (message (d.holding p)))
  unfolding send_control send_content marks posts mails
  send_kept e = (rw e, rw e)

  send_late : timely (c.site p).round (c.site q).round ≡ false → (send_control c p q ≡ marks c p q) × (send_content c d p q ≡ d)
  unfolding send_control send_content marks
  send_late e = (rw e, rw e)

-- p and q are settled
module _ (m : Mem) (c : Control) (d : Content) (p q : ℕ) (f : Fit c) (hp : p < c.size) (hq : q < c.size) (now : get m (Line p SINCE) ≡ c.events)
    (then : get m (Line q SINCE) ≡ c.events) (k : Shown m c d) where
  abbrev marked_shows : Shown (marked m p q) (marks c p q) d
  marked_shows = mark_shows m c d p q f hp now k

  -- where the message is kept: what p has now is what the message says
  module _ (e : timely (c.site p).round (c.site q).round ≡ true) where
    abbrev b : Mem
    b = marked m p q

    lead : ((c.site q).round ≤ (c.site p).round) × ((c.site p).round < (c.site q).round + window)
    lead = timely_lead (c.site p).round (c.site q).round e

    low : ((marks c p q).site q).round ≤ (c.site p).round
    low = rw (marks_round c p q q) lead.0

    high : (c.site p).round < ((marks c p q).site q).round + window
    high = rw (marks_round c p q q) lead.1

    posted_words : posted b p q
        ≡ writes b
        (postings (c.transit q (c.site p).round) p q (c.site p).round (get b (Line p VALUE)) (get b (Line p VOTED)) (get b (Line p VOTE)) (c.site p).reach)
    unfolding posted postings marks
    posted_words =
        rw (
          round_word b (marks c p q) d marked_shows p hp ∙ marks_round c p q p,
          (marked_shows.each q hq).transit (c.site p).round low high,
          reach_word b (marks c p q) d marked_shows p hp ∙ marks_reach c p q p,
        )

    said : record { value = get b (Line p VALUE); vote = choice (get b (Line p VOTED)) (get b (Line p VOTE)) } ≡ message (d.holding p)
    unfolding message holding_of marks
    said = ap message (marked_shows.each p hp).holding

    posted_shows : Shown (posted b p q) (send_control c p q) (send_content c d p q)
    unfolding marks
    posted_shows =
        let few = f.few in
        rw (posted_words, (send_kept c d p q e).0, (send_kept c d p q e).1, ← said)
        (post_shows b (marks c p q) d p q (c.site p).round (c.site p).reach _ _ _ (marks_fit c p q f) (omega arith) hq low high
        (mark_since m c d p q f hp now k q hq then) marked_shows)

  late_shows : timely (c.site p).round (c.site q).round ≡ false → Shown (marked m p q) (send_control c p q) (send_content c d p q)
  late_shows e = rw ((send_late c d p q e).0, (send_late c d p q e).1) marked_shows

-- ---- an accepted send
kept_is : (r s : ℕ) → timely r s ≡ true → fate r s ≡ Kept
unfolding fate
kept_is r s e = rw e

late_stays : (r s : ℕ) → timely r s ≡ false → (m : Mem) (p q : ℕ) → delivered (fate r s) m p q ≡ m
unfolding fate delivered
late_stays r s e m p q = rw e (go (ahead r s))
  where
    go : (b : Bool) → delivered (cond b Refused Discarded) m p q ≡ m
    go true = refl
    go false = refl

pub sent_shows : (m : Mem) (c : Control) (d : Content) (p q : ℕ) → Fit c → Sends c p q → Shown m c d
    → Shown (sent m p q) (send_control (tick c) p q) (send_content c d p q)
unfolding sent tick send_content delivered
sent_shows m c d p q f h k =
    let g = tick_fit c h.room f in
    let b = begun_shows m c d p f h.room h.from k in
    let s = settled_shows (begun m p) (tick c) d q g h.to b.0 in
    go g s
    (since_stays (begun m p) (tick c) d q g h.to b.0 p h.from b.1)
    (settled_since (begun m p) (tick c) d q g h.to b.0)
    (timely (c.site p).round (c.site q).round) refl
  where
    settled_both : Mem
    settled_both = settled (begun m p) q

    go : Fit (tick c) → Shown settled_both (tick c) d → get settled_both (Line p SINCE) ≡ (tick c).events → get settled_both (Line q SINCE) ≡ (tick c).events
        → (t : Bool) → timely (c.site p).round (c.site q).round ≡ t
        → Shown (delivered (fate (get m (Line p ROUND)) (get m (Line q ROUND))) (marked settled_both p q) p q)
        (send_control (tick c) p q) (send_content (tick c) d p q)
    go g s now then true e =
        rw (round_word m c d k p h.from, round_word m c d k q h.to, kept_is _ _ e)
        (posted_shows settled_both (tick c) d p q g h.from h.to now then s e)
    go g s now then false e =
        rw (round_word m c d k p h.from, round_word m c d k q h.to, late_stays _ _ e (marked settled_both p q) p q)
        (late_shows settled_both (tick c) d p q g h.from h.to now then s e)
