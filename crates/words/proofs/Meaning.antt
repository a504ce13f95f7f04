-- The front page of the memory: what each call means. Where the memory shows a configuration of the abstract round machine, every event is answered
-- as that machine answers it, and the memory then shows its next configuration; an opening shows the opened one; what is read is what it holds.
-- Assumes nothing.
use Prim.Native.Nat.{ℕ, zero, suc, ◌≤◌, ◌<◌}
use native.Mathlib.Omega.{arith}
use mathlib.Core.Path.{◌≡◌, refl, sym, ◌∙◌, subst}
use mathlib.Core.Bool.{Bool, true, false, cond}
use mathlib.Core.List.{List, [], ◌++◌}
use lib.ListN.{length}
use Rattle.rounds.specs.declared.Event.{Event}
use Rattle.rounds.specs.declared.Event.TheVariants.{Send, Receive, Step, Broadcast}
use Rattle.rounds.specs.Verdicts.{Verdict}
use Rattle.rounds.specs.Verdicts.{Accepted}
use Rattle.rounds.specs.Limits.{most_processes}
use Rattle.rounds.specs.Config.{Control, Content, Config, open_control, opening, no_run}
use Rattle.rounds.specs.Verdicts.{accepted, open_verdict, verdict}
use Rattle.rounds.specs.Events.{sends_control, sends_content, next_control, next_content, if_accepted, apply}
use Rattle.rounds.specs.Runs.{Report, told}
use Rattle.rounds.specs.Allowed.{Broadcasts, Allowed}
use Rattle.rounds.specs.Course.{FromOpening}
use Rattle.rounds.specs.Course.Course.{stays}
use Rattle.rounds.proofs.Answers.{allowed, accepted_is, opens_right}
use Rattle.rounds.proofs.Broadcasts.{sends_size, each_sends}
use Rattle.rounds.proofs.MadeOfThree.{sends_course, apply_course}
use Rattle.rounds.proofs.Limits.{size_stays}
use Rattle.rounds.proofs.InTurn.{apply_accepted, apply_refused}
use Rattle.std.specs.Prelude.{Result}
use Rattle.rounds.specs.declared.Refusal.{Refusal}
use Rattle.words.specs.declared.Finished.{Finished}
use Rattle.words.specs.Calls.{Answer, judged, stepping}
use Rattle.words.specs.declared.Standing.{Standing}
use Rattle.words.specs.Layout.{Mem}
use Rattle.words.specs.Spelled.{control_of}
use Rattle.words.specs.Calls.{blank, opened, begins, sent_below, done, applied, answer}
use Rattle.words.specs.Exact.{Cleared, Begun, Tried, Stepped, Answered, SizeRead, EventsRead, SiteRead}
use Rattle.words.specs.Shows.{Shown, Shows, Meant, Given, standing}
use Rattle.words.proofs.Spelling.{people_shown}
use Rattle.words.proofs.Sending.{sent_shows}
use Rattle.words.proofs.Receiving.{received_shows}
use Rattle.words.proofs.Stepping.{stepped_shows}
use Rattle.words.proofs.Fitting.{fit, round_top, beyond_empty}
use Rattle.words.proofs.Answering.{verdict_shown, answer_shown}
use Rattle.words.proofs.Opening.{blank_shown, opened_shown}
use Rattle.words.proofs.Reading.{size_means, events_means, site_means}

-- ---- an accepted event
module _ (m : Mem) (c : Control) (d : Content) (v : ℕ → ℕ) {rs : List Report} (l : FromOpening c.size v c d rs) (few : c.size ≤ most_processes)
    (k : Shown m c d) where
  -- the sends of a broadcast, one after the other
  sends_shown : (p : ℕ) → Broadcasts c p → (n : ℕ) → n ≤ c.size → Shown (sent_below n m p) (sends_control n c p) (sends_content n c d p)
  unfolding sent_below sends_control sends_content
  sends_shown p b zero h = k
  sends_shown p b (suc n) h =
      sent_shows (sent_below n m p) (sends_control n c p) (sends_content n c d p) p n
      (fit c.size v (sends_course l p b n (omega arith)) (let size = sends_size n c p in omega arith))
      (each_sends c p b n h) (sends_shown p b n (omega arith))

  done_shown : (e : Event) → Allowed c e → Shown (done m e) (next_control c e) (next_content c d e)
  unfolding done next_control next_content
  done_shown (Send p q) h = sent_shows m c d p q (fit c.size v l few) h k
  done_shown (Receive p q) h = received_shows m c d p q (fit c.size v l few) h k
  done_shown (Step p) h = stepped_shows m c d p (fit c.size v l few) (round_top c.size v l p) (beyond_empty c.size v l p) h k
  done_shown (Broadcast p) h = rw (people_shown m c d k few) (sends_shown p h c.size (omega arith))

-- ---- any event
applied_shown : (m : Mem) (c : Config) (e : Event) → Shows m c → Shown (applied m e) (apply c e).control (apply c e).content
unfolding applied if_accepted
applied_shown m c e k = rw (verdict_shown m c.control c.content k.few k.shown e) (go (accepted (verdict c.control e)) refl)
  where
    go : (b : Bool) → accepted (verdict c.control e) ≡ b → Shown (cond b (done m e) m) (apply c e).control (apply c e).content
    go true a =
        rw (apply_accepted c e a) (done_shown m c.control c.content k.values k.course k.few k.shown e (allowed c.control e a))
    go false a = rw (apply_refused c e a) k.shown

-- the number of processes stays
apply_size : (n : ℕ) (v : ℕ → ℕ) (c : Config) (e : Event) {rs : List Report} → FromOpening n v c.control c.content rs → (apply c e).control.size ≡ n
unfolding apply open_control
apply_size n v c e l = size_stays (apply_course l e)

pub shows_next : (m : Mem) (c : Config) (e : Event) → Shows m c → Shows (applied m e) (apply c e)
unfolding apply
shows_next m c e k =
    let n = c.control.size in
    let size = apply_size n k.values c e k.course in
    let more = k.reports ++ if_accepted (verdict c.control e) (told c.control e) [] in
    record {
      values = k.values;
      reports = more;
      course = subst (λ (i : ℕ). FromOpening i k.values (apply c e).control (apply c e).content more) (sym size) (apply_course k.course e);
      few = rw size k.few;
      shown = applied_shown m c e k;
    }

pub means : (m : Mem) (c : Config) (e : Event) → Shows m c → Meant (answer (control_of m) e) (applied m e) c e
means m c e k =
    record {
      answered = answer_shown m c.control c.content k.few k.shown e;
      shows = shows_next m c e k;
    }

-- ---- an opening
pub opening_shows : (n : ℕ) (xs : List ℕ) (v : ℕ → ℕ) → n ≤ most_processes → Given n xs v → Shows (opened n xs) (opening n v)
unfolding opening open_control
opening_shows n xs v few given = record { values = v; reports = []; course = stays; few = few; shown = opened_shown n xs v few given }

pub begin_means : (m : Mem) (n : ℕ) (xs : List ℕ) (v : ℕ → ℕ) → open_verdict n (length xs) ≡ Accepted → Given n xs v
    → Shows (begins m n xs) (opening n v)
unfolding begins if_accepted
begin_means m n xs v a given =
    let ok = accepted_is (open_verdict n (length xs)) a in
    rw ok (opening_shows n xs v (opens_right n (length xs) ok).most given)

-- ---- where no run is: every word is 0
pub blank_shows : Shows blank no_run
unfolding no_run opening open_control
blank_shows = record { values = λ p. 0; reports = []; course = stays; few = omega arith; shown = blank_shown (λ p. 0) }

-- ---- a refusal leaves every word as it was, whatever the memory holds; an accepted opening leaves none
pub refused_unchanged : (m : Mem) (e : Event) → accepted (verdict (control_of m) e) ≡ false → applied m e ≡ m
unfolding applied if_accepted
refused_unchanged m e a = rw a

pub begin_refused : (m : Mem) (n : ℕ) (xs : List ℕ) → accepted (open_verdict n (length xs)) ≡ false → begins m n xs ≡ m
unfolding begins if_accepted
begin_refused m n xs a = rw a

pub begin_anew : (m b : Mem) (n : ℕ) (xs : List ℕ) → accepted (open_verdict n (length xs)) ≡ true → begins m n xs ≡ begins b n xs
unfolding begins if_accepted
begin_anew m b n xs a = rw a

-- ---- the promises of the calls: what is exact, and with it what that means
-- a call that answers with a verdict
pub judged_meant : (m : Mem) (e : Event) → answer (control_of m) e ≡ judged (verdict (control_of m) e) → {r : Verdict} {b : Mem}
    → Tried m e r b → Tried m e r b × ((c : Config) → Shows m c → Meant (judged r) b c e)
judged_meant m e plain x = (x, λ c k. rw (x.0, x.1, ← plain) (means m c e k))

-- a step, with its own answer
pub stepped_meant : (m : Mem) (p : ℕ) {r : Result Finished Refusal} {b : Mem} → Stepped m p r b
    → Stepped m p r b × ((c : Config) → Shows m c → Meant (stepping r) b c (Step p))
unfolding answer
stepped_meant m p x = (x, λ c k. rw (x.0, x.1) (means m c (Step p) k))

-- a call that answers with an answer
pub answered_meant : (m : Mem) (e : Event) {a : Answer} {b : Mem} → Answered m e a b
    → Answered m e a b × ((c : Config) → Shows m c → Meant a b c e)
answered_meant m e x = (x, λ c k. rw (x.0, x.1) (means m c e k))

pub begin_meant : (m : Mem) (n : ℕ) (xs : List ℕ) {r : Verdict} {b : Mem} → Begun m n xs r b
    → Begun m n xs r b × (r ≡ Accepted → (v : ℕ → ℕ) → Given n xs v → Shows b (opening n v))
begin_meant m n xs x = (x, λ a v given. rw x.1 (begin_means m n xs v (sym x.0 ∙ a) given))

pub clear_meant : {b : Mem} → Cleared b → Cleared b × Shows b no_run
clear_meant x = (x, rw x blank_shows)

pub size_meant : (m : Mem) {r : ℕ} → SizeRead m r → SizeRead m r × ((c : Config) → Shows m c → r ≡ c.control.size)
size_meant m x = (x, λ c k. x ∙ size_means m c k)

pub events_meant : (m : Mem) {r : ℕ} → EventsRead m r → EventsRead m r × ((c : Config) → Shows m c → r ≡ c.control.events)
events_meant m x = (x, λ c k. x ∙ events_means m c k)

pub site_meant : (m : Mem) (p : ℕ) {r : Standing} → SiteRead m p r
    → SiteRead m p r × ((c : Config) → Shows m c → p < c.control.size → r ≡ standing c p)
site_meant m p x = (x, λ c k h. x ∙ site_means m c k p h)
