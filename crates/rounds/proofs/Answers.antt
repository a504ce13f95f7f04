-- What a verdict tells: an event is accepted exactly when the round machine allows it.
-- Assumes nothing.
use Prim.Native.Nat.{ℕ, zero, suc, ◌+◌, ◌≤◌, ◌<◌}
use native.Mathlib.Omega.{arith}
use native.Mathlib.Decide.{ℕ_discrete}
use mathlib.Core.Path.{◌≡◌, refl, sym, ap, ◌∙◌}
use mathlib.Core.Bool.{Bool, true, false, cond, ◌||◌, not, true≢false, false≢true}
use lib.Dec.{eqb, ltb}
use borrow.Author.Tests.{eqb-true, eqb-false, ltb-false, leb-false, not-false, le-ltb, lt-leb, eq-eqb, ne_eqb}
use Rattle.rounds.specs.declared.Event.{Event}
use Rattle.rounds.specs.declared.Event.TheVariants.{Send, Receive, Step, Broadcast}
use Rattle.std.specs.Prelude.{Result, Ok, Err, IsErrAnd}
use Rattle.rounds.specs.declared.Refusal.{Refusal}
use Rattle.rounds.specs.Verdicts.{Verdict, Accepted}
use Rattle.rounds.specs.declared.Refusal.TheVariants.{BadSize, NoProcess, AlreadySent, TooFarAhead, NothingInTransit, NotSentToAll, LastRound, TooManyEvents, WrongCount}
use Rattle.rounds.specs.Limits.{most_processes, most_events}
use Rattle.rounds.specs.Config.{Control}
use Rattle.rounds.specs.Stages.{sent_to_all}
use Rattle.rounds.specs.Verdicts.{refusal_number, number_of, accepted, refuse, open_verdict, outside, crowded, ahead, send_verdict, receive_verdict, step_verdict, first_refusal, verdict}
use Rattle.rounds.specs.Allowed.{Opens, MaySend, Allowed}

-- ---- verdicts
pub is_accepted : (v : Verdict) → accepted v ≡ true → v ≡ Accepted
unfolding accepted
is_accepted (Ok u) e = refl
is_accepted (Err r) e = absurd (false≢true e)

-- an error that `?` hands on is the error
pub handed_on : {A E : Type 0} {v : Result A E} {r : E} → IsErrAnd v (λ e. e ≡ r) → v ≡ Err r
handed_on {v = Ok u} h = absurd h
handed_on {v = Err s} h = ap Err h

-- no refusal has the number 0
pub refusal_some : (r : Refusal) → refusal_number r ≡ 0 → ⊥
unfolding refusal_number
refusal_some BadSize e = omega arith
refusal_some NoProcess e = omega arith
refusal_some AlreadySent e = omega arith
refusal_some TooFarAhead e = omega arith
refusal_some NothingInTransit e = omega arith
refusal_some NotSentToAll e = omega arith
refusal_some LastRound e = omega arith
refusal_some TooManyEvents e = omega arith
refusal_some WrongCount e = omega arith

-- so the number tells what is accepted
pub number_accepted : (v : Verdict) → number_of v ≡ 0 → v ≡ Accepted
unfolding number_of
number_accepted (Ok u) e = refl
number_accepted (Err r) e = absurd (refusal_some r e)

pub accepted_is : (v : Verdict) → v ≡ Accepted → accepted v ≡ true
unfolding accepted
accepted_is v e = rw e

pub refused_is : (v : Verdict) → (v ≡ Accepted → ⊥) → accepted v ≡ false
refused_is v r = go (accepted v) refl
  where
    go : (b : Bool) → accepted v ≡ b → accepted v ≡ false
    go true e = absurd (r (is_accepted v e))
    go false e = e

-- ---- tests, one after the other
-- what is accepted has passed its first test, and the rest is accepted
passed : (b : Bool) (r : Refusal) (rest : Verdict) → accepted (refuse b r rest) ≡ true → (b ≡ false) × (accepted rest ≡ true)
unfolding refuse accepted
passed true r rest y = absurd (false≢true y)
passed false r rest y = (refl, y)

pass : (b : Bool) (r : Refusal) (rest : Verdict) → b ≡ false → refuse b r rest ≡ rest
unfolding refuse
pass b r rest e = rw e

pub neither : (a b : Bool) → (a || b) ≡ false → (a ≡ false) × (b ≡ false)
neither true b e = absurd (true≢false e)
neither false b e = (refl, e)

or_neither : (a b : Bool) → a ≡ false → b ≡ false → (a || b) ≡ false
or_neither true b e f = e
or_neither false b e f = f

pub inside : (c : Control) (p : ℕ) → outside c p ≡ false → p < c.size
unfolding outside
inside c p e = leb-false c.size p e

within : (c : Control) (p : ℕ) → p < c.size → outside c p ≡ false
unfolding outside
within c p h = lt-leb c.size p h

roomy : (c : Control) (k : ℕ) → crowded c k ≡ false → c.events + k ≤ most_events
unfolding crowded
roomy c k e = ltb-false most_events (c.events + k) e

room : (c : Control) (k : ℕ) → c.events + k ≤ most_events → crowded c k ≡ false
unfolding crowded
room c k h = le-ltb most_events (c.events + k) h

-- ---- an opening
pub opens_right : (n given : ℕ) → accepted (open_verdict n given) ≡ true → Opens n given
unfolding open_verdict accepted
opens_right n given e =
    let a = passed _ BadSize _ e in
    let b = passed _ WrongCount _ a.1 in
    let o = neither (eqb n 0) (ltb most_processes n) a.0 in
    record {
      some = omega (arith, eqb-false n 0 o.0);
      most = ltb-false most_processes n o.1;
      each = eqb-true given n (not-false _ b.0);
    }

pub right_opens : (n given : ℕ) → Opens n given → open_verdict n given ≡ Accepted
unfolding open_verdict
right_opens n given h =
    let some = h.some in
    pass _ BadSize _ (or_neither _ _ (ne_eqb n 0 (λ e. omega arith)) (le-ltb most_processes n h.most))
    ∙ pass _ WrongCount _ (ap not (eq-eqb given n h.each))

-- ---- accepted, so allowed
may_send : (c : Control) (p q : ℕ) → accepted (send_verdict c p q) ≡ true → MaySend c p q
unfolding send_verdict ahead accepted
may_send c p q e =
    let a = passed _ AlreadySent _ e in
    let b = passed _ TooFarAhead _ a.1 in
    record { unsent = a.0; near = eqb-false _ _ b.0 }

pub none_refused_lem : (n : ℕ) (f : ℕ → Verdict) → accepted (first_refusal n f) ≡ true → (k : ℕ) → k < n → accepted (f k) ≡ true
unfolding first_refusal
none_refused_lem zero f e k h = absurd (omega arith)
none_refused_lem (suc n) f e k h = go (accepted (first_refusal n f)) refl e (none_refused_lem n f)
  where
    go : (b : Bool) → accepted (first_refusal n f) ≡ b → accepted (cond b (f n) (first_refusal n f)) ≡ true
        → (accepted (first_refusal n f) ≡ true → (i : ℕ) → i < n → accepted (f i) ≡ true) → accepted (f k) ≡ true
    go true q z ih = elim (ℕ_discrete k n) [ yes y ↦ rw y z | no y ↦ ih q k (omega arith) ]
    go false q z ih = absurd (true≢false (sym z ∙ q))

pub allowed : (c : Control) (e : Event) → accepted (verdict c e) ≡ true → Allowed c e
unfolding verdict accepted receive_verdict step_verdict sent_to_all
allowed c (Send p q) e =
    let a = passed _ NoProcess _ e in
    let b = passed _ TooManyEvents _ a.1 in
    let o = neither _ _ a.0 in
    let space = roomy c 1 b.0 in
    record { from = inside c p o.0; to = inside c q o.1; room = omega arith; may = may_send c p q b.1 }
allowed c (Receive p q) e =
    let a = passed _ NoProcess _ e in
    let b = passed _ TooManyEvents _ a.1 in
    let d = passed _ NothingInTransit _ b.1 in
    let o = neither _ _ a.0 in
    let space = roomy c 1 b.0 in
    record { to = inside c p o.0; from = inside c q o.1; room = omega arith; waiting = not-false _ d.0 }
allowed c (Step p) e =
    let a = passed _ NoProcess _ e in
    let b = passed _ TooManyEvents _ a.1 in
    let d = passed _ NotSentToAll _ b.1 in
    let f = passed _ LastRound _ d.1 in
    let space = roomy c 1 b.0 in
    record { who = inside c p a.0; room = omega arith; spoken = eqb-true _ _ (not-false _ d.0); more = eqb-false _ _ f.0 }
allowed c (Broadcast p) e =
    let a = passed _ NoProcess _ e in
    let b = passed _ TooManyEvents _ a.1 in
    record {
      who = inside c p a.0;
      room = roomy c c.size b.0;
      each = λ q h. may_send c p q (none_refused_lem c.size (send_verdict c p) b.1 q h);
    }

-- ---- allowed, so accepted
send_may : (c : Control) (p q : ℕ) → MaySend c p q → send_verdict c p q ≡ Accepted
unfolding send_verdict ahead
send_may c p q m = pass _ AlreadySent _ m.unsent ∙ pass _ TooFarAhead _ (ne_eqb _ _ m.near)

all_accepted : (n : ℕ) (f : ℕ → Verdict) → ((k : ℕ) → k < n → f k ≡ Accepted) → first_refusal n f ≡ Accepted
unfolding first_refusal accepted
all_accepted zero f h = refl
all_accepted (suc n) f h = rw (all_accepted n f (λ k l. h k (omega arith))) (h n (omega arith))

-- the tests 2 and 8, passed
first_two : (b : Bool) (c : Control) (k : ℕ) (rest : Verdict) → b ≡ false → c.events + k ≤ most_events
    → refuse b NoProcess (refuse (crowded c k) TooManyEvents rest) ≡ rest
first_two b c k rest e h = pass b NoProcess _ e ∙ pass (crowded c k) TooManyEvents rest (room c k h)

-- the verdict on a send, and on a broadcast, between processes of the run and with room for its events
pub send_plain : (c : Control) (p q : ℕ) → p < c.size → q < c.size → c.events < most_events → verdict c (Send p q) ≡ send_verdict c p q
unfolding verdict
send_plain c p q hp hq space = first_two _ c 1 _ (or_neither _ _ (within c p hp) (within c q hq)) (omega arith)

pub broadcast_plain : (c : Control) (p : ℕ) → p < c.size → c.events + c.size ≤ most_events
    → verdict c (Broadcast p) ≡ first_refusal c.size (send_verdict c p)
unfolding verdict
broadcast_plain c p hp space = first_two _ c c.size _ (within c p hp) space

pub allows : (c : Control) (e : Event) → Allowed c e → verdict c e ≡ Accepted
unfolding verdict receive_verdict step_verdict sent_to_all
allows c (Send p q) h = send_plain c p q h.from h.to h.room ∙ send_may c p q h.may
allows c (Receive p q) h =
    first_two _ c 1 _ (or_neither _ _ (within c p h.to) (within c q h.from)) (omega (arith, h.room))
    ∙ pass _ NothingInTransit _ (ap not h.waiting)
allows c (Step p) h =
    first_two _ c 1 _ (within c p h.who) (omega (arith, h.room))
    ∙ pass _ NotSentToAll _ (ap not (eq-eqb _ _ h.spoken))
    ∙ pass _ LastRound _ (ne_eqb _ _ h.more)
allows c (Broadcast p) h =
    broadcast_plain c p h.who h.room ∙ all_accepted c.size (send_verdict c p) (λ q l. send_may c p q (h.each q l))
