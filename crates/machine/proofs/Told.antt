-- What an accepted event or opening tells of its numbers, whatever the memory holds.
-- Assumes nothing.
use Rattle.std.proofs.Common.{◌≡◌, ℕ, zero, suc, ◌<◌, ◌≤◌, cond, Err, is_ok, IsErrAnd, sym, ◌∙◌, arith}
use native.Mathlib.Decide.{ℕ_discrete}
use Rattle.rounds.specs.Limits.{most_processes}
use Rattle.rounds.specs.declared.Event.TheVariants.{Send, Receive, Step, Broadcast}
use Rattle.rounds.specs.declared.Refusal.{Refusal}
use Rattle.rounds.specs.Verdicts.{Verdict, Accepted, accepted, open_verdict, first_refusal, verdict}
use Rattle.rounds.specs.Config.{Config}
use Rattle.rounds.specs.Events.{if_accepted}
use Rattle.rounds.specs.declared.Event.{Event}
use Rattle.rounds.proofs.Answers.{handed_on, accepted_is, opens_right, allowed}
use Rattle.words.specs.Layout.{Mem}
use Rattle.words.specs.Spelled.{people, control_of}
use Rattle.words.specs.Calls.{judged, done, applied, answer}
use Rattle.words.specs.Exact.{Tried}
use Rattle.words.specs.Shows.{Shows, Meant}
use Rattle.words.proofs.Meaning.{judged_meant}
use Rattle.words.proofs.Reading.{people_most}

pub send_told : (m : Mem) (p q : ℕ) → Accepted ≡ verdict (control_of m) (Send p q) → (p < most_processes) × (q < most_processes)
unfolding control_of
send_told m p q e =
    let a = allowed (control_of m) (Send p q) (accepted_is _ (sym e)) in
    let most = people_most m in
    let from : p < people m = a.from in
    let to : q < people m = a.to in
    (omega arith, omega arith)

pub receive_told : (m : Mem) (p q : ℕ) → Accepted ≡ verdict (control_of m) (Receive p q) → (p < most_processes) × (q < most_processes)
unfolding control_of
receive_told m p q e =
    let a = allowed (control_of m) (Receive p q) (accepted_is _ (sym e)) in
    let most = people_most m in
    let to : p < people m = a.to in
    let from : q < people m = a.from in
    (omega arith, omega arith)

pub broadcast_told : (m : Mem) (p : ℕ) → Accepted ≡ verdict (control_of m) (Broadcast p) → p < most_processes
unfolding control_of
broadcast_told m p e =
    let a = allowed (control_of m) (Broadcast p) (accepted_is _ (sym e)) in
    let most = people_most m in
    let who : p < people m = a.who in
    omega arith

pub step_told : (m : Mem) (p : ℕ) → Accepted ≡ verdict (control_of m) (Step p) → p < most_processes
unfolding control_of
step_told m p e =
    let a = allowed (control_of m) (Step p) (accepted_is _ (sym e)) in
    let most = people_most m in
    let who : p < people m = a.who in
    omega arith

pub opening_told : (n given : ℕ) → Accepted ≡ open_verdict n given → given ≤ most_processes
opening_told n given e =
    let o = opens_right n given (accepted_is _ (sym e)) in
    let each = o.each in
    let most = o.most in
    omega arith

-- ---- a judge's answer and what a call makes of it
-- a test of each in turn: the first refusal is that of all
pub first_is : (n q : ℕ) (f : ℕ → Verdict) (r : Refusal) → q < n → first_refusal q f ≡ Accepted → Err r ≡ f q → Err r ≡ first_refusal n f
unfolding first_refusal accepted
first_is zero q f r h a e = absurd (omega arith)
first_is (suc n) q f r h a e = go (ℕ_discrete q n) (λ k. first_is n q f r k a e)
  where
    go : Dec (q ≡ n) → (q < n → Err r ≡ first_refusal n f) → Err r ≡ cond (is_ok (first_refusal n f)) (f n) (first_refusal n f)
    go (yes k) ih = rw (← k, a) e
    go (no k) ih = rw (← ih (omega arith))

module _ (m : Mem) (e : Event) where
  applied_accepted : {b : Mem} → Accepted ≡ verdict (control_of m) e → b ≡ done m e → b ≡ applied m e
  unfolding applied if_accepted accepted
  applied_accepted a d = rw (← a, d)

  applied_refused : {r : Refusal} → Err r ≡ verdict (control_of m) e → m ≡ applied m e
  unfolding applied if_accepted accepted
  applied_refused a = rw (← a)

  module _ (plain : answer (control_of m) e ≡ judged (verdict (control_of m) e)) where
    pub accepted_call : {b : Mem} → Accepted ≡ verdict (control_of m) e → b ≡ done m e
        → Tried m e Accepted b × ((c : Config) → Shows m c → Meant (judged Accepted) b c e)
    accepted_call a d = judged_meant m e plain (a, applied_accepted a d)

    pub refused_call : {v : Verdict} {r : Refusal} → IsErrAnd v (λ e. e ≡ r) → Err r ≡ verdict (control_of m) e
        → Tried m e v m × ((c : Config) → Shows m c → Meant (judged v) m c e)
    refused_call h a = judged_meant m e plain (handed_on h ∙ a, applied_refused a)
