-- An event is judged by what the words spell as it is judged by the configuration that they show; and what an answer tells.
-- Assumes nothing.
use Prim.Native.Nat.{ℕ, zero, suc, ◌≤◌, ◌<◌}
use native.Mathlib.Omega.{arith}
use mathlib.Core.Path.{◌≡◌, refl, ap, ◌∙◌}
use mathlib.Core.Bool.{Bool, true, false, cond, ◌||◌}
use mathlib.Core.List.{[], ◌∷◌}
use Rattle.std.specs.Prelude.{Ok, Err, is_ok}
use Rattle.rounds.specs.declared.Event.{Event}
use Rattle.rounds.specs.declared.Event.TheVariants.{Send, Receive, Step, Broadcast}
use Rattle.rounds.specs.declared.Refusal.{Refusal}
use Rattle.rounds.specs.Verdicts.{Verdict}
use Rattle.rounds.specs.declared.Refusal.TheVariants.{NoProcess, TooManyEvents}
use Rattle.rounds.specs.Limits.{most_processes}
use Rattle.rounds.specs.Config.{Control, Content}
use Rattle.rounds.specs.Stages.{sent_to_all}
use Rattle.rounds.specs.Verdicts.{accepted, refuse, outside, crowded, send_verdict, receive_verdict, step_verdict, first_refusal, verdict}
use Rattle.rounds.specs.Events.{if_accepted}
use Rattle.rounds.specs.Runs.{report_of, told}
use Rattle.rounds.proofs.Answers.{accepted_is, inside, neither, allowed}
use Rattle.words.specs.declared.Finished.{Finished}
use Rattle.words.specs.Layout.{Mem}
use Rattle.words.specs.Spelled.{control_of}
use Rattle.words.specs.Calls.{judged, finishing, step_answer, stepping, answer}
use Rattle.words.specs.Shows.{Shown, verdict_of, actor, reported}
use Rattle.words.proofs.Spelling.{people_shown, transit_shown}

-- a test that refuses, and what is left where it does not
refuse_same : (a b : Bool) (v : Refusal) (x y : Verdict) → a ≡ b → (b ≡ false → x ≡ y) → refuse a v x ≡ refuse b v y
unfolding refuse
refuse_same a true v x y e f = rw e
refuse_same a false v x y e f = rw e (f refl)

first_same : (n : ℕ) (f g : ℕ → Verdict) → ((k : ℕ) → k < n → f k ≡ g k) → first_refusal n f ≡ first_refusal n g
unfolding first_refusal
first_same zero f g same = refl
first_same (suc n) f g same =
    rw (first_same n f g (λ k h. same k (omega arith)), same n (omega arith))

module _ (m : Mem) (c : Control) (d : Content) (few : c.size ≤ most_processes) (k : Shown m c d) where
  size_shown : (control_of m).size ≡ c.size
  unfolding control_of
  size_shown = people_shown m c d k few

  site_shown : (p : ℕ) → p < c.size → (control_of m).site p ≡ c.site p
  unfolding control_of
  site_shown p h = (k.each p h).site

  outside_shown : (p : ℕ) → outside (control_of m) p ≡ outside c p
  unfolding outside
  outside_shown p = rw size_shown

  crowded_shown : (n : ℕ) → crowded (control_of m) n ≡ crowded c n
  unfolding crowded control_of
  crowded_shown n = rw k.events

  target_shown : (p q : ℕ) → p < c.size → q < c.size → send_verdict (control_of m) p q ≡ send_verdict c p q
  unfolding send_verdict
  target_shown p q hp hq = rw (site_shown p hp, site_shown q hq)

  receive_shown : (p q : ℕ) → p < c.size → receive_verdict (control_of m) p q ≡ receive_verdict c p q
  unfolding receive_verdict control_of
  receive_shown p q hp = rw ((k.each p hp).site, transit_shown m c d k p hp)

  step_shown : (p : ℕ) → p < c.size → step_verdict (control_of m) p ≡ step_verdict c p
  unfolding step_verdict sent_to_all
  step_shown p hp = rw (size_shown, site_shown p hp)

  two_same : (p q : ℕ) → (outside (control_of m) p || outside (control_of m) q) ≡ (outside c p || outside c q)
  two_same p q = rw (outside_shown p, outside_shown q)

  pub verdict_shown : (e : Event) → verdict (control_of m) e ≡ verdict c e
  unfolding verdict
  verdict_shown (Send p q) =
      refuse_same _ _ NoProcess _ _ (two_same p q)
      (λ i. let o = neither _ _ i in
      refuse_same _ _ TooManyEvents _ _ (crowded_shown 1) (λ j. target_shown p q (inside c p o.0) (inside c q o.1)))
  verdict_shown (Receive p q) =
      refuse_same _ _ NoProcess _ _ (two_same p q)
      (λ i. let o = neither _ _ i in
      refuse_same _ _ TooManyEvents _ _ (crowded_shown 1) (λ j. receive_shown p q (inside c p o.0)))
  verdict_shown (Step p) =
      refuse_same _ _ NoProcess _ _ (outside_shown p)
      (λ i. refuse_same _ _ TooManyEvents _ _ (crowded_shown 1) (λ j. step_shown p (inside c p i)))
  verdict_shown (Broadcast p) =
      refuse_same _ _ NoProcess _ _ (outside_shown p)
      (λ i. refuse_same _ _ TooManyEvents _ _ (ap (crowded (control_of m)) size_shown ∙ crowded_shown c.size)
      (λ j. ap (λ (n : ℕ). first_refusal n (send_verdict (control_of m) p)) size_shown
      ∙ first_same c.size (send_verdict (control_of m) p) (send_verdict c p) (λ q h. target_shown p q (inside c p i) h)))

  pub answer_shown : (e : Event) → answer (control_of m) e ≡ answer c e
  unfolding answer step_answer stepping finishing
  answer_shown (Send p q) = ap judged (verdict_shown (Send p q))
  answer_shown (Receive p q) = ap judged (verdict_shown (Receive p q))
  answer_shown (Step p) = rw (verdict_shown (Step p)) (go (verdict c (Step p)) refl)
    where
      go : (v : Verdict) → verdict c (Step p) ≡ v
          → stepping (finishing v (record { round = ((control_of m).site p).round; heard = ((control_of m).site p).heard }))
          ≡ stepping (finishing v (record { round = (c.site p).round; heard = (c.site p).heard }))
      go (Ok u) e = rw (site_shown p (allowed c (Step p) (accepted_is _ e)).who)
      go (Err r) e = refl
  answer_shown (Broadcast p) = ap judged (verdict_shown (Broadcast p))

-- ---- the verdict and the report of an answer are the round machine's
judged_verdict : (v : Verdict) → verdict_of (judged v) ≡ v
unfolding verdict_of judged
judged_verdict (Ok u) = refl
judged_verdict (Err r) = refl

pub answer_verdict : (c : Control) (e : Event) → verdict_of (answer c e) ≡ verdict c e
unfolding answer step_answer verdict_of stepping finishing
answer_verdict c (Send p q) = judged_verdict (verdict c (Send p q))
answer_verdict c (Receive p q) = judged_verdict (verdict c (Receive p q))
answer_verdict c (Step p) = go (verdict c (Step p)) _
  where
    go : (v : Verdict) (f : Finished) → verdict_of (stepping (finishing v f)) ≡ v
    go (Ok u) f = refl
    go (Err r) f = refl
answer_verdict c (Broadcast p) = judged_verdict (verdict c (Broadcast p))

none : (e : Event) (v : Verdict) → reported e (judged v) ≡ if_accepted v [] []
unfolding reported judged if_accepted accepted
none e (Ok u) = refl
none e (Err r) = refl

pub answer_report : (c : Control) (e : Event) → reported e (answer c e) ≡ if_accepted (verdict c e) (told c e) []
unfolding answer step_answer told report_of actor reported stepping finishing if_accepted accepted
answer_report c (Send p q) = none (Send p q) (verdict c (Send p q))
answer_report c (Receive p q) = none (Receive p q) (verdict c (Receive p q))
answer_report c (Step p) = go (verdict c (Step p))
  where
    go : (v : Verdict) → reported (Step p) (stepping (finishing v (record { round = (c.site p).round; heard = (c.site p).heard })))
        ≡ cond (is_ok v) (report_of c p ∷ []) []
    go (Ok u) = refl
    go (Err r) = refl
answer_report c (Broadcast p) = none (Broadcast p) (verdict c (Broadcast p))
