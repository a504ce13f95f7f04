-- The machine is none of the four replays that document 01 names: by the examples. And of the last two it can be said for every event of every
-- run: what is accepted moves something. Assumes nothing.
use Prim.Native.Nat.{ℕ, ◌<◌}
use native.Mathlib.Omega.{arith}
use mathlib.Core.Path.{◌≡◌, refl, sym, ap, ◌∙◌}
use mathlib.Core.Bool.{true≢false}
use mathlib.Core.List.{List, [], ◌∷◌}
use lib.ListN.{get_or}
use Rattle.sets.specs.Sets.{has}
use Rattle.sets.proofs.Membership.{with_own, without_own}
use Rattle.rounds.specs.declared.Event.{Event}
use Rattle.rounds.specs.declared.Event.TheVariants.{Send, Receive, Step, Broadcast}
use Rattle.rounds.specs.Verdicts.{Accepted}
use Rattle.rounds.specs.Config.{Site, Control, Config, opening}
use Rattle.rounds.specs.Stages.{tick}
use Rattle.rounds.specs.Verdicts.{verdict}
use Rattle.rounds.specs.Events.{receive_control, step_control, next_control, apply}
use Rattle.rounds.specs.Runs.{after, value_at}
use Rattle.rounds.specs.Allowed.{Allowed}
use Rattle.rounds.specs.Examples.{run, waits, seven_and_four, trace1}
use Rattle.rounds.proofs.Updates.{at_same, at₂_same}
use Rattle.rounds.proofs.Answers.{accepted_is, allowed}
use Rattle.rounds.proofs.Broadcasts.{send_sent, sends_sent}
use Rattle.rounds.proofs.InTurn.{apply_accepted}

-- it does not refuse everything
pub not_refusing : ((c : Control) (e : Event) → verdict c e ≡ Accepted → ⊥) → ⊥
unfolding run
not_refusing h = h (opening 2 (value_at seven_and_four)).control (Send 0 0) refl

-- it does not give the same figures for every trace
pub not_one_sheet : ((es fs : List Event) → waits (run seven_and_four es) 0 ≡ waits (run seven_and_four fs) 0) → ⊥
unfolding run
not_one_sheet h = let e : ◌≡◌ {A = ℕ} 1 2 = ap (λ (l : List ℕ). get_or l 0 0) (h [] trace1) in omega arith

-- it does not accept an event and move nothing
pub not_standing : ((c : Config) (e : Event) → verdict c.control e ≡ Accepted → (p : ℕ) → (apply c e).control.site p ≡ c.control.site p) → ⊥
unfolding run
not_standing h =
    let e : ◌≡◌ {A = ℕ} 1 0 = ap (λ (s : Site). s.sent) (h (opening 2 (value_at seven_and_four)) (Send 0 0) refl 0) in omega arith

-- it does not work at the first event and then only count
pub not_only_counting : ((n : ℕ) (v : ℕ → ℕ) (e : Event) (es : List Event) (p : ℕ)
    → (after (opening n v) (e ∷ es)).control.site p ≡ (after (opening n v) (e ∷ [])).control.site p) → ⊥
unfolding run
not_only_counting h =
    let e : ◌≡◌ {A = ℕ} 3 1 = ap (λ (s : Site). s.sent) (h 2 (value_at seven_and_four) (Send 0 0) (Send 0 1 ∷ []) 0) in omega arith

-- ---- every accepted event moves something: a sent set, what is in transit, or a round
next_moves : (c : Control) (e : Event) → 0 < c.size → Allowed c e
    → ((x : ℕ) → (next_control c e).site x ≡ c.site x) → ((x r : ℕ) → (next_control c e).transit x r ≡ c.transit x r) → ⊥
unfolding next_control receive_control step_control tick
next_moves c (Send p q) some h site transit =
    true≢false
    (sym (with_own (c.site p).sent q)
    ∙ ap (λ (s : ℕ). has s q) (sym (send_sent c p q) ∙ ap (λ (s : Site). s.sent) (site p))
    ∙ h.may.unsent)
next_moves c (Receive p q) some h site transit =
    true≢false
    (sym h.waiting
    ∙ ap (λ (s : ℕ). has s q) (sym (transit p (c.site p).round) ∙ at₂_same c.transit p (c.site p).round _)
    ∙ without_own _ q)
next_moves c (Step p) some h site transit =
    let round = ap (λ (s : Site). s.round) (sym (at_same c.site p _) ∙ site p) in omega arith
next_moves c (Broadcast p) some h site transit =
    true≢false (sym (sends_sent c.size c p 0 some) ∙ ap (λ (s : Site). has s.sent 0) (site p) ∙ (h.each 0 some).unsent)

pub always_moves : (c : Config) (e : Event) → 0 < c.control.size → verdict c.control e ≡ Accepted
    → ((x : ℕ) → (apply c e).control.site x ≡ c.control.site x) → ((x r : ℕ) → (apply c e).control.transit x r ≡ c.control.transit x r) → ⊥
always_moves c e some a site transit =
    let taken = accepted_is (verdict c.control e) a in
    next_moves c.control e some (allowed c.control e taken)
    (λ x. ap (λ (d : Config). d.control.site x) (sym (apply_accepted c e taken)) ∙ site x)
    (λ x r. ap (λ (d : Config). d.control.transit x r) (sym (apply_accepted c e taken)) ∙ transit x r)
