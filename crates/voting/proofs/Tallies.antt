-- The rule on a tally is the rule on the messages, and a tally of the same messages in another order is the same.
-- Assumes nothing.
use Prim.Native.Nat.{ℕ, min}
use native.Mathlib.Omega.{arith}
use mathlib.Core.Path.{◌≡◌, refl, sym, ap, ◌∙◌}
use mathlib.Core.Bool.{Bool, true, false, cond, ◌&&◌}
use mathlib.Core.List.{List, [], ◌∷◌, ◌++◌}
use lib.Dec.{eqb}
use borrow.Author.Tests.{eqb-true, eqb-false, eq-eqb, ne_eqb}
use Rattle.std.specs.Prelude.{Option, Some, None, unwrap_or}
use Rattle.std.specs.Option.{option_or}
use Rattle.voting.specs.declared.Message.{Message}
use Rattle.voting.specs.declared.Holding.{Holding}
use Rattle.voting.specs.declared.Poll.{Poll}
use Rattle.voting.specs.declared.Tally.{Tally}
use Rattle.voting.specs.Voting.{lesser as lesser_of, same, least, all_same, agreed, values, votes, odd_rule, even_rule, rule}
use Rattle.voting.specs.Tally.{nothing, lesser, agrees, with, agreed_or, silence, hear, tally, odd_tally, even_tally, ruled}

-- ---- the poll of some choices
poll : List (Option ℕ) → Poll
poll [] = nothing
poll (c ∷ cs) = with (poll cs) c

-- ---- the least
least_more : (t : Poll) (c : Option ℕ) → (with t c).least ≡ lesser_of c t.least
unfolding with lesser lesser_of
least_more t None = refl
least_more t (Some x) = go t.least
  where
    go : (o : Option ℕ) → Some (lesser o x) ≡ lesser_of (Some x) o
    go None = refl
    go (Some a) = ap Some (omega arith)

poll_least : (cs : List (Option ℕ)) → (poll cs).least ≡ least cs
unfolding poll nothing least
poll_least [] = refl
poll_least (c ∷ cs) = least_more (poll cs) c ∙ ap (lesser_of c) (poll_least cs)

-- ---- all equal
eqb_swap : (x y : ℕ) → eqb x y ≡ eqb y x
eqb_swap x y = go (eqb x y) refl
  where
    go : (b : Bool) → eqb x y ≡ b → eqb x y ≡ eqb y x
    go true e = e ∙ sym (eq-eqb y x (sym (eqb-true x y e)))
    go false e = e ∙ sym (ne_eqb y x (λ q. eqb-false x y e (sym q)))

-- whether all are present and x
all_are : Poll → ℕ → Bool
all_are t x = t.same && agrees t.least x

-- with y and then x beside some: x is y, and all are x
are_more : (t : Poll) (y x : ℕ) → all_are (with t (Some y)) x ≡ (eqb x y && all_are t x)
unfolding all_are with lesser agrees
are_more t y x = go t.same t.least (eqb x y) refl
  where
    each : (a : ℕ) (p q : Bool) → eqb x y ≡ p → eqb a y ≡ q → (q && eqb (min a y) x) ≡ (p && eqb a x)
    each a true true e f =
        let h : a ≡ y = eqb-true a y f in
        let k : min a y ≡ a = omega arith in
        rw k
    each a true false e f = sym (ne_eqb a x (λ k. eqb-false a y f (k ∙ eqb-true x y e)))
    each a false true e f =
        let h : a ≡ y = eqb-true a y f in
        ne_eqb (min a y) x (λ (k : min a y ≡ x). eqb-false x y e (omega arith))
    each a false false e f = refl

    go : (b : Bool) (o : Option ℕ) (p : Bool) → eqb x y ≡ p → ((b && agrees o y) && eqb (lesser o y) x) ≡ (p && (b && agrees o x))
    go true None true e = eqb_swap y x ∙ e
    go true None false e = eqb_swap y x ∙ e
    go true (Some a) p e = each a p (eqb a y) e refl
    go false o true e = refl
    go false o false e = refl

poll_are : (x : ℕ) (cs : List (Option ℕ)) → all_are (poll cs) x ≡ all_same (Some x) cs
unfolding all_are poll nothing with agrees all_same same
poll_are x [] = refl
poll_are x (None ∷ cs) = refl
poll_are x (Some y ∷ cs) = are_more (poll cs) y x ∙ ap (λ (b : Bool). eqb x y && b) (poll_are x cs)

-- where all are x, with x beside them, the least is x
are_least : (t : Poll) (x : ℕ) → cond (all_are t x) (Some (lesser t.least x)) None ≡ cond (all_are t x) (Some x) None
unfolding all_are lesser agrees
are_least t x = go t.same t.least
  where
    one : (a : ℕ) (b : Bool) → eqb a x ≡ b → cond b (Some (min a x)) None ≡ cond b (Some x) None
    one a true e = let f : a ≡ x = eqb-true a x e in ap Some (omega arith)
    one a false e = refl

    go : (b : Bool) (o : Option ℕ) → cond (b && agrees o x) (Some (lesser o x)) None ≡ cond (b && agrees o x) (Some x) None
    go true None = refl
    go true (Some a) = one a (eqb a x) refl
    go false o = refl

poll_agreed : (cs : List (Option ℕ)) → agreed_or (poll cs) None ≡ agreed cs
unfolding agreed_or poll nothing with agreed all_are
poll_agreed [] = refl
poll_agreed (None ∷ cs) = go (all_same None cs)
  where
    go : (b : Bool) → ◌≡◌ {A = Option ℕ} None (cond b None None)
    go true = refl
    go false = refl
poll_agreed (Some x ∷ cs) = are_least (poll cs) x ∙ ap (λ (b : Bool). cond b (Some x) None) (poll_are x cs)

-- what all of them are, or c
poll_choice : (cs : List (Option ℕ)) (c : Option ℕ) → agreed_or (poll cs) c ≡ option_or (agreed cs) c
unfolding agreed_or
poll_choice cs c = go (poll cs).same (poll cs).least ∙ ap (λ (d : Option ℕ). option_or d c) (poll_agreed cs)
  where
    go : (b : Bool) (o : Option ℕ) → cond b (option_or o c) c ≡ option_or (cond b (option_or o None) None) c
    go true None = refl
    go true (Some a) = refl
    go false o = refl

-- ---- the order
with_swap : (t : Poll) (c d : Option ℕ) → with (with t c) d ≡ with (with t d) c
unfolding with all_are lesser agrees
with_swap t None None = refl
with_swap t None (Some y) = refl
with_swap t (Some x) None = refl
with_swap t (Some x) (Some y) = rw (lesser_swap t.least, same_swap)
  where
    lesser_swap : (o : Option ℕ) → lesser (Some (lesser o x)) y ≡ lesser (Some (lesser o y)) x
    lesser_swap None = omega arith
    lesser_swap (Some a) = omega arith

    same_swap : all_are (with t (Some x)) y ≡ all_are (with t (Some y)) x
    same_swap = rw (are_more t x y, are_more t y x, eqb_swap y x) (go (eqb x y) refl)
      where
        go : (p : Bool) → eqb x y ≡ p → (p && all_are t y) ≡ (p && all_are t x)
        go true e = rw (eqb-true x y e)
        go false e = refl

-- ---- the tally of some messages
tally_values : (ms : List Message) → (tally ms).values ≡ poll (values ms)
unfolding tally silence hear values poll
tally_values [] = refl
tally_values (m ∷ ms) = ap (λ (t : Poll). with t (Some m.value)) (tally_values ms)

tally_votes : (ms : List Message) → (tally ms).votes ≡ poll (votes ms)
unfolding tally silence hear votes poll
tally_votes [] = refl
tally_votes (m ∷ ms) = ap (λ (t : Poll). with t m.vote) (tally_votes ms)

pub rule_tally : (r : ℕ) (h : Holding) (ms : List Message) → ruled r h (tally ms) ≡ rule r h ms
unfolding ruled rule odd_tally even_tally odd_rule even_rule
rule_tally r h ms =
    rw
    (tally_values ms, tally_votes ms, poll_choice (values ms) h.vote, poll_choice (votes ms) h.decision, poll_least (values ms), poll_least (votes ms))

pub tally_more : (m : Message) (ms : List Message) → tally (m ∷ ms) ≡ hear (tally ms) m
unfolding tally
tally_more m ms = refl

pub hear_swap : (t : Tally) (m k : Message) → hear (hear t m) k ≡ hear (hear t k) m
unfolding hear
hear_swap t m k = rw (with_swap t.values (Some m.value) (Some k.value), with_swap t.votes m.vote k.vote)

pub tally_last : (ms : List Message) (m : Message) → tally (ms ++ (m ∷ [])) ≡ hear (tally ms) m
unfolding tally
tally_last [] m = refl
tally_last (k ∷ ms) m = rw (tally_last ms m) (hear_swap (tally ms) m k)

-- ---- what the code's results mean
pub hear_meaning : {t : Tally} (m : Message) {r : Tally} → r ≡ hear t m → (r ≡ hear t m) × ((ms : List Message) → t ≡ tally ms → r ≡ tally (m ∷ ms))
unfolding tally
hear_meaning m e = (e, λ ms f. e ∙ ap (λ t. hear t m) f)

pub rule_meaning : (n : ℕ) (h : Holding) {t : Tally} {r : Holding} → r ≡ ruled n h t
    → (r ≡ ruled n h t) × ((ms : List Message) → t ≡ tally ms → r ≡ rule n h ms)
rule_meaning n h e = (e, λ ms f. e ∙ ap (ruled n h) f ∙ rule_tally n h ms)
