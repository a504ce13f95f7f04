-- What the rule says, in the words of document 01: of the least, of all being equal, of odd rounds and of even ones.
-- Assumes nothing.
use Prim.Native.Nat.{ℕ, ◌≤◌, min}
use native.Mathlib.Omega.{arith}
use native.Mathlib.Decide.{dec_le}
use mathlib.Core.Path.{◌≡◌, refl, sym, ap, ◌∙◌}
use mathlib.Core.Bool.{Bool, true, false, cond, ◌&&◌, false≢true}
use mathlib.Core.Logic.{◌⊎◌, inl, inr}
use mathlib.Core.List.Memᴰ.{cases_cons}
use mathlib.Core.List.Memᴰ.{head}
use mathlib.Core.List.Memᴰ.{not-nil}
use mathlib.Core.List.Memᴰ.{tail}
use mathlib.Core.List.{List, [], ◌∷◌, Memᴰ as Among}
use borrow.Author.Tests.{eqb-true, eq-eqb}
use Rattle.std.specs.Prelude.{Option, Some, None, unwrap_or}
use Rattle.std.specs.Option.{option_or}
use Rattle.voting.specs.declared.Message.{Message}
use Rattle.voting.specs.declared.Holding.{Holding}
use Rattle.voting.specs.Voting.{lesser, same, least, all_same, agreed, values, votes, odd_rule, even_rule, odd, rule}

pub absent_present : {x : ℕ} → None ≡ Some x → ⊥
absent_present e = let z : ◌≡◌ {A = ℕ} 0 1 = cc in omega arith

never_present : (c : Option ℕ) → ((x : ℕ) → c ≡ Some x → ⊥) → c ≡ None
never_present None none = refl
never_present (Some x) none = absurd (none x refl)

-- ---- the least
-- where y is among them, there is a least, at most y
least_some : (cs : List (Option ℕ)) (y : ℕ) → Among (Some y) cs → (z : ℕ) × (least cs ≡ Some z) × (z ≤ y)
unfolding least lesser
least_some [] y m = absurd (not-nil m)
least_some (c ∷ cs) y m = go (cases_cons m) (least_some cs y)
  where
    first : (d : Option ℕ) → (z : ℕ) × (lesser (Some y) d ≡ Some z) × (z ≤ y)
    first None = (y, refl, omega arith)
    first (Some w) = (_, refl, omega arith)

    later : (b : Option ℕ) (w : ℕ) → w ≤ y → (z : ℕ) × (lesser b (Some w) ≡ Some z) × (z ≤ y)
    later None w l = (w, refl, l)
    later (Some v) w l = (_, refl, omega arith)

    go : (Some y ≡ c) ⊎ Among (Some y) cs → (Among (Some y) cs → (w : ℕ) × (least cs ≡ Some w) × (w ≤ y))
        → (z : ℕ) × (lesser c (least cs) ≡ Some z) × (z ≤ y)
    go (inl e) ih = rw (← e) (first (least cs))
    go (inr k) ih = rw (ih k).1 (later c (ih k).0 (ih k).2)

pub least_heard : (cs : List (Option ℕ)) (x : ℕ) → least cs ≡ Some x → Among (Some x) cs
unfolding least lesser
least_heard [] x e = absurd (absent_present e)
least_heard (None ∷ cs) x e = tail (least_heard cs x e)
least_heard (Some y ∷ cs) x e = go (least cs) refl e (least_heard cs)
  where
    either : (z : ℕ) → Dec (y ≤ z) → min y z ≡ x → Among (Some z) cs → Among (Some x) (Some y ∷ cs)
    either z (yes l) f m = let g : x ≡ y = omega arith in head (ap Some g)
    either z (no l) f m = let g : z ≡ x = omega arith in tail (rw g at m)

    go : (d : Option ℕ) → least cs ≡ d → lesser (Some y) d ≡ Some x → ((z : ℕ) → least cs ≡ Some z → Among (Some z) cs)
        → Among (Some x) (Some y ∷ cs)
    go None q f ih = head (sym f)
    go (Some z) q f ih = either z (dec_le y z) (cc) (ih z q)

pub least_below : (cs : List (Option ℕ)) (x y : ℕ) → least cs ≡ Some x → Among (Some y) cs → x ≤ y
least_below cs x y e m =
    let s = least_some cs y m in
    let f : s.0 ≡ x = cc in
    omega arith

pub least_none : (cs : List (Option ℕ)) (y : ℕ) → least cs ≡ None → Among (Some y) cs → ⊥
least_none cs y e m = absent_present (sym e ∙ (least_some cs y m).1)

-- ---- all equal
same_equal : (c d : Option ℕ) → same c d ≡ true → d ≡ c
unfolding same
same_equal None None e = refl
same_equal None (Some y) e = absurd (false≢true e)
same_equal (Some x) None e = absurd (false≢true e)
same_equal (Some x) (Some y) e = ap Some (sym (eqb-true x y e))

all_same_each : (c : Option ℕ) (ds : List (Option ℕ)) → all_same c ds ≡ true → (d : Option ℕ) → Among d ds → d ≡ c
unfolding all_same
all_same_each c [] e d m = absurd (not-nil m)
all_same_each c (b ∷ ds) e d m = go (same c b) refl e (cases_cons m) (all_same_each c ds)
  where
    go : (t : Bool) → same c b ≡ t → (t && all_same c ds) ≡ true → (d ≡ b) ⊎ Among d ds → (all_same c ds ≡ true → (k : Option ℕ) → Among k ds → k ≡ c) → d ≡ c
    go true q f (inl g) ih = g ∙ same_equal c b q
    go true q f (inr k) ih = ih f d k
    go false q f k ih = absurd (false≢true f)

each_all_same : (x : ℕ) (ds : List (Option ℕ)) → ((d : Option ℕ) → Among d ds → d ≡ Some x) → all_same (Some x) ds ≡ true
unfolding all_same same
each_all_same x [] a = refl
each_all_same x (d ∷ ds) a = rw (a d (head refl), eq-eqb x x refl) (each_all_same x ds (λ k m. a k (tail m)))

pub agreed_each : (cs : List (Option ℕ)) (x : ℕ) → agreed cs ≡ Some x → (c : Option ℕ) → Among c cs → c ≡ Some x
unfolding agreed
agreed_each [] x e c m = absurd (not-nil m)
agreed_each (b ∷ cs) x e c m = go (all_same b cs) refl e (cases_cons m)
  where
    go : (t : Bool) → all_same b cs ≡ t → cond t b None ≡ Some x → (c ≡ b) ⊎ Among c cs → c ≡ Some x
    go true q f (inl g) = g ∙ f
    go true q f (inr k) = all_same_each b cs q c k ∙ f
    go false q f k = absurd (absent_present f)

-- so it never holds of none
pub agreed_some : (cs : List (Option ℕ)) (x : ℕ) → agreed cs ≡ Some x → Among (Some x) cs
unfolding agreed
agreed_some [] x e = absurd (absent_present e)
agreed_some (b ∷ cs) x e = head (sym (agreed_each (b ∷ cs) x e b (head refl)))

pub each_agreed : (cs : List (Option ℕ)) (x : ℕ) → Among (Some x) cs → ((c : Option ℕ) → Among c cs → c ≡ Some x) → agreed cs ≡ Some x
unfolding agreed
each_agreed [] x m a = absurd (not-nil m)
each_agreed (c ∷ cs) x m a = rw (a c (head refl), each_all_same x cs (λ k n. a k (tail n)))

pub agreed_differ : (cs : List (Option ℕ)) (c d : Option ℕ) → Among c cs → Among d cs → (c ≡ d → ⊥) → agreed cs ≡ None
agreed_differ cs c d m n differ = never_present (agreed cs) (λ x e. differ (agreed_each cs x e c m ∙ sym (agreed_each cs x e d n)))

pub agreed_absent : (cs : List (Option ℕ)) → Among None cs → agreed cs ≡ None
agreed_absent cs m = never_present (agreed cs) (λ x e. absent_present (agreed_each cs x e None m))

-- ---- what the messages heard say
-- each of the values is that of a message heard
value_some : (ms : List Message) (c : Option ℕ) → Among c (values ms) → (m : Message) × Among m ms × (c ≡ Some m.value)
unfolding values
value_some [] c a = absurd (not-nil a)
value_some (m ∷ ms) c a = go (cases_cons a) (value_some ms c)
  where
    go : (c ≡ Some m.value) ⊎ Among c (values ms) → (Among c (values ms) → (k : Message) × Among k ms × (c ≡ Some k.value))
        → (k : Message) × Among k (m ∷ ms) × (c ≡ Some k.value)
    go (inl e) ih = (m, head refl, e)
    go (inr n) ih = ((ih n).0, tail (ih n).1, (ih n).2)

pub value_heard : (ms : List Message) (x : ℕ) → Among (Some x) (values ms) → (m : Message) × Among m ms × (m.value ≡ x)
value_heard ms x a =
    let s = value_some ms (Some x) a in
    (s.0, s.1, cc)

heard_value : {m : Message} {ms : List Message} → Among m ms → Among (Some m.value) (values ms)
unfolding values
heard_value (head e) = head (ap (λ (m : Message). Some m.value) e)
heard_value (tail n) = tail (heard_value n)

pub vote_heard : (ms : List Message) (c : Option ℕ) → Among c (votes ms) → (m : Message) × Among m ms × (m.vote ≡ c)
unfolding votes
vote_heard [] c a = absurd (not-nil a)
vote_heard (m ∷ ms) c a = go (cases_cons a) (vote_heard ms c)
  where
    go : (c ≡ m.vote) ⊎ Among c (votes ms) → (Among c (votes ms) → (k : Message) × Among k ms × (k.vote ≡ c))
        → (k : Message) × Among k (m ∷ ms) × (k.vote ≡ c)
    go (inl e) ih = (m, head refl, sym e)
    go (inr n) ih = ((ih n).0, tail (ih n).1, (ih n).2)

heard_vote : {m : Message} {ms : List Message} → Among m ms → Among m.vote (votes ms)
unfolding votes
heard_vote (head e) = head (ap (λ (m : Message). m.vote) e)
heard_vote (tail n) = tail (heard_vote n)

heard_vote_of : {ms : List Message} {m : Message} {c : Option ℕ} → Among m ms → m.vote ≡ c → Among c (votes ms)
heard_vote_of n e = rw e at (heard_vote n)

-- the least value heard, or y where nothing was
least_value_below : (ms : List Message) (m : Message) (y : ℕ) → Among m ms → unwrap_or (least (values ms)) y ≤ m.value
least_value_below ms m y n =
    let s = least_some (values ms) m.value (heard_value n) in
    rw s.1 s.2

least_value_heard : (ms : List Message) (m : Message) (y : ℕ) → Among m ms → (k : Message) × Among k ms × (unwrap_or (least (values ms)) y ≡ k.value)
least_value_heard ms m y n =
    let s = least_some (values ms) m.value (heard_value n) in
    let k = value_heard ms s.0 (least_heard (values ms) s.0 s.1) in
    (k.0, k.1, rw s.1 (sym k.2))

-- ---- odd rounds
module _ (r : ℕ) (h : Holding) (ms : List Message) (o : odd r ≡ true) where
  odd_is : rule r h ms ≡ odd_rule h ms
  unfolding rule
  odd_is = rw o

  pub odd_value_below : {m : Message} → Among m ms → (rule r h ms).value ≤ m.value
  unfolding odd_rule
  odd_value_below {m} n = rw odd_is (least_value_below ms m h.value n)

  pub odd_value_heard : {m : Message} → Among m ms → (k : Message) × Among k ms × ((rule r h ms).value ≡ k.value)
  unfolding odd_rule
  odd_value_heard {m} n = rw odd_is (least_value_heard ms m h.value n)

  pub odd_vote : {m : Message} (x : ℕ) → Among m ms → ((k : Message) → Among k ms → k.value ≡ x) → (rule r h ms).vote ≡ Some x
  unfolding odd_rule
  odd_vote {m} x n all = rw (odd_is, each_agreed (values ms) x (rw (all m n) at (heard_value n)) each)
    where
      each : (c : Option ℕ) → Among c (values ms) → c ≡ Some x
      each c a =
          let s = value_some ms c a in
          s.2 ∙ ap Some (all s.0 s.1)

  pub odd_vote_kept : {m k : Message} → Among m ms → Among k ms → (m.value ≡ k.value → ⊥) → (rule r h ms).vote ≡ h.vote
  unfolding odd_rule
  odd_vote_kept {m} {k} n l differ =
      rw (odd_is, agreed_differ (values ms) (Some m.value) (Some k.value) (heard_value n) (heard_value l) (λ e. differ (cc)))

  pub odd_decision_kept : (rule r h ms).decision ≡ h.decision
  unfolding odd_rule
  odd_decision_kept = rw odd_is

pub odd_silent : (r : ℕ) (h : Holding) → odd r ≡ true → rule r h [] ≡ h
unfolding odd_rule values least agreed
odd_silent r h o = odd_is r h [] o

-- ---- even rounds
module _ (r : ℕ) (h : Holding) (ms : List Message) (o : odd r ≡ false) where
  even_is : rule r h ms ≡ even_rule h ms
  unfolding rule
  even_is = rw o

  pub even_vote : (rule r h ms).vote ≡ None
  unfolding even_rule
  even_vote = rw even_is

  -- the least vote heard: at most each vote heard, and the vote of a message heard
  pub even_value_vote : {m : Message} {y : ℕ} → Among m ms → m.vote ≡ Some y
      → ((rule r h ms).value ≤ y) × ((k : Message) × Among k ms × (k.vote ≡ Some (rule r h ms).value))
  unfolding even_rule
  even_value_vote {y = y} n v =
      let s = least_some (votes ms) y (heard_vote_of n v) in
      rw (even_is, s.1) (s.2, vote_heard ms (Some s.0) (least_heard (votes ms) s.0 s.1))

  no_least : ((k : Message) → Among k ms → k.vote ≡ None) → least (votes ms) ≡ None
  no_least plain =
      never_present (least (votes ms))
      (λ x e. let k = vote_heard ms (Some x) (least_heard (votes ms) x e) in absent_present (sym (plain k.0 k.1) ∙ k.2))

  -- the least value heard: at most each value heard, and the value of a message heard
  pub even_value_plain : {m : Message} → Among m ms → ((k : Message) → Among k ms → k.vote ≡ None)
      → ((rule r h ms).value ≤ m.value) × ((k : Message) × Among k ms × ((rule r h ms).value ≡ k.value))
  unfolding even_rule
  even_value_plain {m} n plain =
      rw (even_is, no_least plain) (least_value_below ms m h.value n, least_value_heard ms m h.value n)

  pub even_decision : {m : Message} (x : ℕ) → Among m ms → ((k : Message) → Among k ms → k.vote ≡ Some x) → (rule r h ms).decision ≡ Some x
  unfolding even_rule
  even_decision {m} x n all = rw (even_is, each_agreed (votes ms) x (heard_vote_of n (all m n)) each)
    where
      each : (c : Option ℕ) → Among c (votes ms) → c ≡ Some x
      each c a =
          let k = vote_heard ms c a in
          sym k.2 ∙ all k.0 k.1

  pub even_decision_kept_absent : {m : Message} → Among m ms → m.vote ≡ None → (rule r h ms).decision ≡ h.decision
  unfolding even_rule
  even_decision_kept_absent n v = rw (even_is, agreed_absent (votes ms) (heard_vote_of n v))

  pub even_decision_kept_differ : {m k : Message} → Among m ms → Among k ms → (m.vote ≡ k.vote → ⊥) → (rule r h ms).decision ≡ h.decision
  unfolding even_rule
  even_decision_kept_differ {m} {k} n l differ = rw (even_is, agreed_differ (votes ms) m.vote k.vote (heard_vote n) (heard_vote l) differ)

pub even_silent : (r : ℕ) (h : Holding) → odd r ≡ false → rule r h [] ≡ record { value = h.value; vote = None; decision = h.decision }
unfolding even_rule values votes least agreed
even_silent r h o = even_is r h [] o
