-- Functions changed at one place: what holds of the new entry and of every old one holds of every entry. One law, and what follows of it for
-- one, two and three functions, for functions of two and of three numbers, and for what is between two entries. Assumes nothing.
use Prim.Native.Nat.{ℕ}
use mathlib.Core.Path.{◌≡◌, refl, sym, ap, ◌∙◌, subst}
use mathlib.Core.Bool.{Bool, true, false, cond}
use lib.Dec.{eqb}
use borrow.Author.Tests.{eqb-true, eqb-false, eq-eqb, ne_eqb}
use Rattle.rounds.specs.Config.{at, at₂, at₃}

-- ---- three functions changed at the same place, where an old entry is known to be another one
module _ {A B C : Type 0} (P : ℕ → A → B → C → Type 0) (f : ℕ → A) (g : ℕ → B) (h : ℕ → C) (p : ℕ) (a : A) (b : B) (c : C) where
  at_every : P p a b c → ((k : ℕ) → (k ≡ p → ⊥) → P k (f k) (g k) (h k)) → (k : ℕ) → P k (at f p a k) (at g p b k) (at h p c k)
  unfolding at
  at_every new old k = go (eqb k p) refl
    where
      go : (t : Bool) → eqb k p ≡ t
          → P k (elim t [ true ↦ a | false ↦ f k ]) (elim t [ true ↦ b | false ↦ g k ]) (elim t [ true ↦ c | false ↦ h k ])
      go true e = subst (λ (j : ℕ). P j a b c) (sym (eqb-true k p e)) new
      go false e = old k (eqb-false k p e)

  pub at_all : P p a b c → ((k : ℕ) → P k (f k) (g k) (h k)) → (k : ℕ) → P k (at f p a k) (at g p b k) (at h p c k)
  at_all new old = at_every new (λ k other. old k)

-- ---- two functions
module _ {A B : Type 0} (P : ℕ → A → B → Type 0) (f : ℕ → A) (g : ℕ → B) (p : ℕ) (a : A) (b : B) where
  at_each_both : P p a b → ((k : ℕ) → (k ≡ p → ⊥) → P k (f k) (g k)) → (k : ℕ) → P k (at f p a k) (at g p b k)
  at_each_both = at_every (λ k x y z. P k x y) f g f p a b a

  pub at_both : P p a b → ((k : ℕ) → P k (f k) (g k)) → (k : ℕ) → P k (at f p a k) (at g p b k)
  at_both new old = at_each_both new (λ k other. old k)

-- ---- one function
module _ {A : Type 0} (P : ℕ → A → Type 0) (f : ℕ → A) (p : ℕ) (a : A) where
  pub at_each : P p a → ((k : ℕ) → (k ≡ p → ⊥) → P k (f k)) → (k : ℕ) → P k (at f p a k)
  at_each = at_every (λ k x y z. P k x) f f f p a a a

  pub at_one : P p a → ((k : ℕ) → P k (f k)) → (k : ℕ) → P k (at f p a k)
  at_one new old = at_each new (λ k other. old k)

-- ---- what is between two entries
module _ {A : Type 0} (R : ℕ → A → ℕ → A → Type 0) (f : ℕ → A) (p : ℕ) (a : A) where
  pub at_two : R p a p a → ((k : ℕ) → R p a k (f k)) → ((j : ℕ) → R j (f j) p a) → ((j k : ℕ) → R j (f j) k (f k))
      → (j k : ℕ) → R j (at f p a j) k (at f p a k)
  at_two new from to old =
      at_one (λ j x. (k : ℕ) → R j x k (at f p a k)) f p a
      (at_one (λ k y. R p a k y) f p a new from)
      (λ j. at_one (λ k y. R j (f j) k y) f p a (to j) (old j))

-- ---- functions of two and of three numbers
module _ {A : Type 0} (P : ℕ → ℕ → A → Type 0) (f : ℕ → ℕ → A) (p r : ℕ) (a : A) where
  pub at₂_one : P p r a → ((i j : ℕ) → P i j (f i j)) → (i j : ℕ) → P i j (at₂ f p r a i j)
  unfolding at₂
  at₂_one new old = at_one (λ i F. (j : ℕ) → P i j (F j)) f p _ (at_one (λ j x. P p j x) (f p) r a new (old p)) old

module _ {A : Type 0} (P : ℕ → ℕ → ℕ → A → Type 0) (f : ℕ → ℕ → ℕ → A) (p r q : ℕ) (a : A) where
  pub at₃_one : P p r q a → ((i j k : ℕ) → P i j k (f i j k)) → (i j k : ℕ) → P i j k (at₃ f p r q a i j k)
  unfolding at₃
  at₃_one new old = at_one (λ i F. (j k : ℕ) → P i j k (F j k)) f p _ (at₂_one (P p) (f p) r q a new (old p)) old

module _ {A B C : Type 0} (P : A → B → C → Type 0) (f : ℕ → ℕ → ℕ → A) (g : ℕ → ℕ → ℕ → B) (h : ℕ → ℕ → ℕ → C) (p r q : ℕ) (a : A) (b : B) (c : C) where
  pub at₃_all : P a b c → ((i j k : ℕ) → P (f i j k) (g i j k) (h i j k))
      → (i j k : ℕ) → P (at₃ f p r q a i j k) (at₃ g p r q b i j k) (at₃ h p r q c i j k)
  unfolding at₃ at₂
  at₃_all new old =
      at_all (λ i F G H. (j k : ℕ) → P (F j k) (G j k) (H j k)) f g h p _ _ _
      (at_all (λ j F G H. (k : ℕ) → P (F k) (G k) (H k)) (f p) (g p) (h p) r _ _ _
      (at_all (λ k x y z. P x y z) (f p r) (g p r) (h p r) q a b c new (old p r))
      (old p))
      old

module _ {A B : Type 0} (P : ℕ → ℕ → ℕ → A → B → Type 0) (f : ℕ → ℕ → ℕ → A) (g : ℕ → ℕ → ℕ → B) (p r q : ℕ) (a : A) (b : B) where
  pub at₃_each_both : P p r q a b
      → ((k : ℕ) → (k ≡ q → ⊥) → P p r k (f p r k) (g p r k))
      → ((j k : ℕ) → (j ≡ r → ⊥) → P p j k (f p j k) (g p j k))
      → ((i j k : ℕ) → (i ≡ p → ⊥) → P i j k (f i j k) (g i j k))
      → (i j k : ℕ) → P i j k (at₃ f p r q a i j k) (at₃ g p r q b i j k)
  unfolding at₃ at₂
  at₃_each_both new third second first =
      at_each_both (λ i F G. (j k : ℕ) → P i j k (F j k) (G j k)) f g p _ _
      (at_each_both (λ j F G. (k : ℕ) → P p j k (F k) (G k)) (f p) (g p) r _ _
      (at_each_both (λ k x y. P p r k x y) (f p r) (g p r) q a b new third)
      (λ j n k. second j k n))
      (λ i n j k. first i j k n)

-- ---- an old entry, and the new one itself
pub at_other : {A : Type 0} (f : ℕ → A) (p : ℕ) (a : A) (k : ℕ) → (k ≡ p → ⊥) → at f p a k ≡ f k
unfolding at
at_other f p a k n = rw (ne_eqb k p n, at)

pub at_same : {A : Type 0} (f : ℕ → A) (p : ℕ) (a : A) → at f p a p ≡ a
unfolding at
at_same f p a = rw (eq-eqb p p refl, at)

pub at₂_same : {A : Type 0} (f : ℕ → ℕ → A) (p r : ℕ) (a : A) → at₂ f p r a p r ≡ a
unfolding at₂
at₂_same {A = A} f p r a = ap (λ (g : ℕ → A). g r) (at_same f p (at (f p) r a)) ∙ at_same (f p) r a

pub at₃_same : {A : Type 0} (f : ℕ → ℕ → ℕ → A) (p r q : ℕ) (a : A) → at₃ f p r q a p r q ≡ a
unfolding at₃
at₃_same {A = A} f p r q a = ap (λ (g : ℕ → ℕ → A). g r q) (at_same f p (at₂ (f p) r q a)) ∙ at₂_same (f p) r q a

pub at₂_other : {A : Type 0} (f : ℕ → ℕ → A) (p r : ℕ) (a : A) (i j : ℕ) → (i ≡ p → j ≡ r → ⊥) → at₂ f p r a i j ≡ f i j
unfolding at₂
at₂_other f p r a i j n =
    at_each (λ i F. (i ≡ p → j ≡ r → ⊥) → F j ≡ f i j) f p _ (λ n. at_other (f p) r a j (n refl)) (λ i other n. refl) i n

pub at₃_other : {A : Type 0} (f : ℕ → ℕ → ℕ → A) (p r q : ℕ) (a : A) (i j k : ℕ) → (i ≡ p → j ≡ r → k ≡ q → ⊥) → at₃ f p r q a i j k ≡ f i j k
unfolding at₃
at₃_other f p r q a i j k n =
    at_each (λ i F. (i ≡ p → j ≡ r → k ≡ q → ⊥) → F j k ≡ f i j k) f p _ (λ n. at₂_other (f p) r q a j k (n refl)) (λ i other n. refl) i n

-- ---- what holds of both arms holds of the one chosen
pub cond_either : {A : Type 0} (P : A → Type 0) (b : Bool) (x y : A) → (b ≡ true → P x) → (b ≡ false → P y) → P (cond b x y)
cond_either P true x y f g = f refl
cond_either P false x y f g = g refl
