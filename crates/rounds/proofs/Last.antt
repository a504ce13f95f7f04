-- A list with one more event at its end: an event of it is that last one, or one of the others.
-- Assumes nothing.
use mathlib.Core.Path.{◌≡◌, refl, sym, ap, ◌∙◌}
use mathlib.Core.List.{List, [], ◌∷◌, ◌++◌, append_assoc, head-eq_of_cons-eq, tail-eq_of_cons-eq, cons≢nil}
use Rattle.rounds.specs.declared.Event.{Event}

-- ---- the last of a list
-- where e stands in xs with x at its end: it is x itself, or one of xs, and then `more` are behind it before x
pub data Last (earlier : List Event) (e : Event) (later xs : List Event) (x : Event) : Type 0 where
  itself : later ≡ [] → earlier ≡ xs → e ≡ x → Last earlier e later xs x
  sooner : (more : List Event) → later ≡ more ++ (x ∷ []) → earlier ++ (e ∷ more) ≡ xs → Last earlier e later xs x

-- no event stands in no list
pub nowhere : (a : List Event) (e : Event) (b : List Event) → a ++ (e ∷ b) ≡ [] → ⊥
nowhere [] e b h = cons≢nil h
nowhere (x ∷ a) e b h = cons≢nil h

pub last : (earlier : List Event) (e : Event) (later xs : List Event) (x : Event) → earlier ++ (e ∷ later) ≡ xs ++ (x ∷ []) → Last earlier e later xs x
last [] e later [] x h = itself (tail-eq_of_cons-eq h) refl (head-eq_of_cons-eq h)
last [] e later (y ∷ ys) x h = sooner ys (tail-eq_of_cons-eq h) (ap (λ (z : Event). z ∷ ys) (head-eq_of_cons-eq h))
last (a ∷ ms) e later [] x h = absurd (nowhere ms e later (tail-eq_of_cons-eq h))
last (a ∷ ms) e later (y ∷ ys) x h = go (last ms e later ys x (tail-eq_of_cons-eq h))
  where
    first : (l : List Event) → a ∷ l ≡ y ∷ l
    first l = ap (λ (z : Event). z ∷ l) (head-eq_of_cons-eq h)

    go : Last ms e later ys x → Last (a ∷ ms) e later (y ∷ ys) x
    go (itself none same is) = itself none (first ms ∙ ap (λ (l : List Event). y ∷ l) same) is
    go (sooner more ends rest) = sooner more ends (first (ms ++ (e ∷ more)) ∙ ap (λ (l : List Event). y ∷ l) rest)

-- one of xs is one of xs with x at its end
pub longer : (earlier : List Event) (e : Event) (later xs : List Event) (x : Event) → earlier ++ (e ∷ later) ≡ xs
    → earlier ++ (e ∷ (later ++ (x ∷ []))) ≡ xs ++ (x ∷ [])
longer earlier e later xs x h = sym (append_assoc earlier (e ∷ later) (x ∷ [])) ∙ ap (λ (l : List Event). l ++ (x ∷ [])) h
