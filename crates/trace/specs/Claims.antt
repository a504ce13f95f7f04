-- What the statements about traces speak of. Assumes nothing.
use Rattle.std.specs.Prelude.{ℕ, ◌*◌, ◌≡◌, List, ◌∷◌, ◌++◌, length}

-- two traces that differ in the values of their opening alone: behind tag, length and N they have as many bytes for the values, and then the same
pub record Revalued (w u : List ℕ) : Type 0 where
  pub high : ℕ
  pub low : ℕ
  pub size : ℕ
  pub values : List ℕ
  pub others : List ℕ
  pub rest : List ℕ
  pub one : w ≡ 1 ∷ high ∷ low ∷ size ∷ (values ++ rest)
  pub other : u ≡ 1 ∷ high ∷ low ∷ size ∷ (others ++ rest)
  pub four : length values ≡ 4 * size
  pub four_others : length others ≡ 4 * size
