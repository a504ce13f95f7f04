-- Text written by a pen: what becomes of it and of its buffer, and that there is room for it. Assumes nothing.
use Rattle.std.specs.Prelude.{ℕ, ◌+◌, ◌≤◌, ◌≡◌, List, length}
use Rattle.std.proofs.lemmas.List.Edits.{sets}
use Rattle.sheet_text.specs.declared.text.Pen.{Pen}

-- p has become q: the text stands in the same buffer from the place of p on, up to the place of q
pub record Wrote (p q : Pen) (text : List ℕ) : Type 0 where
  pub same : q.out.ghost_name ≡ p.out.ghost_name
  pub place : q.at ≡ p.at + length text
  pub bytes : q.out.now ≡ sets p.out.now p.at text
  pub long : length q.out.now ≡ length p.out.now
  pub within : q.at ≤ length q.out.now

-- there is room for the text from the place of p on
pub record Fits (p : Pen) (text : List ℕ) : Type 0 where
  pub room : p.at + length text ≤ length p.out.now
