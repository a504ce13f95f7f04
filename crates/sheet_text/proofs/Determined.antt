-- Two results that the contract of a public call allows are equal, all that is lent included. Assumes nothing.
use Prim.Native.Nat.{ℕ}
use mathlib.Core.Path.{◌≡◌}
use mathlib.Core.List.{List}
use Rattle.sets.proofs.Determined.{determined}
use Rattle.words.specs.Layout.{Mem}
use Rattle.lines.specs.declared.Stand.{Stand}
use Rattle.lines.specs.declared.Piece.{Piece}
use Rattle.lines.specs.Pieces.{Part, Came}
use Rattle.sheet_text.specs.Exact.{SheetBegun, BytesKept}

pub begin_determined : {r s : Stand} {x y : Mem} → SheetBegun r x → SheetBegun s y → (r ≡ s) × (x ≡ y)
begin_determined p q = (determined p.0 q.0, determined p.1 q.1)

pub write_determined : {x : Part} {w out : List ℕ} {p q : Piece} {m n : Mem} {a b : List ℕ} → Came x w out p m a → Came x w out q n b
    → (p ≡ q) × (m ≡ n) × (a ≡ b)
write_determined c d = (determined c.says d.says, determined c.words d.words, determined c.text d.text)

pub keep_determined : (l : List ℕ) (from to : ℕ) {r s : ℕ} {a b : List ℕ} → BytesKept l from to r a → BytesKept l from to s b → (r ≡ s) × (a ≡ b)
keep_determined l from to p q = (determined p.0 q.0, determined p.1 q.1)
