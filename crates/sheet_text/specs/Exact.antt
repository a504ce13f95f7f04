-- What `begin` and `keep` promise exactly: the result, and what is lent at exit, are definitions of what came in. A contract cites its name here and
-- nothing else, and `write` cites `Came` of the pieces; that two results which it allows are equal is the lemma in proofs/Determined.
-- Assumes nothing.
use Rattle.std.specs.Prelude.{ℕ, ◌≡◌, List, length}
use Rattle.std.proofs.Math.Seq.{slice}
use Rattle.words.specs.Layout.{Mem}
use Rattle.words.specs.Calls.{blank}
use Rattle.records.specs.Stored.{over}
use Rattle.lines.specs.declared.Stand.{Stand}
use Rattle.lines.specs.Claims.{first}

-- `begin`: the memory is m' at exit, whatever it was
abbrev pub SheetBegun : Stand → Mem → Type 0
SheetBegun r m' = (r ≡ first) × (m' ≡ blank)

-- `keep`: the buffer is l at entry and l' at exit
abbrev pub BytesKept : List ℕ → ℕ → ℕ → ℕ → List ℕ → Type 0
BytesKept l from to r l' = (r ≡ length (slice from to l)) × (l' ≡ over (slice from to l) l)
