-- Rust's number of a stage is its place in the order of document 01.
-- Assumes nothing.
use Rattle.std.proofs.Common.{◌≡◌, ◌<◌, false, refl, arith}
use denote.Enum.Declared.{tag_of}
use denote.Enum.Bare.{sameb}
use Rattle.rounds.specs.contracts.Stage.{the_type}
use Rattle.rounds.specs.declared.Stage.{Stage}
use Rattle.rounds.specs.declared.Stage.TheVariants.{Sending, Collecting, Pending, Idle}
use Rattle.rounds.specs.Stages.{index, one}

pub numbered : (s : Stage) → (tag_of the_type s ≡ index s) × (tag_of the_type s < 4)
unfolding index
numbered Sending = (refl, omega arith)
numbered Collecting = (refl, omega arith)
numbered Pending = (refl, omega arith)
numbered Idle = (refl, omega arith)

-- a stage counts nothing for another
pub apart : (a s : Stage) → false ≡ sameb the_type a s → one a s ≡ 0
unfolding one
apart a s e = rw (← (numbered a).0, ← (numbered s).0, ← e)
