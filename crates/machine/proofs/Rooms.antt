-- A word has room for every process: the sets in words are the sets.
-- Assumes nothing.
use Rattle.std.proofs.Common.{◌≡◌, ℕ, ◌<◌, ◌≤◌, arith, lt-ltb}
use Rattle.sets.specs.Sets.{with, full, with_room, full_room}
use Rattle.rounds.specs.Limits.{most_processes}

pub with_room_lem : (s k : ℕ) → k < most_processes → with_room s k ≡ with s k
unfolding with_room
with_room_lem s k h = rw (lt-ltb k 32 (omega arith))

pub full_room_lem : (n : ℕ) → n ≤ most_processes → full_room n ≡ full n
unfolding full_room
full_room_lem n h = rw (lt-ltb n 32 (omega arith))
