-- Two results that the contract of the call allows are equal, every byte of the report included. Assumes nothing.
use Prim.Native.Nat.{ℕ}
use mathlib.Core.Path.{◌≡◌}
use mathlib.Core.List.{List}
use Rattle.sets.proofs.Determined.{determined}
use Rattle.tongsparkle.specs.Report.{Reported}

pub replay_determined : (w report : List ℕ) {r s : ℕ} {x y : List ℕ} → Reported w report r x → Reported w report s y → (r ≡ s) × (x ≡ y)
replay_determined w report a b = (determined a.0 b.0, determined a.1 b.1)
