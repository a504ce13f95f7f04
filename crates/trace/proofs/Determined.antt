-- Two results that the exact promise of a call allows are equal, the whole memory included: one lemma for each promise, and of the promise itself.
-- Assumes nothing.
use Prim.Native.Nat.{ℕ}
use mathlib.Core.Path.{◌≡◌}
use mathlib.Core.List.{List}
use Rattle.sets.proofs.Determined.{determined}
use Rattle.words.specs.Layout.{Mem}
use Rattle.records.specs.declared.Place.{Place}
use Rattle.trace.specs.Outcome.{Ending}
use Rattle.trace.specs.Turns.{Turn}
use Rattle.trace.specs.Exact.{RecordDone, HasteDone, TraceDone}

module _ (pl : Place) (m : Mem) (w : List ℕ) {x y : Mem} where
  pub one_record_determined : {r s : Turn} → RecordDone pl m w r x → RecordDone pl m w s y → (r ≡ s) × (x ≡ y)
  one_record_determined a b = (determined a.0 b.0, determined a.1 b.1)

  pub hasten_determined : {r s : ℕ} → HasteDone pl m w r x → HasteDone pl m w s y → (r ≡ s) × (x ≡ y)
  hasten_determined a b = (determined a.0 b.0, determined a.1 b.1)

pub replay_determined : (w : List ℕ) {r s : Ending} {x y : Mem} → TraceDone w r x → TraceDone w s y → (r ≡ s) × (x ≡ y)
replay_determined w a b = (determined a.0 b.0, determined a.1 b.1)
