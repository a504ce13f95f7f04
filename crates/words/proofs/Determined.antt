-- Two results that the exact promise of a call allows are equal, the whole memory included: one lemma for each promise, and of the promise itself.
-- Assumes nothing.
use Prim.Native.Nat.{ℕ}
use mathlib.Core.Path.{◌≡◌}
use mathlib.Core.List.{List}
use Rattle.sets.proofs.Determined.{determined}
use Rattle.rounds.specs.declared.Event.{Event}
use Rattle.std.specs.Prelude.{Result}
use Rattle.rounds.specs.declared.Refusal.{Refusal}
use Rattle.rounds.specs.Verdicts.{Verdict}
use Rattle.words.specs.declared.Finished.{Finished}
use Rattle.words.specs.Calls.{Answer}
use Rattle.words.specs.declared.Standing.{Standing}
use Rattle.words.specs.Layout.{Mem}
use Rattle.words.specs.Exact.{Cleared, Begun, Tried, Stepped, Answered, SizeRead, EventsRead, SiteRead}

-- an answer and a memory
both : {A : Type 0} {a r s : A} {m x y : Mem} → (r ≡ a) × (x ≡ m) → (s ≡ a) × (y ≡ m) → (r ≡ s) × (x ≡ y)
both p q = (determined p.0 q.0, determined p.1 q.1)

pub cleared_determined : {x y : Mem} → Cleared x → Cleared y → x ≡ y
cleared_determined a b = determined a b

module _ (m : Mem) {x y : Mem} where
  pub begun_determined : (n : ℕ) (xs : List ℕ) {r s : Verdict} → Begun m n xs r x → Begun m n xs s y → (r ≡ s) × (x ≡ y)
  begun_determined n xs a b = both a b

  pub tried_determined : (e : Event) {r s : Verdict} → Tried m e r x → Tried m e s y → (r ≡ s) × (x ≡ y)
  tried_determined e a b = both a b

  pub stepped_determined : (p : ℕ) {r s : Result Finished Refusal} → Stepped m p r x → Stepped m p s y → (r ≡ s) × (x ≡ y)
  stepped_determined p a b = both a b

  pub answered_determined : (e : Event) {r s : Answer} → Answered m e r x → Answered m e s y → (r ≡ s) × (x ≡ y)
  answered_determined e a b = both a b

-- ---- what is read changes nothing
module _ (m : Mem) where
  pub size_determined : {r s : ℕ} → SizeRead m r → SizeRead m s → r ≡ s
  size_determined a b = determined a b

  pub events_determined : {r s : ℕ} → EventsRead m r → EventsRead m s → r ≡ s
  events_determined a b = determined a b

  pub site_determined : (p : ℕ) {r s : Standing} → SiteRead m p r → SiteRead m p s → r ≡ s
  site_determined p a b = determined a b
