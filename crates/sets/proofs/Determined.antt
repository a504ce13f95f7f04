-- Two results that an equation allows are equal. Every public call that changes no lent memory promises such an equation: its result is a
-- definition of its arguments. Assumes nothing.
use mathlib.Core.Path.{◌≡◌, sym, ◌∙◌}

pub determined : {A : Type 0} {x r s : A} → r ≡ x → s ≡ x → r ≡ s
determined p q = p ∙ sym q
