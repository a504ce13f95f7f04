-- Sends and receives are most of a trace, and tell nothing: those that stand whole at the head of the bytes and are accepted, all at once. What is done
-- of them is what their turns do. Assumes nothing.
use Rattle.std.specs.Prelude.{ℕ, zero, suc, ◌+◌, Bool, false, cond, ◌&&◌, List, [], ◌∷◌, ltb, eqb, length, get_or, Option, Some, None}
use Rattle.rounds.specs.declared.Event.{Event}
use Rattle.rounds.specs.declared.Event.TheVariants.{Send, Receive}
use Rattle.rounds.specs.Config.{Control}
use Rattle.rounds.specs.Verdicts.{accepted, verdict}
use Rattle.words.specs.Layout.{Mem}
use Rattle.words.specs.Spelled.{control_of}
use Rattle.words.specs.Calls.{applied}
use Rattle.records.specs.declared.Place.{Place}
use Rattle.records.specs.declared.Place.TheVariants.{First, Later, Behind}

-- the bytes of either: a tag, a length of 2, and two processes
abbrev pub hasty_extent : ℕ
hasty_extent = 5

unfoldable pub head_is : ℕ → List ℕ → Bool
head_is tag w = eqb (get_or w 0 0) tag && (eqb (get_or w 1 0) 0 && eqb (get_or w 2 0) 2)

-- the send or the receive that stands whole at the head of the bytes, if any does
unfoldable pub hasty : List ℕ → Option Event
hasty w =
    cond (ltb (length w) hasty_extent) None
    (cond (head_is 16 w) (Some (Send (get_or w 3 0) (get_or w 4 0)))
    (cond (head_is 17 w) (Some (Receive (get_or w 3 0) (get_or w 4 0))) None))

-- whether there is one that is accepted, and the memory after it
unfoldable pub goes : Control → Option Event → Bool
goes c (Some e) = accepted (verdict c e)
goes c None = false

unfoldable pub left : Mem → Option Event → Mem
left m (Some e) = applied m e
left m None = m

-- ---- as many as are accepted one after the other: their bytes, and the memory after them
pub record Haste : Type 0 where
  pub used : ℕ
  pub words : Mem

unfoldable pub stays : Mem → Haste
stays m = record { used = 0; words = m }

unfoldable pub further : Haste → Haste
further x = record { used = hasty_extent + x.used; words = x.words }

-- behind the next k bytes
unfoldable pub haste_behind : ℕ → Mem → List ℕ → Haste
haste_behind k m [] = stays m
haste_behind (suc k) m (b ∷ bs) = haste_behind k m bs
haste_behind zero m (b ∷ bs) =
    cond (goes (control_of m) (hasty (b ∷ bs))) (further (haste_behind 4 (left m (hasty (b ∷ bs))) bs)) (stays (left m (hasty (b ∷ bs))))

-- ---- at each place of a trace: an event stands only at a later one
unfoldable pub haste : Place → Mem → List ℕ → Haste
haste First m w = stays m
haste Later m w = haste_behind 0 m w
haste Behind m w = stays m
