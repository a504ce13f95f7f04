-- What all the bytes say, whatever a machine makes of it: the events of the whole records one after the other, and where their reading comes to.
-- Assumes nothing.
use Rattle.std.specs.Prelude.{ℕ, zero, suc, ◌+◌, ◌-◌, ◌*◌, List, [], ◌∷◌, ◌++◌, get_or, take, drop, Some, None, Ok, Err}
use Rattle.rounds.specs.declared.Event.{Event}
use Rattle.records.specs.declared.Place.{Place}
use Rattle.records.specs.declared.Place.TheVariants.{Later, Behind}
use Rattle.records.specs.declared.Record.TheVariants.{Opening, Happens, End}
use Rattle.records.specs.Records.{Reading, parse, extent}

-- ---- the values of an opening of n processes that stands at the head of the bytes: four bytes each, big-endian, behind tag, length and N
unfoldable pub word : List ℕ → ℕ → ℕ
word l i = ((get_or l i 0 * 256 + get_or l (i + 1) 0) * 256 + get_or l (i + 2) 0) * 256 + get_or l (i + 3) 0

unfoldable pub words : ℕ → List ℕ → List ℕ
words zero l = []
words (suc k) l = words k l ++ (word l (4 * k) ∷ [])

unfoldable pub values_of : ℕ → List ℕ → List ℕ
values_of n w = words n (take (4 * n) (drop 4 w))

-- ---- the reading of all whole records from a place on
pub record Script : Type 0 where
  -- what they say that happens, in order
  pub events : List Event
  -- how far the trace has come then
  pub place : Place
  -- and the bytes that are left: they begin with no whole record
  pub left : List ℕ

unfoldable pub stopped : Place → List ℕ → Script
stopped pl w = record { events = []; place = pl; left = w }

unfoldable pub adds : Event → Script → Script
adds e s = record { events = e ∷ s.events; place = s.place; left = s.left }

-- what the reading of w's head comes to; `next` reads on at a place, so many bytes further
unfoldable pub on_record : Place → List ℕ → Reading → (ℕ → Place → Script) → Script
on_record pl w (Err f) next = stopped pl w
on_record pl w (Ok None) next = stopped pl w
on_record pl w (Ok (Some (Opening n))) next = next (extent (Opening n)) Later
on_record pl w (Ok (Some (Happens e))) next = adds e (next (extent (Happens e)) Later)
on_record pl w (Ok (Some End)) next = next (extent End) Behind

-- behind the next k bytes
unfoldable pub script_behind : ℕ → Place → List ℕ → Script
script_behind k pl [] = stopped pl []
script_behind (suc k) pl (b ∷ bs) = script_behind k pl bs
script_behind zero pl (b ∷ bs) = on_record pl (b ∷ bs) (parse pl (b ∷ bs)) (λ k next. script_behind (k - 1) next bs)

unfoldable pub script : Place → List ℕ → Script
script pl w = script_behind 0 pl w

-- ---- bytes in two parts: what the first says, and then what is left of it says with the second
unfoldable pub after : List Event → Script → Script
after es s = record { events = es ++ s.events; place = s.place; left = s.left }

unfoldable pub joined : Script → List ℕ → Script
joined s more = after s.events (script s.place (s.left ++ more))
