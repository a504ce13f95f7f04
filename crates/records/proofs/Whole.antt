-- A whole record lies within the bytes, goes over a byte at least, and stands only where it may.
-- Assumes nothing.
use Prim.Native.Nat.{ℕ, ◌+◌, ◌*◌, ◌≤◌, ◌<◌}
use native.Mathlib.Omega.{arith}
use mathlib.Core.Path.{◌≡◌, refl, sym}
use mathlib.Core.Bool.{Bool, true, false, cond, true≢false}
use mathlib.Core.List.{List, []}
use Rattle.std.specs.Prelude.{Some, None, Result, Ok, Err}
use borrow.Author.Tests.{ltb-true, ltb-false, eqb-true}
use lib.Dec.{ltb, eqb}
use lib.ListN.{length, get_or, take, drop, length-drop}
use Rattle.rounds.specs.declared.Event.{Event}
use Rattle.rounds.specs.declared.Event.TheVariants as event
use Rattle.records.specs.declared.Place.{Place}
use Rattle.records.specs.declared.Place.TheVariants.{First, Later, Behind}
use Rattle.records.specs.declared.Fault.{Fault}
use Rattle.records.specs.declared.Record.TheVariants.{Opening, Happens, End}
use Rattle.records.specs.declared.Tag.{Tag}
use Rattle.records.specs.declared.Tag.TheVariants as tag
use Rattle.records.specs.Records.{Reading, misplaced, size_of, made, needs, plain, opening, judged, headed, parse, event_extent, extent, extent_of}

size_most : (t : Tag) → size_of t ≤ 2
unfolding size_of
size_most tag.Opening = omega arith
size_most tag.Send = omega arith
size_most tag.Receive = omega arith
size_most tag.Step = omega arith
size_most tag.Broadcast = omega arith
size_most tag.End = omega arith

-- ---- through the tests: a property of readings that every fault has, and `Ok None` where bytes are missing of an event or an end record, or of an opening
module _ (w : List ℕ) (P : Reading → Type 0) (few : length w < 5 → P (Ok None)) (short : length w < 4 + 4 * get_or (drop 3 w) 0 0 → P (Ok None))
    (wrong : (f : Fault) → P (Err f)) where
  holds_cond : (b : Bool) {x y : Reading} → (b ≡ true → P x) → (b ≡ false → P y) → P (cond b x y)
  holds_cond true p q = p refl
  holds_cond false p q = q refl

  holds_needs : (k : ℕ) (v : List ℕ) {r : Reading} → (length v < k → P (Ok None)) → (k ≤ length v → P r) → P (needs k v r)
  holds_needs k v c f = holds_cond (ltb (length v) k) (λ e. c (ltb-true (length v) k e)) (λ e. f (ltb-false (length v) k e))

  -- behind the head
  module _ (len : ℕ) (head : length w ≤ 3 + length (drop 3 w)) where
    abbrev body : List ℕ
    body = drop 3 w

    holds_plain : (t : Tag) → (len ≡ size_of t → len ≤ length body → P (Ok (Some (made t (take len body))))) → P (plain t len body)
    unfolding plain
    holds_plain t f =
        holds_cond (eqb len (size_of t))
        (λ e. let q = eqb-true len (size_of t) e in holds_needs len body (λ l. few (let m = size_most t in omega arith)) (f q))
        (λ e. wrong _)

    holds_opening : (len ≡ 1 + 4 * get_or body 0 0 → len ≤ length body → P (Ok (Some (Opening (get_or body 0 0))))) → P (opening len body)
    unfolding opening
    holds_opening f =
        holds_cond (eqb len 0) (λ e. wrong _)
        (λ e. holds_needs 1 body (λ l. few (omega arith))
        (λ l. holds_cond (eqb len (1 + 4 * get_or body 0 0))
        (λ e. let q = eqb-true len (1 + 4 * get_or body 0 0) e in holds_needs len body (λ l. short (omega arith)) (f q))
        (λ e. wrong _)))

    -- behind the tests of tag and place
    holds_judged : (first : Bool) (t : Result Tag Fault)
        → (first ≡ true → len ≡ 1 + 4 * get_or body 0 0 → len ≤ length body → P (Ok (Some (Opening (get_or body 0 0)))))
        → (first ≡ false → (t : Tag) → len ≡ size_of t → len ≤ length body → P (Ok (Some (made t (take len body)))))
        → P (judged first t len body)
    unfolding judged
    holds_judged first (Err x) f g = wrong x
    holds_judged first (Ok t) f g =
        holds_cond (misplaced first t) (λ q. wrong _)
        (λ q. holds_cond first (λ y. holds_opening (f y)) (λ n. holds_plain t (g n t)))

  holds_headed : (first : Bool)
      → (first ≡ true → 4 + 4 * get_or (drop 3 w) 0 0 ≤ length w → P (Ok (Some (Opening (get_or (drop 3 w) 0 0)))))
      → (first ≡ false → (t : Tag) (b : List ℕ) → 3 + size_of t ≤ length w → P (Ok (Some (made t b))))
      → P (headed first w)
  unfolding headed
  holds_headed first f g =
      holds_needs 3 w (λ l. few (omega arith))
      (λ l. holds_judged _ (omega (arith, length-drop 3 w)) first _
      (λ y e m. f y (omega (arith, length-drop 3 w)))
      (λ n t e m. g n t _ (omega (arith, length-drop 3 w))))

  -- an opening stands only first, any other only later, and none behind
  pub holds_first : (4 + 4 * get_or (drop 3 w) 0 0 ≤ length w → P (Ok (Some (Opening (get_or (drop 3 w) 0 0))))) → P (parse First w)
  unfolding parse
  holds_first f = holds_headed true (λ e. f) (λ e. absurd (true≢false e))

  pub holds_later : ((t : Tag) (b : List ℕ) → 3 + size_of t ≤ length w → P (Ok (Some (made t b)))) → P (parse Later w)
  unfolding parse
  holds_later f = holds_headed false (λ e. absurd (true≢false (sym e))) (λ e. f)

  pub holds_behind : P (parse Behind w)
  unfolding parse
  holds_behind = holds_needs 1 w (λ l. few (omega arith)) (λ l. wrong _)

-- ---- a whole record lies within the bytes
made_extent : (t : Tag) (b : List ℕ) → extent (made t b) ≤ 3 + size_of t
unfolding made size_of extent event_extent
made_extent tag.Opening b = omega arith
made_extent tag.Send b = omega arith
made_extent tag.Receive b = omega arith
made_extent tag.Step b = omega arith
made_extent tag.Broadcast b = omega arith
made_extent tag.End b = omega arith

pub extent_within : (pl : Place) (w : List ℕ) → extent_of (parse pl w) ≤ length w
unfolding extent extent_of
extent_within First w = holds_first w (λ r. extent_of r ≤ length w) (λ l. omega arith) (λ l. omega arith) (λ f. omega arith) (λ h. h)
extent_within Later w =
    holds_later w (λ r. extent_of r ≤ length w) (λ l. omega arith) (λ l. omega arith) (λ f. omega arith)
    (λ t b h. let m = made_extent t b in omega arith)
extent_within Behind w = holds_behind w (λ r. extent_of r ≤ length w) (λ l. omega arith) (λ l. omega arith) (λ f. omega arith)

-- ---- and goes over a byte at least
pub event_some : (e : Event) → 0 < event_extent e
unfolding event_extent
event_some (event.Send p q) = omega arith
event_some (event.Receive p q) = omega arith
event_some (event.Step p) = omega arith
event_some (event.Broadcast p) = omega arith

-- ---- which records stand where
unfoldable pub Placed : Place → Reading → Type 0
Placed pl (Err f) = Unit {0}
Placed pl (Ok None) = Unit {0}
Placed First (Ok (Some (Opening n))) = Unit {0}
Placed First (Ok (Some (Happens e))) = ⊥
Placed First (Ok (Some End)) = ⊥
Placed Later (Ok (Some (Opening n))) = ⊥
Placed Later (Ok (Some (Happens e))) = Unit {0}
Placed Later (Ok (Some End)) = Unit {0}
Placed Behind (Ok (Some r)) = ⊥

made_later : (t : Tag) (b : List ℕ) → Placed Later (Ok (Some (made t b)))
unfolding made Placed
made_later tag.Opening b = tt
made_later tag.Send b = tt
made_later tag.Receive b = tt
made_later tag.Step b = tt
made_later tag.Broadcast b = tt
made_later tag.End b = tt

pub placed : (pl : Place) (w : List ℕ) → Placed pl (parse pl w)
unfolding Placed
placed First w = holds_first w (Placed First) (λ l. tt) (λ l. tt) (λ f. tt) (λ h. tt)
placed Later w = holds_later w (Placed Later) (λ l. tt) (λ l. tt) (λ f. tt) (λ t b h. made_later t b)
placed Behind w = holds_behind w (Placed Behind) (λ l. tt) (λ l. tt) (λ f. tt)

-- so what holds of each record where it may stand holds of the one that is read
pub each_placed : (Q : Place → Reading → Type 0)
    → ((n : ℕ) → Q First (Ok (Some (Opening n))))
    → ((e : Event) → Q Later (Ok (Some (Happens e))))
    → Q Later (Ok (Some End))
    → ((pl : Place) (f : Fault) → Q pl (Err f))
    → ((pl : Place) → Q pl (Ok None))
    → (pl : Place) (w : List ℕ) → Q pl (parse pl w)
unfolding Placed
each_placed Q opens happens ends wrong cut pl w = go pl (parse pl w) (placed pl w)
  where
    go : (pl : Place) (r : Reading) → Placed pl r → Q pl r
    go pl (Err f) h = wrong pl f
    go pl (Ok None) h = cut pl
    go First (Ok (Some (Opening n))) h = opens n
    go First (Ok (Some (Happens e))) h = absurd h
    go First (Ok (Some End)) h = absurd h
    go Later (Ok (Some (Opening n))) h = absurd h
    go Later (Ok (Some (Happens e))) h = happens e
    go Later (Ok (Some End)) h = ends
    go Behind (Ok (Some r)) h = absurd h

-- ---- of no bytes at all there is no record
pub parse_none : (pl : Place) → parse pl [] ≡ Ok None
unfolding parse headed
parse_none First = refl
parse_none Later = refl
parse_none Behind = refl
