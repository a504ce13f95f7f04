-- The law of cutting: what is read whole is read the same whatever follows.
-- Assumes nothing.
use Prim.Native.Nat.{ℕ, ◌≤◌, ◌<◌}
use native.Mathlib.Omega.{arith}
use mathlib.Core.Path.{◌≡◌, refl}
use mathlib.Core.Bool.{Bool, true, false, cond}
use mathlib.Core.List.{List, ◌++◌}
use Rattle.std.specs.Prelude.{None, Result, Ok, Err}
use borrow.Author.Tests.{le-ltb, ltb-false}
use lib.Dec.{ltb, eqb}
use lib.ListN.{length, get_or, drop, length-append, get_or-append}
use lib.Seq.{take-append-le, drop-append-le}
use Rattle.records.specs.declared.Place.{Place}
use Rattle.records.specs.declared.Place.TheVariants.{First, Later, Behind}
use Rattle.records.specs.declared.Fault.{Fault}
use Rattle.records.specs.declared.Tag.{Tag}
use Rattle.records.specs.Records.{Reading, misplaced, needs, plain, opening, judged, headed, parse}

-- ---- where the bytes are not cut short, r' is r: by the shape of the definitions
abbrev Stays : Reading → Reading → Type 0
Stays r r' = (r ≡ Ok None → ⊥) → r' ≡ r

stays : (r : Reading) → Stays r r
stays r h = refl

stays_cond : (b : Bool) {x y x' y' : Reading} → Stays x x' → Stays y y' → Stays (cond b x y) (cond b x' y')
stays_cond true p q h = p h
stays_cond false p q h = q h

stays_needs : (k : ℕ) (w more : List ℕ) {r r' : Reading} → (k ≤ length w → Stays r r') → Stays (needs k w r) (needs k (w ++ more) r')
stays_needs k w more {r} {r'} f = go (ltb (length w) k) refl
  where
    go : (b : Bool) → ltb (length w) k ≡ b → (cond b (Ok None) r ≡ Ok None → ⊥) → needs k (w ++ more) r' ≡ cond b (Ok None) r
    go true e h = absurd (h refl)
    go false e h =
        let l : k ≤ length w = ltb-false (length w) k e in
        let m : k ≤ length (w ++ more) = omega (arith, length-append w more) in
        rw (le-ltb (length (w ++ more)) k m) (f l h)

-- ---- the definitions, one by one
plain_more : (t : Tag) (len : ℕ) (b more : List ℕ) → Stays (plain t len b) (plain t len (b ++ more))
unfolding plain
plain_more t len b more = stays_cond (eqb len _) (stays_needs len b more (λ l h. rw (take-append-le len b more l))) (stays _)

opening_more : (len : ℕ) (b more : List ℕ) → Stays (opening len b) (opening len (b ++ more))
unfolding opening
opening_more len b more =
    stays_cond (eqb len 0) (stays _)
    (stays_needs 1 b more (λ l. rw (get_or-append b more 0 0 (omega arith))
    (stays_cond (eqb len _) (stays_needs len b more (λ k. stays _)) (stays _))))

judged_more : (first : Bool) (t : Result Tag Fault) (len : ℕ) (b more : List ℕ) → Stays (judged first t len b) (judged first t len (b ++ more))
unfolding judged
judged_more first (Err f) len b more = stays _
judged_more first (Ok t) len b more =
    stays_cond (misplaced first t) (stays _) (stays_cond first (opening_more len b more) (plain_more t len b more))

headed_more : (first : Bool) (w more : List ℕ) → Stays (headed first w) (headed first (w ++ more))
unfolding headed
headed_more first w more =
    stays_needs 3 w more
    (λ l. rw (byte 0 (omega arith), byte 1 (omega arith), byte 2 (omega arith), drop-append-le 3 w more l) (judged_more first _ _ (drop 3 w) more))
  where
    byte : (i : ℕ) → i < length w → get_or (w ++ more) i 0 ≡ get_or w i 0
    byte i h = get_or-append w more 0 i h

-- ---- what is read whole is read the same whatever follows
pub parse_more : (pl : Place) (w more : List ℕ) → (parse pl w ≡ Ok None → ⊥) → parse pl (w ++ more) ≡ parse pl w
unfolding parse
parse_more First w more = headed_more true w more
parse_more Later w more = headed_more false w more
parse_more Behind w more = stays_needs 1 w more (λ l. stays _)
