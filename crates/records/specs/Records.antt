-- What stands at the head of the bytes of a trace: document 01's records, tested in its order. Every list of bytes has an answer.
-- Assumes nothing.
use Rattle.std.specs.Prelude.{ℕ, ◌+◌, ◌*◌, Bool, true, false, cond, not, List, ltb, eqb, length, get_or, take, drop, Option, Some, None, Result, Ok, Err}
use Rattle.rounds.specs.declared.Event.{Event}
use Rattle.rounds.specs.declared.Event.TheVariants as event
use Rattle.records.specs.declared.Place.{Place}
use Rattle.records.specs.declared.Place.TheVariants.{First, Later, Behind}
use Rattle.records.specs.declared.Fault.{Fault}
use Rattle.records.specs.declared.Fault.TheVariants.{EndsInside, UnknownTag, WrongLength, WrongPlace, BytesBehind}
use Rattle.records.specs.declared.Record.{Record}
use Rattle.records.specs.declared.Record.TheVariants.{Opening, Happens, End}
use Rattle.records.specs.declared.Tag.{Tag}
use Rattle.records.specs.declared.Tag.TheVariants as tag

-- the numbers of document 01
unfoldable pub fault_number : Fault → ℕ
fault_number EndsInside = 9
fault_number UnknownTag = 10
fault_number WrongLength = 11
fault_number WrongPlace = 12
fault_number BytesBehind = 13

-- what the bytes come to: a fault where they are wrong, no record where they are cut short, else the record that stands whole at their head
abbrev pub Reading : Type 0
Reading = Result (Option Record) Fault

-- the tags, 01, 10 to 13 and 7F in hex; any other byte is none
unfoldable pub tag_of : ℕ → Result Tag Fault
tag_of b =
    cond (eqb b 1) (Ok tag.Opening)
    (cond (eqb b 16) (Ok tag.Send)
    (cond (eqb b 17) (Ok tag.Receive)
    (cond (eqb b 18) (Ok tag.Step)
    (cond (eqb b 19) (Ok tag.Broadcast)
    (cond (eqb b 127) (Ok tag.End) (Err UnknownTag))))))

-- the first record must be an opening, and a later one must not
unfoldable pub misplaced : Bool → Tag → Bool
misplaced first tag.Opening = not first
misplaced first tag.Send = first
misplaced first tag.Receive = first
misplaced first tag.Step = first
misplaced first tag.Broadcast = first
misplaced first tag.End = first

-- the length of a body. An opening's goes by its N, and is not asked for
unfoldable pub size_of : Tag → ℕ
size_of tag.Opening = 0
size_of tag.Send = 2
size_of tag.Receive = 2
size_of tag.Step = 1
size_of tag.Broadcast = 1
size_of tag.End = 0

-- the record that a whole body makes; again an opening is not asked for
unfoldable pub made : Tag → List ℕ → Record
made tag.Opening b = End
made tag.Send b = Happens (event.Send (get_or b 0 0) (get_or b 1 0))
made tag.Receive b = Happens (event.Receive (get_or b 0 0) (get_or b 1 0))
made tag.Step b = Happens (event.Step (get_or b 0 0))
made tag.Broadcast b = Happens (event.Broadcast (get_or b 0 0))
made tag.End b = End

-- r where k bytes are there; else they are cut short
abbrev pub needs : ℕ → List ℕ → Reading → Reading
needs k w r = cond (ltb (length w) k) (Ok None) r

-- ---- behind the head, for a record that is no opening: the length, then the body
unfoldable pub plain : Tag → ℕ → List ℕ → Reading
plain t len body = cond (eqb len (size_of t)) (needs len body (Ok (Some (made t (take len body))))) (Err WrongLength)

-- ---- and for an opening: length 0, the first byte of the body, the length for N, the rest of the body
unfoldable pub opening : ℕ → List ℕ → Reading
opening len body =
    cond (eqb len 0) (Err WrongLength)
    (needs 1 body
    (cond (eqb len (1 + 4 * get_or body 0 0)) (needs len body (Ok (Some (Opening (get_or body 0 0))))) (Err WrongLength)))

-- ---- the tag, the place, then the length and the body
unfoldable pub judged : Bool → Result Tag Fault → ℕ → List ℕ → Reading
judged first (Err f) len body = Err f
judged first (Ok t) len body = cond (misplaced first t) (Err WrongPlace) (cond first (opening len body) (plain t len body))

-- ---- the head: a tag of one byte, a length of two, big-endian
unfoldable pub headed : Bool → List ℕ → Reading
headed first w = needs 3 w (judged first (tag_of (get_or w 0 0)) (get_or w 1 0 * 256 + get_or w 2 0) (drop 3 w))

-- ---- what stands at the head of the bytes, at each place of a trace
unfoldable pub parse : Place → List ℕ → Reading
parse First w = headed true w
parse Later w = headed false w
parse Behind w = needs 1 w (Err BytesBehind)

-- ---- how many bytes the longest record has: an opening, whose N is one byte
abbrev pub longest : ℕ
longest = 1024

-- ---- how many bytes a whole record has
unfoldable pub event_extent : Event → ℕ
event_extent (event.Send p q) = 5
event_extent (event.Receive p q) = 5
event_extent (event.Step p) = 4
event_extent (event.Broadcast p) = 4

unfoldable pub extent : Record → ℕ
extent (Opening n) = 4 + 4 * n
extent (Happens e) = event_extent e
extent End = 3

-- and of what the bytes come to; 0 where that is no record
unfoldable pub extent_of : Reading → ℕ
extent_of (Err f) = 0
extent_of (Ok None) = 0
extent_of (Ok (Some r)) = extent r
