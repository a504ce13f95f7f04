-- What some bytes say, each as a test that computes: every record, and every pair of document 01's tests in its order.
-- Assumes nothing.
use Rattle.std.specs.Prelude.{ℕ, suc, ◌+◌, ◌*◌, Bool, ◌&&◌, List, [], ◌∷◌, ◌++◌, replicate, Some, None, Ok, Err}
use Rattle.rounds.specs.declared.Event.{Event}
use Rattle.rounds.specs.declared.Event.TheVariants as event
use Rattle.rounds.specs.Limits.{most_processes}
use Rattle.rounds.specs.Examples.{equal}
use Rattle.records.specs.declared.Place.{Place}
use Rattle.records.specs.declared.Place.TheVariants.{First, Later, Behind}
use Rattle.records.specs.declared.Record.TheVariants.{Opening, Happens, End}
use Rattle.records.specs.Records.{Reading, fault_number, tag_of, misplaced, size_of, made, plain, opening, judged, headed, parse, event_extent, extent}
use Rattle.records.specs.Script.{word, words, values_of, stopped, adds, on_record, script_behind, script}

-- ---- a record as numbers: its tag and what it says; the number of a fault; nothing for bytes that are cut short
abbrev pub told : Event → List ℕ
told (event.Send p q) = 16 ∷ p ∷ q ∷ []
told (event.Receive p q) = 17 ∷ p ∷ q ∷ []
told (event.Step p) = 18 ∷ p ∷ []
told (event.Broadcast p) = 19 ∷ p ∷ []

abbrev pub said : Reading → List ℕ
said (Err f) = fault_number f ∷ []
said (Ok None) = []
said (Ok (Some (Opening n))) = 1 ∷ n ∷ []
said (Ok (Some (Happens e))) = told e
said (Ok (Some End)) = 127 ∷ []

-- to unfold `says` is to unfold the whole reading: its `unfolding` line names all of it
unfoldable pub says : Place → List ℕ → List ℕ → Bool
unfolding fault_number tag_of misplaced size_of made plain opening judged headed parse event_extent extent word words values_of stopped adds on_record script_behind script
says pl bytes answer = equal (said (parse pl bytes)) answer

abbrev pub all_told : List Event → List ℕ
all_told [] = []
all_told (e ∷ es) = told e ++ all_told es

-- the events of all bytes, and what is left
unfoldable pub reads : List ℕ → List ℕ → List ℕ → Bool
reads bytes events left = equal (all_told (script First bytes).events) events && equal (script First bytes).left left

-- document 01's input
unfoldable pub input : List ℕ
input =
    1 ∷ 0 ∷ 9 ∷ 2 ∷ 0 ∷ 0 ∷ 0 ∷ 7 ∷ 0 ∷ 0 ∷ 0 ∷ 4
    ∷ 16 ∷ 0 ∷ 2 ∷ 0 ∷ 0
    ∷ 16 ∷ 0 ∷ 2 ∷ 0 ∷ 1
    ∷ 17 ∷ 0 ∷ 2 ∷ 0 ∷ 0
    ∷ 16 ∷ 0 ∷ 2 ∷ 1 ∷ 0
    ∷ 17 ∷ 0 ∷ 2 ∷ 0 ∷ 1
    ∷ 18 ∷ 0 ∷ 1 ∷ 0
    ∷ 127 ∷ 0 ∷ 0
    ∷ []

-- an opening of n processes, of the value 0 each. Its length is below 256
abbrev pub opening_of : ℕ → List ℕ
opening_of n = 1 ∷ 0 ∷ (1 + 4 * n) ∷ n ∷ replicate (4 * n) 0

-- ---- whole records, whatever follows
unfoldable pub opening_of_one : Bool
opening_of_one = says First (1 ∷ 0 ∷ 5 ∷ 1 ∷ 0 ∷ 0 ∷ 0 ∷ 7 ∷ 16 ∷ []) (1 ∷ 1 ∷ [])

-- an N above the limit is a whole record too: that it is refused is the machine's
unfoldable pub opening_of_too_many : Bool
opening_of_too_many = says First (opening_of (suc most_processes)) (1 ∷ suc most_processes ∷ [])

unfoldable pub opening_of_nobody : Bool
opening_of_nobody = says First (1 ∷ 0 ∷ 1 ∷ 0 ∷ []) (1 ∷ 0 ∷ [])

unfoldable pub send_record : Bool
send_record = says Later (16 ∷ 0 ∷ 2 ∷ 3 ∷ 4 ∷ 5 ∷ []) (16 ∷ 3 ∷ 4 ∷ [])

unfoldable pub receive_record : Bool
receive_record = says Later (17 ∷ 0 ∷ 2 ∷ 3 ∷ 4 ∷ []) (17 ∷ 3 ∷ 4 ∷ [])

unfoldable pub step_record : Bool
step_record = says Later (18 ∷ 0 ∷ 1 ∷ 255 ∷ []) (18 ∷ 255 ∷ [])

unfoldable pub broadcast_record : Bool
broadcast_record = says Later (19 ∷ 0 ∷ 1 ∷ 3 ∷ []) (19 ∷ 3 ∷ [])

unfoldable pub end_record : Bool
end_record = says Later (127 ∷ 0 ∷ 0 ∷ []) (127 ∷ [])

-- ---- fewer than 3 bytes, before the tag
unfoldable pub no_byte : Bool
no_byte = says First [] []

unfoldable pub two_bytes : Bool
two_bytes = says Later (32 ∷ 0 ∷ []) []

-- ---- the tag, before the place
unfoldable pub unknown_first : Bool
unknown_first = says First (32 ∷ 0 ∷ 0 ∷ []) (10 ∷ [])

unfoldable pub unknown_later : Bool
unknown_later = says Later (2 ∷ 0 ∷ 0 ∷ []) (10 ∷ [])

-- ---- the place, before the length
unfoldable pub send_first : Bool
send_first = says First (16 ∷ 0 ∷ 9 ∷ []) (12 ∷ [])

unfoldable pub end_first : Bool
end_first = says First (127 ∷ 0 ∷ 0 ∷ []) (12 ∷ [])

unfoldable pub opening_later : Bool
opening_later = says Later (1 ∷ 0 ∷ 0 ∷ []) (12 ∷ [])

-- ---- the length, before the body; it is big-endian
unfoldable pub send_of_three : Bool
send_of_three = says Later (16 ∷ 0 ∷ 3 ∷ []) (11 ∷ [])

unfoldable pub send_little_endian : Bool
send_little_endian = says Later (16 ∷ 2 ∷ 0 ∷ 3 ∷ 4 ∷ []) (11 ∷ [])

unfoldable pub end_not_empty : Bool
end_not_empty = says Later (127 ∷ 1 ∷ 0 ∷ []) (11 ∷ [])

unfoldable pub send_cut : Bool
send_cut = says Later (16 ∷ 0 ∷ 2 ∷ 3 ∷ []) []

unfoldable pub step_cut : Bool
step_cut = says Later (18 ∷ 0 ∷ 1 ∷ []) []

-- ---- an opening: length 0, N missing, the length for N, the rest missing
unfoldable pub opening_of_no_length : Bool
opening_of_no_length = says First (1 ∷ 0 ∷ 0 ∷ []) (11 ∷ [])

unfoldable pub opening_without_n : Bool
opening_without_n = says First (1 ∷ 0 ∷ 4 ∷ []) []

unfoldable pub opening_too_short : Bool
opening_too_short = says First (1 ∷ 0 ∷ 8 ∷ 2 ∷ []) (11 ∷ [])

unfoldable pub opening_little_endian : Bool
opening_little_endian = says First (1 ∷ 9 ∷ 0 ∷ 2 ∷ []) (11 ∷ [])

unfoldable pub opening_cut : Bool
opening_cut = says First (1 ∷ 0 ∷ 9 ∷ 2 ∷ 0 ∷ 0 ∷ 0 ∷ 7 ∷ 0 ∷ 0 ∷ 0 ∷ []) []

-- ---- behind the end record
unfoldable pub nothing_behind : Bool
nothing_behind = says Behind [] []

unfoldable pub byte_behind : Bool
byte_behind = says Behind (0 ∷ []) (13 ∷ [])

unfoldable pub end_behind : Bool
end_behind = says Behind (127 ∷ 0 ∷ 0 ∷ []) (13 ∷ [])

-- ---- values are big-endian
unfoldable pub values_big_endian : Bool
values_big_endian = equal (values_of 2 (1 ∷ 0 ∷ 9 ∷ 2 ∷ 1 ∷ 2 ∷ 3 ∷ 4 ∷ 0 ∷ 0 ∷ 1 ∷ 0 ∷ 99 ∷ [])) (16909060 ∷ 256 ∷ [])

-- ---- all records, one after the other: document 01's input, and with a byte behind it
unfoldable pub whole_input : Bool
whole_input = reads input (16 ∷ 0 ∷ 0 ∷ 16 ∷ 0 ∷ 1 ∷ 17 ∷ 0 ∷ 0 ∷ 16 ∷ 1 ∷ 0 ∷ 17 ∷ 0 ∷ 1 ∷ 18 ∷ 0 ∷ []) []

unfoldable pub input_and_more : Bool
input_and_more = reads (input ++ (0 ∷ [])) (16 ∷ 0 ∷ 0 ∷ 16 ∷ 0 ∷ 1 ∷ 17 ∷ 0 ∷ 0 ∷ 16 ∷ 1 ∷ 0 ∷ 17 ∷ 0 ∷ 1 ∷ 18 ∷ 0 ∷ []) (0 ∷ [])

-- ---- all of them
unfoldable pub examples : List Bool
examples =
    opening_of_one ∷ opening_of_too_many ∷ opening_of_nobody ∷ send_record ∷ receive_record ∷ step_record ∷ broadcast_record ∷ end_record ∷ no_byte ∷ two_bytes
    ∷ unknown_first ∷ unknown_later ∷ send_first ∷ end_first ∷ opening_later ∷ send_of_three ∷ send_little_endian ∷ end_not_empty ∷ send_cut ∷ step_cut
    ∷ opening_of_no_length ∷ opening_without_n ∷ opening_too_short ∷ opening_little_endian ∷ opening_cut ∷ nothing_behind ∷ byte_behind ∷ end_behind
    ∷ values_big_endian ∷ whole_input ∷ input_and_more ∷ []
