-- Every example of reading holds, by computing it: a theorem for each, so that of a wrong definition the checker says which example fails; and then
-- all of them under one statement. Assumes nothing.
use mathlib.Core.Path.{◌≡◌, refl}
use mathlib.Core.Bool.{true}
use Rattle.rounds.specs.Examples.{every}
use Rattle.records.specs.Examples.{says, reads, input, examples}
use Rattle.records.specs.Examples.{opening_of_one, opening_of_too_many, opening_of_nobody, send_record, receive_record, step_record, broadcast_record, end_record, no_byte, two_bytes, unknown_first, unknown_later, send_first, end_first, opening_later, send_of_three, send_little_endian, end_not_empty, send_cut, step_cut, opening_of_no_length, opening_without_n, opening_too_short, opening_little_endian, opening_cut, nothing_behind, byte_behind, end_behind, values_big_endian, whole_input, input_and_more}

-- ---- whole records, whatever follows
pub opening_of_one_lem : opening_of_one ≡ true
unfolding says opening_of_one
opening_of_one_lem = refl

pub opening_of_too_many_lem : opening_of_too_many ≡ true
unfolding says opening_of_too_many
opening_of_too_many_lem = refl

pub opening_of_nobody_lem : opening_of_nobody ≡ true
unfolding says opening_of_nobody
opening_of_nobody_lem = refl

pub send_record_lem : send_record ≡ true
unfolding says send_record
send_record_lem = refl

pub receive_record_lem : receive_record ≡ true
unfolding says receive_record
receive_record_lem = refl

pub step_record_lem : step_record ≡ true
unfolding says step_record
step_record_lem = refl

pub broadcast_record_lem : broadcast_record ≡ true
unfolding says broadcast_record
broadcast_record_lem = refl

pub end_record_lem : end_record ≡ true
unfolding says end_record
end_record_lem = refl

-- ---- fewer than 3 bytes, before the tag
pub no_byte_lem : no_byte ≡ true
unfolding says no_byte
no_byte_lem = refl

pub two_bytes_lem : two_bytes ≡ true
unfolding says two_bytes
two_bytes_lem = refl

-- ---- the tag, before the place
pub unknown_first_lem : unknown_first ≡ true
unfolding says unknown_first
unknown_first_lem = refl

pub unknown_later_lem : unknown_later ≡ true
unfolding says unknown_later
unknown_later_lem = refl

-- ---- the place, before the length
pub send_first_lem : send_first ≡ true
unfolding says send_first
send_first_lem = refl

pub end_first_lem : end_first ≡ true
unfolding says end_first
end_first_lem = refl

pub opening_later_lem : opening_later ≡ true
unfolding says opening_later
opening_later_lem = refl

-- ---- the length, before the body; it is big-endian
pub send_of_three_lem : send_of_three ≡ true
unfolding says send_of_three
send_of_three_lem = refl

pub send_little_endian_lem : send_little_endian ≡ true
unfolding says send_little_endian
send_little_endian_lem = refl

pub end_not_empty_lem : end_not_empty ≡ true
unfolding says end_not_empty
end_not_empty_lem = refl

pub send_cut_lem : send_cut ≡ true
unfolding says send_cut
send_cut_lem = refl

pub step_cut_lem : step_cut ≡ true
unfolding says step_cut
step_cut_lem = refl

-- ---- an opening: length 0, N missing, the length for N, the rest missing
pub opening_of_no_length_lem : opening_of_no_length ≡ true
unfolding says opening_of_no_length
opening_of_no_length_lem = refl

pub opening_without_n_lem : opening_without_n ≡ true
unfolding says opening_without_n
opening_without_n_lem = refl

pub opening_too_short_lem : opening_too_short ≡ true
unfolding says opening_too_short
opening_too_short_lem = refl

pub opening_little_endian_lem : opening_little_endian ≡ true
unfolding says opening_little_endian
opening_little_endian_lem = refl

pub opening_cut_lem : opening_cut ≡ true
unfolding says opening_cut
opening_cut_lem = refl

-- ---- behind the end record
pub nothing_behind_lem : nothing_behind ≡ true
unfolding says nothing_behind
nothing_behind_lem = refl

pub byte_behind_lem : byte_behind ≡ true
unfolding says byte_behind
byte_behind_lem = refl

pub end_behind_lem : end_behind ≡ true
unfolding says end_behind
end_behind_lem = refl

-- ---- values are big-endian
pub values_big_endian_lem : values_big_endian ≡ true
unfolding says values_big_endian
values_big_endian_lem = refl

-- ---- all records, one after the other: document 01's input, and with a byte behind it
pub whole_input_lem : whole_input ≡ true
unfolding says reads input whole_input
whole_input_lem = refl

pub input_and_more_lem : input_and_more ≡ true
unfolding says reads input input_and_more
input_and_more_lem = refl

-- ---- all of them
pub examples_hold : every examples ≡ true
unfolding examples
examples_hold =
    rw (
      opening_of_one_lem,
      opening_of_too_many_lem,
      opening_of_nobody_lem,
      send_record_lem,
      receive_record_lem,
      step_record_lem,
      broadcast_record_lem,
      end_record_lem,
      no_byte_lem,
      two_bytes_lem,
      unknown_first_lem,
      unknown_later_lem,
      send_first_lem,
      end_first_lem,
      opening_later_lem,
      send_of_three_lem,
      send_little_endian_lem,
      end_not_empty_lem,
      send_cut_lem,
      step_cut_lem,
      opening_of_no_length_lem,
      opening_without_n_lem,
      opening_too_short_lem,
      opening_little_endian_lem,
      opening_cut_lem,
      nothing_behind_lem,
      byte_behind_lem,
      end_behind_lem,
      values_big_endian_lem,
      whole_input_lem,
      input_and_more_lem,
    )
