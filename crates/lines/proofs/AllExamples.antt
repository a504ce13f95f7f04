-- Every example of a sheet is right, by computing it: a theorem for each, so that of a wrong definition the checker says which example fails; and
-- then all of them under one statement. Assumes nothing.
use mathlib.Core.Path.{◌≡◌, refl}
use mathlib.Core.Bool.{true}
use mathlib.Core.List.{◌++◌}
use Rattle.rounds.specs.Examples.{every}
use Rattle.lines.specs.Examples.{shows, carries, writes, starred, ours, example1}
use Rattle.lines.specs.Examples.{no_byte, opening_of_nobody, send_first, opening_alone, refused_step, byte_behind, present_vote, present_decision, heard_nobody, in_decimal, in_hex, line_by_line, all_at_once, end_missing, no_room, to_the_carrier}

-- ---- the starred example
pub example_1 : example1 ≡ true
unfolding shows example1
example_1 = refl

-- ---- our own
pub no_byte_lem : no_byte ≡ true
unfolding shows no_byte
no_byte_lem = refl

pub opening_of_nobody_lem : opening_of_nobody ≡ true
unfolding shows opening_of_nobody
opening_of_nobody_lem = refl

pub send_first_lem : send_first ≡ true
unfolding shows send_first
send_first_lem = refl

pub opening_alone_lem : opening_alone ≡ true
unfolding shows opening_alone
opening_alone_lem = refl

pub refused_step_lem : refused_step ≡ true
unfolding shows refused_step
refused_step_lem = refl

pub byte_behind_lem : byte_behind ≡ true
unfolding shows byte_behind
byte_behind_lem = refl

pub present_vote_lem : present_vote ≡ true
unfolding shows present_vote
present_vote_lem = refl

pub present_decision_lem : present_decision ≡ true
unfolding shows present_decision
present_decision_lem = refl

pub heard_nobody_lem : heard_nobody ≡ true
unfolding shows heard_nobody
heard_nobody_lem = refl

pub in_decimal_lem : in_decimal ≡ true
unfolding shows in_decimal
in_decimal_lem = refl

pub in_hex_lem : in_hex ≡ true
unfolding shows in_hex
in_hex_lem = refl

pub line_by_line_lem : line_by_line ≡ true
unfolding writes line_by_line
line_by_line_lem = refl

pub all_at_once_lem : all_at_once ≡ true
unfolding writes all_at_once
all_at_once_lem = refl

pub end_missing_lem : end_missing ≡ true
unfolding writes end_missing
end_missing_lem = refl

pub no_room_lem : no_room ≡ true
unfolding writes no_room
no_room_lem = refl

pub to_the_carrier_lem : to_the_carrier ≡ true
unfolding carries to_the_carrier
to_the_carrier_lem = refl

-- ---- all of them
pub examples_hold : every (starred ++ ours) ≡ true
unfolding starred ours
examples_hold =
    rw (
      example_1,
      no_byte_lem,
      opening_of_nobody_lem,
      send_first_lem,
      opening_alone_lem,
      refused_step_lem,
      byte_behind_lem,
      present_vote_lem,
      present_decision_lem,
      heard_nobody_lem,
      in_decimal_lem,
      in_hex_lem,
      line_by_line_lem,
      all_at_once_lem,
      end_missing_lem,
      no_room_lem,
      to_the_carrier_lem,
    )
