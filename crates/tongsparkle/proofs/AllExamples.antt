-- Every example of a call holds, by computing it: a theorem for each, so that of a wrong definition the checker says which example fails; and then
-- all of them under one statement. Assumes nothing.
use mathlib.Core.Path.{◌≡◌, refl}
use mathlib.Core.Bool.{true}
use Rattle.rounds.specs.Examples.{every}
use Rattle.tongsparkle.specs.Examples.{gives, examples}
use Rattle.tongsparkle.specs.Examples.{enough_room, more_room, one_byte_short, no_report, byte_behind, no_byte, opening_of_nobody, big_endian}

pub enough_room_lem : enough_room ≡ true
unfolding gives enough_room
enough_room_lem = refl

pub more_room_lem : more_room ≡ true
unfolding gives more_room
more_room_lem = refl

pub one_byte_short_lem : one_byte_short ≡ true
unfolding gives one_byte_short
one_byte_short_lem = refl

pub no_report_lem : no_report ≡ true
unfolding gives no_report
no_report_lem = refl

pub byte_behind_lem : byte_behind ≡ true
unfolding gives byte_behind
byte_behind_lem = refl

pub no_byte_lem : no_byte ≡ true
unfolding gives no_byte
no_byte_lem = refl

pub opening_of_nobody_lem : opening_of_nobody ≡ true
unfolding gives opening_of_nobody
opening_of_nobody_lem = refl

pub big_endian_lem : big_endian ≡ true
unfolding gives big_endian
big_endian_lem = refl

-- ---- all of them
pub examples_hold : every examples ≡ true
unfolding examples
examples_hold =
    rw (
      enough_room_lem,
      more_room_lem,
      one_byte_short_lem,
      no_report_lem,
      byte_behind_lem,
      no_byte_lem,
      opening_of_nobody_lem,
      big_endian_lem,
    )
