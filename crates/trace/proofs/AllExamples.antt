-- Every example of a trace comes to what it must, by computing it: a theorem for each, so that of a wrong definition the checker says which example
-- fails; and then all of them under one statement. Assumes nothing.
use mathlib.Core.Path.{◌≡◌, refl}
use mathlib.Core.Bool.{true}
use mathlib.Core.List.{◌++◌}
use Rattle.rounds.specs.Examples.{every}
use Rattle.trace.specs.Examples.{comes_to, starred, ours, example1}
use Rattle.trace.specs.Examples.{opening_alone, broadcast_of_two, opening_of_nobody, opening_of_too_many, opening_of_the_most, process_outside, sent_already, received_twice, step_too_early, no_byte, opening_cut, event_cut, end_missing, unknown_tag, wrong_length, second_opening, send_first, end_first, byte_behind, second_end, refused_before}

-- ---- the starred example
pub example_1 : example1 ≡ true
unfolding comes_to example1
example_1 = refl

-- ---- 0: nothing but an opening and an end; a broadcast counts as its sends
pub opening_alone_lem : opening_alone ≡ true
unfolding comes_to opening_alone
opening_alone_lem = refl

pub broadcast_of_two_lem : broadcast_of_two ≡ true
unfolding comes_to broadcast_of_two
broadcast_of_two_lem = refl

-- ---- 1: no process, and one more than the most; the most are accepted
pub opening_of_nobody_lem : opening_of_nobody ≡ true
unfolding comes_to opening_of_nobody
opening_of_nobody_lem = refl

pub opening_of_too_many_lem : opening_of_too_many ≡ true
unfolding comes_to opening_of_too_many
opening_of_too_many_lem = refl

pub opening_of_the_most_lem : opening_of_the_most ≡ true
unfolding comes_to opening_of_the_most
opening_of_the_most_lem = refl

-- ---- 2, 3, 5 and 6, at the third event
pub process_outside_lem : process_outside ≡ true
unfolding comes_to process_outside
process_outside_lem = refl

pub sent_already_lem : sent_already ≡ true
unfolding comes_to sent_already
sent_already_lem = refl

pub received_twice_lem : received_twice ≡ true
unfolding comes_to received_twice
received_twice_lem = refl

pub step_too_early_lem : step_too_early ≡ true
unfolding comes_to step_too_early
step_too_early_lem = refl

-- ---- 9: no byte, half an opening, half an event, no end record; what was accepted stands
pub no_byte_lem : no_byte ≡ true
unfolding comes_to no_byte
no_byte_lem = refl

pub opening_cut_lem : opening_cut ≡ true
unfolding comes_to opening_cut
opening_cut_lem = refl

pub event_cut_lem : event_cut ≡ true
unfolding comes_to event_cut
event_cut_lem = refl

pub end_missing_lem : end_missing ≡ true
unfolding comes_to end_missing
end_missing_lem = refl

-- ---- 10 to 12, after an event and at the start
pub unknown_tag_lem : unknown_tag ≡ true
unfolding comes_to unknown_tag
unknown_tag_lem = refl

pub wrong_length_lem : wrong_length ≡ true
unfolding comes_to wrong_length
wrong_length_lem = refl

pub second_opening_lem : second_opening ≡ true
unfolding comes_to second_opening
second_opening_lem = refl

pub send_first_lem : send_first ≡ true
unfolding comes_to send_first
send_first_lem = refl

pub end_first_lem : end_first ≡ true
unfolding comes_to end_first
end_first_lem = refl

-- ---- 13: a byte behind the end record, a second one too; but a refused event comes first
pub byte_behind_lem : byte_behind ≡ true
unfolding comes_to byte_behind
byte_behind_lem = refl

pub second_end_lem : second_end ≡ true
unfolding comes_to second_end
second_end_lem = refl

pub refused_before_lem : refused_before ≡ true
unfolding comes_to refused_before
refused_before_lem = refl

-- ---- all of them
pub examples_hold : every (starred ++ ours) ≡ true
unfolding starred ours
examples_hold =
    rw (
      example_1,
      opening_alone_lem,
      broadcast_of_two_lem,
      opening_of_nobody_lem,
      opening_of_too_many_lem,
      opening_of_the_most_lem,
      process_outside_lem,
      sent_already_lem,
      received_twice_lem,
      step_too_early_lem,
      no_byte_lem,
      opening_cut_lem,
      event_cut_lem,
      end_missing_lem,
      unknown_tag_lem,
      wrong_length_lem,
      second_opening_lem,
      send_first_lem,
      end_first_lem,
      byte_behind_lem,
      second_end_lem,
      refused_before_lem,
    )
