-- Every example holds: document 01's starred ones and our own, each by computing its run, and then all of them under one statement.
-- A theorem for each, so that of a wrong definition the checker says which example fails. Assumes nothing.
use mathlib.Core.Path.{◌≡◌, refl}
use mathlib.Core.Bool.{true}
use mathlib.Core.List.{◌++◌}
use Rattle.rounds.specs.Examples.{every, run, numbers, steps, starred, ours}
use Rattle.rounds.specs.Examples.{example1, example2, example3, example4, example5, example6, example7, example8, example9}
use Rattle.rounds.specs.Examples.{carried_reach, carried_value, own_message, late_message, early_message, silent_even, heard_everyone, half_broadcast, refusal_order, opening_values, at_the_limits}

-- ---- the starred examples
pub example_1 : example1 ≡ true
unfolding run numbers steps example1
example_1 = refl

pub example_2 : example2 ≡ true
unfolding run steps example2
example_2 = refl

pub example_3 : example3 ≡ true
unfolding run example3
example_3 = refl

pub example_4 : example4 ≡ true
unfolding run example4
example_4 = refl

pub example_5 : example5 ≡ true
unfolding run example5
example_5 = refl

pub example_6 : example6 ≡ true
unfolding run example6
example_6 = refl

pub example_7 : example7 ≡ true
unfolding run example7
example_7 = refl

pub example_8 : example8 ≡ true
unfolding run example8
example_8 = refl

pub example_9 : example9 ≡ true
unfolding run numbers example9
example_9 = refl

-- ---- our own
pub carried_reach_lem : carried_reach ≡ true
unfolding run carried_reach
carried_reach_lem = refl

pub carried_value_lem : carried_value ≡ true
unfolding run carried_value
carried_value_lem = refl

pub own_message_lem : own_message ≡ true
unfolding run own_message
own_message_lem = refl

pub late_message_lem : late_message ≡ true
unfolding run numbers late_message
late_message_lem = refl

pub early_message_lem : early_message ≡ true
unfolding run early_message
early_message_lem = refl

pub silent_even_lem : silent_even ≡ true
unfolding run silent_even
silent_even_lem = refl

pub heard_everyone_lem : heard_everyone ≡ true
unfolding run heard_everyone
heard_everyone_lem = refl

pub half_broadcast_lem : half_broadcast ≡ true
unfolding run numbers half_broadcast
half_broadcast_lem = refl

pub refusal_order_lem : refusal_order ≡ true
unfolding run refusal_order
refusal_order_lem = refl

pub opening_values_lem : opening_values ≡ true
unfolding opening_values
opening_values_lem = refl

pub at_the_limits_lem : at_the_limits ≡ true
unfolding run at_the_limits
at_the_limits_lem = refl

-- ---- all of them
pub examples_hold : every (starred ++ ours) ≡ true
unfolding starred ours
examples_hold =
    rw (
      example_1,
      example_2,
      example_3,
      example_4,
      example_5,
      example_6,
      example_7,
      example_8,
      example_9,
      carried_reach_lem,
      carried_value_lem,
      own_message_lem,
      late_message_lem,
      early_message_lem,
      silent_even_lem,
      heard_everyone_lem,
      half_broadcast_lem,
      refusal_order_lem,
      opening_values_lem,
      at_the_limits_lem,
    )
