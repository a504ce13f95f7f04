-- Every example holds of the words of a memory, by computing each run twice: on the words, and on the abstract round machine. A theorem for each,
-- so that of a wrong definition the checker says which example fails; and then all of them under one statement. Assumes nothing.
use mathlib.Core.Path.{◌≡◌, refl}
use mathlib.Core.Bool.{true}
use mathlib.Core.List.{◌++◌}
use Rattle.rounds.specs.Examples.{every}
use Rattle.words.specs.Examples.{memory, agreeing, starred, ours}
use Rattle.words.specs.Examples.{example1, examples2_and3, examples4_and5, example6, example7, example8, example9}
use Rattle.words.specs.Examples.{carried_letter, own_letter, late_letter, early_letter, silent_even, heard_everyone, heard_itself, half_broadcast, place_again, refusal_order, opening_of_nobody, opening_short_of_values, opening_anew}

-- ---- the starred examples, the short runs first: of a long one that fails, the checker may give up computing what it comes to
pub example_1 : example1 ≡ true
unfolding memory agreeing example1
example_1 = refl

pub example_7 : example7 ≡ true
unfolding memory agreeing example7
example_7 = refl

pub example_9 : example9 ≡ true
unfolding memory agreeing example9
example_9 = refl

pub example_6 : example6 ≡ true
unfolding memory agreeing example6
example_6 = refl

pub example_8 : example8 ≡ true
unfolding memory agreeing example8
example_8 = refl

pub examples_2_and_3 : examples2_and3 ≡ true
unfolding memory agreeing examples2_and3
examples_2_and_3 = refl

pub examples_4_and_5 : examples4_and5 ≡ true
unfolding memory agreeing examples4_and5
examples_4_and_5 = refl

-- ---- our own
pub carried_letter_lem : carried_letter ≡ true
unfolding memory agreeing carried_letter
carried_letter_lem = refl

pub own_letter_lem : own_letter ≡ true
unfolding memory agreeing own_letter
own_letter_lem = refl

pub late_letter_lem : late_letter ≡ true
unfolding memory agreeing late_letter
late_letter_lem = refl

pub early_letter_lem : early_letter ≡ true
unfolding memory agreeing early_letter
early_letter_lem = refl

pub silent_even_lem : silent_even ≡ true
unfolding memory agreeing silent_even
silent_even_lem = refl

pub heard_everyone_lem : heard_everyone ≡ true
unfolding memory agreeing heard_everyone
heard_everyone_lem = refl

pub heard_itself_lem : heard_itself ≡ true
unfolding memory agreeing heard_itself
heard_itself_lem = refl

pub half_broadcast_lem : half_broadcast ≡ true
unfolding memory agreeing half_broadcast
half_broadcast_lem = refl

pub place_again_lem : place_again ≡ true
unfolding memory agreeing place_again
place_again_lem = refl

pub refusal_order_lem : refusal_order ≡ true
unfolding memory agreeing refusal_order
refusal_order_lem = refl

pub opening_of_nobody_lem : opening_of_nobody ≡ true
unfolding memory opening_of_nobody
opening_of_nobody_lem = refl

pub opening_short_of_values_lem : opening_short_of_values ≡ true
unfolding memory opening_short_of_values
opening_short_of_values_lem = refl

pub opening_anew_lem : opening_anew ≡ true
unfolding memory opening_anew
opening_anew_lem = refl

-- ---- all of them
pub examples_hold : every (starred ++ ours) ≡ true
unfolding starred ours
examples_hold =
    rw (
      example_1,
      examples_2_and_3,
      examples_4_and_5,
      example_6,
      example_7,
      example_8,
      example_9,
      carried_letter_lem,
      own_letter_lem,
      late_letter_lem,
      early_letter_lem,
      silent_even_lem,
      heard_everyone_lem,
      heard_itself_lem,
      half_broadcast_lem,
      place_again_lem,
      refusal_order_lem,
      opening_of_nobody_lem,
      opening_short_of_values_lem,
      opening_anew_lem,
    )
