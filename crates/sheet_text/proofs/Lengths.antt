-- How many bytes the numbers, the fields and the lines of the sheet take at most. Assumes nothing.
use Prim.Native.Nat.{ℕ, zero, suc, ◌/◌, ◌%◌, ◌^◌, ◌≤◌, ◌<◌}
use native.Mathlib.Nat.{eq-zero-or-pos, pow-suc}
use native.Mathlib.Omega.{arith}
use mathlib.Core.Path.{◌≡◌, refl, ap}
use mathlib.Core.List.{List, [], ◌∷◌}
use mathlib.Core.Logic.{⊎_elim}
use lib.ListN.{length, length-append}
use mir.Val.{Val}
use denote.Shadow.{shadow}
use denote.Builtin.{u32}
use Rattle.std.specs.contracts.option.Option.{the_field}
use Rattle.std.specs.Prelude.{Option, Some, None}
use Rattle.words.specs.declared.Standing.{Standing}
use Rattle.words.specs.Spelled.{word_of}
use Rattle.lines.specs.Pieces.{line_room}
use Rattle.lines.specs.Text.{glyph, decimal, hex, field, set_field, choice_field, h_line, w_line, v_line, e_line}
use Rattle.sheet_text.proofs.Decimals.{decimal_one, decimal_more}

-- ---- numbers
decimal_length : (k n : ℕ) → n < 10 ^ suc k → length (decimal n) ≤ suc k
decimal_length zero n h = let one : n < 10 = omega arith in omega (arith, ap length (decimal_one n one))
decimal_length (suc k) n h =
    ⊎_elim
    (λ (z : n / 10 ≡ 0). let one : n < 10 = omega arith in omega (arith, ap length (decimal_one n one)))
    (λ (p : 0 < n / 10).
    let more : 10 ≤ n = omega arith in
    let before : length (decimal (n / 10)) ≤ suc k = decimal_length k (n / 10) (omega (arith, pow-suc 10 (suc k))) in
    omega (arith, ap length (decimal_more n more), length-append (decimal (n / 10)) (glyph (n % 10) ∷ [])))
    (eq-zero-or-pos (n / 10))

-- ---- fields
field_length : (n : ℕ) → n < 2 ^ 32 → length (field n) ≤ 11
unfolding field
field_length n h = let d : length (decimal n) ≤ 10 = decimal_length 9 n (omega arith) in omega arith

byte_field_length : (n : ℕ) → n < 256 → length (field n) ≤ 4
unfolding field
byte_field_length n h = let d : length (decimal n) ≤ 3 = decimal_length 2 n (omega arith) in omega arith

set_field_length : (s : ℕ) → length (set_field s) ≡ 5
unfolding set_field hex
set_field_length s = refl

-- a choice that the code holds is a word of 32 bits, if it is present
pub choice_word : (v : Option ℕ) (vs : List Val) → shadow ((the_field u32).row.own_val ((the_field u32).into v) vs) → word_of v < 2 ^ 32
unfolding word_of
choice_word None vs h = omega arith
choice_word (Some x) vs h = omega arith

choice_length : (v : Option ℕ) → word_of v < 2 ^ 32 → length (choice_field v) ≤ 11
unfolding choice_field word_of
choice_length None h = omega arith
choice_length (Some x) h = field_length x h

-- ---- no line is longer than a `w` line may be
pub h_length : (p r h : ℕ) → p < 256 → r < 2 ^ 32 → length (h_line p r h) ≤ line_room
unfolding h_line
h_length p r h hp hr = simp length-append (omega (arith, byte_field_length p hp, field_length r hr, set_field_length h))

pub w_length : (p : ℕ) (s : Standing) → p < 256 → s.round < 2 ^ 32 → s.sending < 2 ^ 32 → s.collecting < 2 ^ 32 → s.pending < 2 ^ 32 → s.idle < 2 ^ 32
    → length (w_line p s) ≤ line_room
unfolding w_line
w_length p s hp hr hs hc hw hi =
    let head : length (field p) ≤ 4 = byte_field_length p hp in
    let round : length (field s.round) ≤ 11 = field_length s.round hr in
    let sending : length (field s.sending) ≤ 11 = field_length s.sending hs in
    let collecting : length (field s.collecting) ≤ 11 = field_length s.collecting hc in
    let pending : length (field s.pending) ≤ 11 = field_length s.pending hw in
    let idle : length (field s.idle) ≤ 11 = field_length s.idle hi in
    simp length-append (omega (arith, set_field_length s.reach))

pub v_length : (p : ℕ) (s : Standing) → p < 256 → s.value < 2 ^ 32 → word_of s.vote < 2 ^ 32 → word_of s.decision < 2 ^ 32
    → length (v_line p s) ≤ line_room
unfolding v_line
v_length p s hp hx hv hd =
    simp length-append (omega (arith, byte_field_length p hp, field_length s.value hx, choice_length s.vote hv, choice_length s.decision hd))

pub e_length : (events number : ℕ) → events < 2 ^ 32 → number < 2 ^ 32 → length (e_line events number) ≤ line_room
unfolding e_line
e_length events number he hn = simp length-append (omega (arith, field_length events he, field_length number hn))

pub ruleset closing_lengths = (w_length, v_length, e_length)
