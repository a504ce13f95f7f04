-- Traces and what their replay comes to, each as a test that computes: document 01's, and one for each number that a trace can give but 4, 7 and 8.
-- Assumes nothing.
use Rattle.std.specs.Prelude.{ℕ, suc, Bool, ◌&&◌, List, [], ◌∷◌, ◌++◌, eqb}
use Rattle.rounds.specs.Limits.{most_processes}
use Rattle.rounds.specs.Config.{no_run}
use Rattle.rounds.specs.Verdicts.{open_verdict}
use Rattle.rounds.specs.Runs.{Report, heeded, night_verdict, night, night_reports}
use Rattle.rounds.specs.Examples.{run, equal, waits}
use Rattle.records.specs.Examples.{says, input, opening_of}
use Rattle.trace.specs.Outcome.{ending_number, at_end, closing, closes, ended_by, nobody, outcome_of, outcome}

abbrev pub figures : List Report → List ℕ
figures [] = []
figures (r ∷ rs) = r.process ∷ r.round ∷ r.heard ∷ figures rs

-- its number, the accepted events, and what was reported. To unfold it is to unfold reading and machine: its `unfolding` line names all of both
unfoldable pub comes_to : List ℕ → ℕ → ℕ → List ℕ → Bool
unfolding run open_verdict no_run heeded night_verdict night night_reports says input ending_number at_end closing closes ended_by nobody outcome_of outcome
comes_to bytes number events reports =
    eqb (ending_number (outcome bytes).ending) number
    && (eqb (outcome bytes).config.control.events events && equal (figures (outcome bytes).reports) reports)

-- ---- pieces of traces
abbrev pub open_two : List ℕ
open_two = 1 ∷ 0 ∷ 9 ∷ 2 ∷ 0 ∷ 0 ∷ 0 ∷ 7 ∷ 0 ∷ 0 ∷ 0 ∷ 4 ∷ []

abbrev pub send : ℕ → ℕ → List ℕ
send p q = 16 ∷ 0 ∷ 2 ∷ p ∷ q ∷ []

abbrev pub receive : ℕ → ℕ → List ℕ
receive p q = 17 ∷ 0 ∷ 2 ∷ p ∷ q ∷ []

abbrev pub step : ℕ → List ℕ
step p = 18 ∷ 0 ∷ 1 ∷ p ∷ []

abbrev pub broadcast : ℕ → List ℕ
broadcast p = 19 ∷ 0 ∷ 1 ∷ p ∷ []

abbrev pub end : List ℕ
end = 127 ∷ 0 ∷ 0 ∷ []

-- ---- document 01's trace, with the figures of its sheet
unfoldable pub example1 : Bool
example1 =
    comes_to input 0 6 (0 ∷ 1 ∷ 3 ∷ [])
    && equal (waits (outcome input).config 0) (2 ∷ 2 ∷ 2 ∷ 1 ∷ 1 ∷ 3 ∷ []) && equal (waits (outcome input).config 1) (1 ∷ 6 ∷ 0 ∷ 0 ∷ 0 ∷ 2 ∷ [])

-- ---- the other numbers; what was accepted before a refusal stands
-- 0: nothing but an opening and an end; a broadcast counts as its sends
unfoldable pub opening_alone : Bool
opening_alone = comes_to (open_two ++ end) 0 0 []

unfoldable pub broadcast_of_two : Bool
broadcast_of_two = comes_to (open_two ++ (broadcast 1 ++ end)) 0 2 []

-- 1: no process, and one more than the most; the most are accepted
unfoldable pub opening_of_nobody : Bool
opening_of_nobody = comes_to (1 ∷ 0 ∷ 1 ∷ 0 ∷ []) 1 0 []

unfoldable pub opening_of_too_many : Bool
opening_of_too_many = comes_to (opening_of (suc most_processes)) 1 0 []

unfoldable pub opening_of_the_most : Bool
opening_of_the_most = comes_to (opening_of most_processes ++ end) 0 0 []

-- 2, 3, 5 and 6, at the third event
unfoldable pub process_outside : Bool
process_outside = comes_to (open_two ++ (send 0 0 ++ (send 0 1 ++ (send 2 0 ++ end)))) 2 2 []

unfoldable pub sent_already : Bool
sent_already = comes_to (open_two ++ (send 0 0 ++ (send 0 1 ++ (send 0 0 ++ end)))) 3 2 []

unfoldable pub received_twice : Bool
received_twice = comes_to (open_two ++ (send 0 0 ++ (receive 0 0 ++ (receive 0 0 ++ end)))) 5 2 []

unfoldable pub step_too_early : Bool
step_too_early = comes_to (open_two ++ (broadcast 0 ++ (step 1 ++ end))) 6 2 []

-- 9: no byte, half an opening, half an event, no end record; what was accepted stands
unfoldable pub no_byte : Bool
no_byte = comes_to [] 9 0 []

unfoldable pub opening_cut : Bool
opening_cut = comes_to (1 ∷ 0 ∷ 9 ∷ 2 ∷ 0 ∷ []) 9 0 []

unfoldable pub event_cut : Bool
event_cut = comes_to (open_two ++ (broadcast 0 ++ (step 0 ++ (16 ∷ 0 ∷ 2 ∷ 1 ∷ [])))) 9 3 (0 ∷ 1 ∷ 0 ∷ [])

unfoldable pub end_missing : Bool
end_missing = comes_to (open_two ++ send 0 0) 9 1 []

-- 10 to 12, after an event and at the start
unfoldable pub unknown_tag : Bool
unknown_tag = comes_to (open_two ++ (send 0 0 ++ (32 ∷ 0 ∷ 0 ∷ []))) 10 1 []

unfoldable pub wrong_length : Bool
wrong_length = comes_to (open_two ++ (send 0 0 ++ (18 ∷ 0 ∷ 2 ∷ 0 ∷ 0 ∷ []))) 11 1 []

unfoldable pub second_opening : Bool
second_opening = comes_to (open_two ++ (send 0 0 ++ open_two)) 12 1 []

unfoldable pub send_first : Bool
send_first = comes_to (send 0 0) 12 0 []

unfoldable pub end_first : Bool
end_first = comes_to end 12 0 []

-- 13: a byte behind the end record, a second one too; but a refused event comes first
unfoldable pub byte_behind : Bool
byte_behind = comes_to (input ++ (0 ∷ [])) 13 6 (0 ∷ 1 ∷ 3 ∷ [])

unfoldable pub second_end : Bool
second_end = comes_to (open_two ++ (end ++ end)) 13 0 []

unfoldable pub refused_before : Bool
refused_before = comes_to (open_two ++ (send 0 2 ++ (end ++ end))) 2 0 []

-- ---- all of them
unfoldable pub starred : List Bool
starred = example1 ∷ []

unfoldable pub ours : List Bool
ours =
    opening_alone ∷ broadcast_of_two ∷ opening_of_nobody ∷ opening_of_too_many ∷ opening_of_the_most ∷ process_outside ∷ sent_already ∷ received_twice
    ∷ step_too_early ∷ no_byte ∷ opening_cut ∷ event_cut ∷ end_missing ∷ unknown_tag ∷ wrong_length ∷ second_opening ∷ send_first ∷ end_first ∷ byte_behind
    ∷ second_end ∷ refused_before ∷ []
