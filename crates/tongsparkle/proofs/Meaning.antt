-- The front page of the call: what the report is of a run, and that two traces that differ in opening values alone have the same number and report.
-- Assumes nothing.
use Prim.Native.Nat.{ℕ, zero, suc, ◌≤◌, ◌<◌}
use native.Mathlib.Omega.{arith}
use mathlib.Core.Path.{◌≡◌, refl, ap, ◌∙◌}
use mathlib.Core.List.{List, ◌++◌}
use borrow.Author.Tests.{lt-ltb, le-ltb}
use lib.ListN.{length, take, drop}
use Rattle.rounds.specs.Config.{Config}
use Rattle.words.specs.Layout.{Mem}
use Rattle.words.specs.Spelled.{people}
use Rattle.words.specs.Calls.{standing_of}
use Rattle.words.specs.Shows.{Shows, standing}
use Rattle.words.proofs.Reading.{people_most, size_means, site_means}
use Rattle.records.specs.Stored.{over}
use Rattle.trace.specs.Outcome.{Ending}
use Rattle.trace.specs.Outcome.{ending_number, outcome}
use Rattle.trace.specs.Claims.{Revalued}
use Rattle.trace.proofs.Values.{values_alone}
use Rattle.tongsparkle.specs.Report.{row, rows, report_of, room, number_given, report_left, Reported, row_of, rows_below}
use Rattle.tongsparkle.proofs.Bytes.{rows_length, over_front}

-- ---- what is written of a memory is the report of the run that it shows
module _ (m : Mem) (c : Config) (k : Shows m c) where
  rows_shown : (n : ℕ) → n ≤ c.control.size → rows_below n (standing_of m) ≡ rows n c.control
  unfolding rows_below rows row_of row standing
  rows_shown zero h = refl
  rows_shown (suc n) h = rw (rows_shown n (omega arith), site_means m c k n (omega arith))

  report_shown : (report : List ℕ) → room ≤ length report
      → over (rows_below (people m) (standing_of m)) (take room report) ++ drop room report ≡ over (report_of c.control) report
  unfolding report_of
  report_shown report h =
      over_front (rows_below (people m) (standing_of m)) report room (let l = rows_length (people m) (standing_of m) in let most = people_most m in omega arith) h
      ∙ ap (λ (w : List ℕ). over w report) (rw (size_means m c k) (rows_shown c.control.size (omega arith)))

-- ---- so the call, with too little room and with enough of it, gives and leaves what it must
pub no_room : (w report : List ℕ) → length report < room → Reported w report 14 report
unfolding number_given report_left
no_room w report h = (rw (lt-ltb (length report) room h), rw (lt-ltb (length report) room h))

pub room_enough : (w report : List ℕ) {m : Mem} {x : Ending} {r : ℕ} {written : List ℕ} → room ≤ length report → Shows m (outcome w).config
    → x ≡ (outcome w).ending → r ≡ ending_number x → written ≡ over (rows_below (people m) (standing_of m)) (take room report)
    → Reported w report r (written ++ drop room report)
unfolding number_given report_left
room_enough w report {m} h k ends number is = (
  rw (le-ltb (length report) room h, ← ends) number,
  rw (le-ltb (length report) room h) (ap (λ (l : List ℕ). l ++ drop room report) is ∙ report_shown m (outcome w).config k report h),
)

-- ---- two traces that differ in the values of their opening alone have the same number and the same report
pub report_blind : (w u report : List ℕ) → Revalued w u → (number_given w report ≡ number_given u report) × (report_left w report ≡ report_left u report)
unfolding number_given report_left
report_blind w u report d = let b = values_alone w u d in (rw b.ending, rw b.control)
