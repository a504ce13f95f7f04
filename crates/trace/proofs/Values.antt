-- Demand 3 for traces: two that differ in the values of their opening alone. Assumes nothing.
use Prim.Native.Nat.{ℕ, zero, suc, ◌+◌, ◌*◌, ◌≤◌}
use native.Mathlib.Omega.{arith}
use native.Mathlib.Numerals.{add-one}
use mathlib.Core.Path.{◌≡◌, refl, sym, ap, ◌∙◌, subst}
use mathlib.Core.List.{List, [], ◌∷◌, ◌++◌}
use lib.ListN.{length, take, drop, length-append, length-drop}
use lib.Seq.{drop_at, take-append-le, drop-append-le}
use Rattle.rounds.specs.declared.Event.{Event}
use Rattle.rounds.specs.Config.{Config}
use Rattle.rounds.specs.Runs.{value_at, night}
use Rattle.rounds.specs.Claims.{Agree}
use Rattle.rounds.proofs.Demands.{Alike, nights_alike}
use Rattle.records.specs.declared.Place.TheVariants.{First}
use Rattle.records.specs.declared.Record.TheVariants.{Opening, Happens, End}
use Rattle.std.specs.Prelude.{Some, None, Ok, Err}
use Rattle.records.specs.Records.{Reading, tag_of, opening, judged, headed, parse, extent, extent_of}
use Rattle.records.specs.Script.{Script, word, words, values_of, stopped, on_record, script, after, joined}
use Rattle.records.proofs.Cutting.{parse_more}
use Rattle.records.proofs.Whole.{extent_within, holds_first, Placed, placed}
use Rattle.records.proofs.Scripts.{script_is, script_wrong, script_cut, script_in_pieces}
use Rattle.trace.specs.Outcome.{closing, closes, nobody, outcome_of, outcome}
use Rattle.trace.specs.Claims.{Revalued}

-- ---- values are as many as N says
pub words_length : (n : ℕ) (l : List ℕ) → length (words n l) ≡ n
unfolding words
words_length zero l = refl
words_length (suc k) l = length-append (words k l) (word l (4 * k) ∷ []) ∙ rw (words_length k l) (add-one k)

values_length : (n : ℕ) (w : List ℕ) → length (values_of n w) ≡ n
unfolding values_of
values_length n w = words_length n (take (4 * n) (drop 4 w))

-- ---- the first record, and what it leaves
abbrev opener : ℕ → ℕ → ℕ → List ℕ → List ℕ
opener hi lo n l = 1 ∷ hi ∷ lo ∷ n ∷ l

module _ (hi lo n : ℕ) (a b rest : List ℕ) (fa : length a ≡ 4 * n) (fb : length b ≡ 4 * n) where
  abbrev w : List ℕ
  w = opener hi lo n (a ++ rest)

  abbrev u : List ℕ
  u = opener hi lo n (b ++ rest)

  as_long : length (a ++ rest) ≡ length (b ++ rest)
  as_long = length-append a rest ∙ rw (fa, ← fb) (sym (length-append b rest))

  same_record : parse First w ≡ parse First u
  unfolding parse headed tag_of judged opening
  same_record = rw as_long

  same_rest : drop (4 + 4 * n) w ≡ drop (4 + 4 * n) u
  same_rest =
      let q : 4 + 4 * n ≡ suc (suc (suc (suc (4 * n)))) = omega arith in
      rw q (drop_at a rest (4 * n) fa ∙ sym (drop_at b rest (4 * n) fb))

  -- of an opening, as many processes as its byte says
  Only : Reading → Type 0
  Only (Ok (Some (Opening k))) = k ≡ n
  Only (Ok (Some (Happens e))) = Unit {0}
  Only (Ok (Some End)) = Unit {0}
  Only (Err f) = Unit {0}
  Only (Ok None) = Unit {0}

  only : Only (parse First u)
  unfolding Only
  only = holds_first u Only (λ l. tt) (λ l. tt) (λ f. tt) (λ h. refl)

  same_script : (r : Reading) → parse First u ≡ r → Only r → Placed First r
      → ((script First w).events ≡ (script First u).events) × (closes (script First w) ≡ closes (script First u))
  unfolding Only Placed on_record extent closes stopped
  same_script (Ok (Some (Opening k))) e o h =
      let s : script First w ≡ script First u
      = script_is First w ∙ rw (same_record, e, o, same_rest) (sym (script_is First u ∙ rw (e, o))) in
      (ap (λ (x : Script). x.events) s, ap closes s)
  same_script (Ok (Some (Happens v))) e o h = absurd h
  same_script (Ok (Some End)) e o h = absurd h
  same_script (Err f) e o h = rw (script_wrong First w f (same_record ∙ e), script_wrong First u f e) (refl, ap (closing First) same_record)
  same_script (Ok None) e o h = rw (script_cut First w (same_record ∙ e), script_cut First u e) (refl, ap (closing First) same_record)

-- ---- what comes of a record where two scripts have the same events and close alike
module _ (w u : List ℕ) (s t : Script) (events : s.events ≡ t.events) (closed : closes s ≡ closes t) where
  nights : (n : ℕ) → Alike n (values_of n w) (values_of n u) t.events
  nights n = nights_alike n (values_of n w) (values_of n u) t.events (values_length n w ∙ sym (values_length n u))

  same_ending : (r : Reading) → (outcome_of w s r).ending ≡ (outcome_of u t r).ending
  unfolding outcome_of nobody
  same_ending (Ok (Some (Opening n))) = rw (closed, events, (nights n).answer)
  same_ending (Ok (Some (Happens e))) = closed
  same_ending (Ok (Some End)) = closed
  same_ending (Err f) = closed
  same_ending (Ok None) = closed

  same_control : (r : Reading) → (outcome_of w s r).config.control ≡ (outcome_of u t r).config.control
  unfolding outcome_of nobody
  same_control (Ok (Some (Opening n))) = rw events (nights n).control
  same_control (Ok (Some (Happens e))) = refl
  same_control (Ok (Some End)) = refl
  same_control (Err f) = refl
  same_control (Ok None) = refl

  same_reports : (r : Reading) → (outcome_of w s r).reports ≡ (outcome_of u t r).reports
  unfolding outcome_of nobody
  same_reports (Ok (Some (Opening n))) = rw events (nights n).heard_of
  same_reports (Ok (Some (Happens e))) = refl
  same_reports (Ok (Some End)) = refl
  same_reports (Err f) = refl
  same_reports (Ok None) = refl

-- ---- more bytes only add to the events of an opening that is whole
pub values_more : (n : ℕ) (w more : List ℕ) → 4 + 4 * n ≤ length w → values_of n (w ++ more) ≡ values_of n w
unfolding values_of
values_more n w more l =
    let d : 4 ≤ length w = omega arith in
    let t : 4 * n ≤ length (drop 4 w) = omega (arith, length-drop 4 w) in
    rw (drop-append-le 4 w more d, take-append-le (4 * n) (drop 4 w) more t)

not_cut : (n : ℕ) → ◌≡◌ {A = Reading} (Ok (Some (Opening n))) (Ok None) → ⊥
not_cut n e = let q : ◌≡◌ {A = ℕ} 0 1 = cc in omega arith

-- what the bytes behind w add
later_of : List ℕ → List ℕ → List Event
later_of w more = (script (script First w).place ((script First w).left ++ more)).events

more_night : (w more : List ℕ) (n : ℕ) → parse First w ≡ Ok (Some (Opening n))
    → (outcome (w ++ more)).config ≡ night n (values_of n w) ((script First w).events ++ later_of w more)
unfolding outcome outcome_of joined after later_of extent extent_of
more_night w more n e =
    let whole : 4 + 4 * n ≤ length w = subst (λ (r : Reading). extent_of r ≤ length w) e (extent_within First w) in
    let same : parse First (w ++ more) ≡ Ok (Some (Opening n)) = parse_more First w more (λ c. not_cut n (sym e ∙ c)) ∙ e in
    rw (same, script_in_pieces First w more, values_more n w more whole)

-- where the values agree on the reach of p after the bytes w and any more, p holds the same after w
same_held : (w u more : List ℕ) (p : ℕ) (r : Reading) → parse First w ≡ r → parse First u ≡ r → (script First w).events ≡ (script First u).events
    → ((n : ℕ) → r ≡ Ok (Some (Opening n)) → Agree (value_at (values_of n w)) (value_at (values_of n u)) ((outcome (w ++ more)).config.control.site p).reach)
    → (outcome_of w (script First w) r).config.content.holding p ≡ (outcome_of u (script First u) r).config.content.holding p
unfolding outcome_of nobody
same_held w u more p (Ok (Some (Opening n))) e f events agree =
    rw (← events)
    ((nights_alike n (values_of n w) (values_of n u) (script First w).events (values_length n w ∙ sym (values_length n u))).holding (later_of w more) p
    (subst (λ (c : Config). Agree (value_at (values_of n w)) (value_at (values_of n u)) (c.control.site p).reach) (more_night w more n e) (agree n refl)))
same_held w u more p (Ok (Some (Happens v))) e f events agree = refl
same_held w u more p (Ok (Some End)) e f events agree = refl
same_held w u more p (Err x) e f events agree = refl
same_held w u more p (Ok None) e f events agree = refl

-- ---- two traces that differ in the values of their opening alone
pub record Blind (w u : List ℕ) (n : ℕ) : Type 0 where
  -- they end alike, with the same number
  pub ending : (outcome w).ending ≡ (outcome u).ending
  -- rounds, sets, reach, counts and what is in transit are equal: all that a report has
  pub control : (outcome w).config.control ≡ (outcome u).config.control
  -- and so are the heard-of sets
  pub reports : (outcome w).reports ≡ (outcome u).reports
  -- and value, vote and decision of a process, where the values agree on its reach after these bytes and any more
  pub holding : (more : List ℕ) (p : ℕ)
      → Agree (value_at (values_of n w)) (value_at (values_of n u)) ((outcome (w ++ more)).config.control.site p).reach
      → (outcome w).config.content.holding p ≡ (outcome u).config.content.holding p

module _ (hi lo n : ℕ) (a b rest : List ℕ) (fa : length a ≡ 4 * n) (fb : length b ≡ 4 * n) where
  abbrev one : List ℕ
  one = w hi lo n a b rest fa fb

  abbrev other : List ℕ
  other = u hi lo n a b rest fa fb

  same : parse First one ≡ parse First other
  same = same_record hi lo n a b rest fa fb

  read : ((script First one).events ≡ (script First other).events) × (closes (script First one) ≡ closes (script First other))
  read = same_script hi lo n a b rest fa fb (parse First other) refl (only hi lo n a b rest fa fb) (placed First other)

  its_size : (k : ℕ) → parse First other ≡ Ok (Some (Opening k)) → k ≡ n
  unfolding Only
  its_size k e = subst (Only hi lo n a b rest fa fb) e (only hi lo n a b rest fa fb)

  held : (more : List ℕ) (p : ℕ)
      → Agree (value_at (values_of n one)) (value_at (values_of n other)) ((outcome (one ++ more)).config.control.site p).reach
      → (outcome one).config.content.holding p ≡ (outcome other).config.content.holding p
  unfolding outcome
  held more p agree =
      rw same
      (same_held one other more p (parse First other) same refl read.0
      (λ k e. subst (λ (i : ℕ). Agree (value_at (values_of i one)) (value_at (values_of i other)) ((outcome (one ++ more)).config.control.site p).reach) (sym (its_size k e)) agree))

  blind : Blind one other n
  unfolding outcome
  blind =
      let s = script First one in
      let t = script First other in
      record {
        ending = rw same (same_ending one other s t read.0 read.1 (parse First other));
        control = rw same (same_control one other s t read.0 read.1 (parse First other));
        reports = rw same (same_reports one other s t read.0 read.1 (parse First other));
        holding = held;
      }

pub values_alone : (w u : List ℕ) (d : Revalued w u) → Blind w u d.size
values_alone w u d = rw (d.one, d.other) (blind d.high d.low d.size d.values d.others d.rest d.four d.four_others)
