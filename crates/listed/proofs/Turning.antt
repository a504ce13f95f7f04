-- One event of a lent list, at the place that a loop has come to: the list stops at it or goes on behind it; and the list behind an opening.
-- Assumes nothing.
use Prim.Native.Nat.{ℕ, ◌+◌, ◌≤◌, ◌<◌}
use native.Mathlib.Numerals.{add-one}
use mathlib.Core.Path.{◌≡◌, sym, ap, subst, ◌∙◌}
use mathlib.Core.Bool.{false}
use mathlib.Core.List.{List, ◌∷◌}
use lib.ListN.{length, get_or, drop, drop_of_length-le}
use lib.Seq.{drop-cons}
use Rattle.std.specs.Prelude.{Option, Ok, Err, IsErrAnd}
use Rattle.rounds.specs.declared.Event as rounds
use Rattle.rounds.specs.declared.Refusal.{Refusal}
use Rattle.rounds.specs.Verdicts.{Verdict, Accepted, accepted, open_verdict, verdict}
use Rattle.rounds.specs.Runs.{night_verdict, night}
use Rattle.rounds.proofs.Answers.{handed_on}
use Rattle.words.specs.declared.Finished.{Finished}
use Rattle.words.specs.Layout.{Mem}
use Rattle.words.specs.Spelled.{control_of}
use Rattle.words.specs.Calls.{blank, begins, applied, answer, replayed, replayed_verdict, night_words}
use Rattle.words.specs.Shows.{Shows, verdict_of}
use Rattle.words.proofs.Answering.{answer_verdict}
use Rattle.words.proofs.Meaning.{refused_unchanged}
use Rattle.words.proofs.Replaying as Replaying
use Rattle.listed.specs.declared.Event.{Event}
use Rattle.listed.specs.Listed.{event_of, events_of, Passed}

-- ---- the list from the place i on comes on m to what the whole list comes to on m₀
abbrev pub Remains : Mem → List Event → ℕ → Mem → Type 0
Remains m₀ es i m =
    (replayed_verdict m (events_of (drop i es)) ≡ replayed_verdict m₀ (events_of es)) × (replayed m (events_of (drop i es)) ≡ replayed m₀ (events_of es))

-- ---- the events of the list
module _ (m₀ : Mem) (es : List Event) (i : ℕ) (d : Event) (m : Mem) (left : Remains m₀ es i m) where
  abbrev e : rounds.Event
  e = event_of (get_or es i d)

  abbrev rest : List rounds.Event
  rest = events_of (drop (i + 1) es)

  -- what remains is xs
  remain : (xs : List rounds.Event) → events_of (drop i es) ≡ xs
      → (replayed_verdict m xs ≡ replayed_verdict m₀ (events_of es)) × (replayed m xs ≡ replayed m₀ (events_of es))
  remain xs h = (ap (replayed_verdict m) (sym h) ∙ left.0, ap (replayed m) (sym h) ∙ left.1)

  module _ (l : i < length es) where
    taken : events_of (drop i es) ≡ e ∷ rest
    unfolding events_of
    taken = rw (drop-cons es i d, add-one)

    pub stops : {v : Verdict} {r : Refusal} {m' : Mem} → IsErrAnd v (λ e. e ≡ r) → (Err r ≡ answer (control_of m) e) × (m' ≡ applied m e)
        → (v ≡ replayed_verdict m₀ (events_of es)) × (m' ≡ replayed m₀ (events_of es))
    unfolding verdict_of accepted
    stops h did =
        let judged : Err _ ≡ verdict (control_of m) e = ap verdict_of did.0 ∙ answer_verdict (control_of m) e in
        let a : accepted (verdict (control_of m) e) ≡ false = ap accepted (sym judged) in
        let s = Replaying.stops m e rest a in
        (handed_on h ∙ judged ∙ sym s.0 ∙ (remain _ taken).0, did.1 ∙ refused_unchanged m e a ∙ sym s.1 ∙ (remain _ taken).1)

    pub goes_on : {x : Option Finished} {m' : Mem} → (Ok x ≡ answer (control_of m) e) × (m' ≡ applied m e) → Remains m₀ es (i + 1) m'
    unfolding verdict_of accepted
    goes_on did =
        let judged : Accepted ≡ verdict (control_of m) e = ap verdict_of did.0 ∙ answer_verdict (control_of m) e in
        let g = Replaying.goes_on m e rest (ap accepted (sym judged)) in (
          ap (λ (w : Mem). replayed_verdict w rest) did.1 ∙ sym g.0 ∙ (remain _ taken).0,
          ap (λ (w : Mem). replayed w rest) did.1 ∙ sym g.1 ∙ (remain _ taken).1,
        )

pub ends : (m₀ : Mem) (es : List Event) (i : ℕ) (m : Mem) → Remains m₀ es i m → length es ≤ i
    → (Accepted ≡ replayed_verdict m₀ (events_of es)) × (m ≡ replayed m₀ (events_of es))
unfolding events_of replayed replayed_verdict
ends m₀ es i m left l =
    let none = ap events_of (drop_of_length-le es l) in
    (ap (replayed_verdict m) (sym none) ∙ left.0, ap (replayed m) (sym none) ∙ left.1)

-- ---- an opening on a memory without a run, and the list behind it
module _ (n : ℕ) (xs : List ℕ) (es : List Event) where
  -- the words tell the rest
  shown : (r : Verdict) (m : Mem) → r ≡ night_verdict n xs (events_of es) → m ≡ night_words n xs (events_of es) → Passed n xs es r m
  shown r m f g = (f, g, subst (λ (w : Mem). Shows w (night n xs (events_of es))) (sym g) (Replaying.night_shows n xs (events_of es)))

  pub list_stops : {v : Verdict} {r : Refusal} {m : Mem} → IsErrAnd v (λ e. e ≡ r) → Err r ≡ open_verdict n (length xs) → m ≡ begins blank n xs
      → Passed n xs es v m
  unfolding accepted
  list_stops h judged did =
      let s = Replaying.night_stops n xs (events_of es) (ap accepted (sym judged)) in
      shown _ _ (handed_on h ∙ judged ∙ sym s.0) (did ∙ sym s.1)

  pub list_goes_on : {m : Mem} → Accepted ≡ open_verdict n (length xs) → m ≡ begins blank n xs → {r : Verdict} {m' : Mem}
      → (r ≡ replayed_verdict m (events_of es)) × (m' ≡ replayed m (events_of es)) → Passed n xs es r m'
  unfolding accepted
  list_goes_on judged did then =
      let g = Replaying.night_goes_on n xs (events_of es) (ap accepted (sym judged)) in
      shown _ _
      (then.0 ∙ ap (λ (w : Mem). replayed_verdict w (events_of es)) did ∙ sym g.0)
      (then.1 ∙ ap (λ (w : Mem). replayed w (events_of es)) did ∙ sym g.1)
