-- The pieces add up: what a program has written where a piece waits for nothing more is the sheet of the whole trace, however the trace was taken and
-- whatever room there was. Assumes nothing.
use Prim.Native.Nat.{ℕ, zero, suc, ◌+◌, ◌-◌, ◌≤◌, ◌<◌}
use native.Mathlib.Omega.{arith}
use native.Mathlib.Numerals.{add-one}
use mathlib.Core.Path.{◌≡◌, refl, sym, ap, ◌∙◌}
use mathlib.Core.Bool.{Bool, true, false, cond}
use mathlib.Core.List.{List, [], ◌∷◌, ◌++◌, append_assoc, append-nil}
use lib.Dec.{ltb}
use lib.ListN.{length, drop}
use lib.Seq.{drop-nil, drop-drop, drop-append-le}
use Rattle.rounds.specs.Runs.{Report}
use Rattle.words.specs.Layout.{Mem}
use Rattle.words.specs.Spelled.{control_of}
use Rattle.words.specs.Calls.{blank}
use Rattle.records.specs.declared.Place.{Place}
use Rattle.records.specs.declared.Place.TheVariants.{First}
use Rattle.trace.specs.declared.Heard.{Heard}
use Rattle.trace.specs.declared.Gone.{Gone}
use Rattle.trace.specs.declared.Stop.{Stop}
use Rattle.trace.specs.Outcome.{Ending}
use Rattle.trace.specs.Turns.{Turn, More, Goes, Ends}
use Rattle.std.specs.Prelude.{Option, Some, None, Ok, Err}
use Rattle.trace.specs.Outcome.{ending_number, at_end, outcome}
use Rattle.trace.specs.Turns.{reports_of, turn, turned, trace_words}
use Rattle.trace.proofs.Turning.{ahead, more_ahead, goes_ahead, ends_ahead, ahead_ends}
use Rattle.trace.proofs.Telling.{told_ahead, more_tells, goes_tells, ends_tells, told_from_the_start}
use Rattle.trace.proofs.Pausing.{no_bytes, goes_not, ends_not, more_kept, turn_more, turned_more}
use Rattle.trace.proofs.Looping.{goes_within}
use Rattle.trace.proofs.Meaning.{trace_shows}
use Rattle.lines.specs.declared.Stand.{Stand}
use Rattle.lines.specs.declared.Stand.TheVariants.{Reads, Closes}
use Rattle.lines.specs.declared.Wants.{Wants}
use Rattle.lines.specs.declared.Wants.TheVariants as wants
use Rattle.lines.specs.Sheet.{h_lines, lines_below, sheet_of, sheet}
use Rattle.lines.specs.Pieces.{line_room, Part, rests, adds, told_text, waits, on_turn, follow, closing_line, closing_count, closing, piece}
use Rattle.lines.specs.Claims.{first, Session, starts, takes, writes}
use Rattle.lines.proofs.Closing.{closing_lines}
use Rattle.lines.proofs.Turning.{less_one}

-- ---- what a record tells is a line of what is reported
told_lines : (t : Option Heard) (rs : List Report) → h_lines (reports_of t ++ rs) ≡ told_text t ++ h_lines rs
unfolding h_lines reports_of told_text
told_lines None rs = refl
told_lines (Some t) rs = refl

-- ---- what holds of a session of the trace w with so many bytes not taken yet
module _ (w unread : List ℕ) where
  -- while the trace is read: what is ahead is what is ahead of all of it, and the text with what will be told is all that it reports
  record Reading (pl : Place) (m : Mem) (held text : List ℕ) : Type 0 where
    same : ahead pl m (held ++ unread) ≡ ahead First blank w
    lines : h_lines (outcome w).reports ≡ text ++ h_lines (told_ahead pl m (held ++ unread))

  -- when it has ended: the number and the words are those of the trace, and the text is all that it reports and so many lines more
  record Closing (number k : ℕ) (m : Mem) (text : List ℕ) : Type 0 where
    right : number ≡ ending_number (outcome w).ending
    words : m ≡ trace_words w
    within : k ≤ closing_count m
    lines : text ≡ h_lines (outcome w).reports ++ lines_below k (closing_line m number)

  Holds : Stand → Mem → List ℕ → List ℕ → Type 0
  Holds (Reads pl) m held text = Reading pl m held text
  Holds (Closes number k) m held text = Closing number k m text

  -- only where all lines are written is nothing waited for
  All : Stand → Mem → Type 0
  All (Reads pl) m = ⊥
  All (Closes number k) m = closing_count m ≤ k

  Whole : Wants → Stand → Mem → Type 0
  Whole wants.Input s m = Unit {0}
  Whole wants.Room s m = Unit {0}
  Whole wants.Nothing s m = All s m

  -- a piece that was begun with these bytes and this text
  record Kept (held text : List ℕ) (x : Part) : Type 0 where
    holds : Holds x.stand x.words (drop x.used held) (text ++ x.text)
    whole : Whole x.wants x.stand x.words

  kept_rests : (s : Stand) (m : Mem) (x : Wants) (held text : List ℕ) → Holds s m held text → Whole x s m → Kept held text (rests s m x)
  unfolding rests
  kept_rests s m x held text h a = record { holds = rw (append-nil text) h; whole = a }

  kept_adds : (k : ℕ) (line held text : List ℕ) (x : Part) → Kept (drop k held) (text ++ line) x → Kept held text (adds k line x)
  unfolding adds
  kept_adds k line held text x h =
      record {
        holds = rw (← drop-drop x.used k held, ← append_assoc text line x.text) h.holds;
        whole = h.whole;
      }

  -- ---- where the trace has ended
  closes : (x : Ending) (m : Mem) (text : List ℕ) → ahead First blank w ≡ record { ending = x; words = m } → h_lines (outcome w).reports ≡ text
      → Closing (ending_number x) 0 m text
  unfolding lines_below
  closes x m text e h =
      let is = ahead_ends w e in
      record { right = ap ending_number is.0; words = is.1; within = omega arith; lines = rw h (sym (append-nil text)) }

  -- ---- a turn on the bytes at hand
  module _ (pl : Place) (m : Mem) (held text : List ℕ) (h : Reading pl m held text) where
    abbrev after : Mem
    after = turned pl m held

    nothing_told : told_ahead pl m (held ++ unread) ≡ [] → h_lines (outcome w).reports ≡ text
    unfolding h_lines
    nothing_told e = h.lines ∙ rw e (append-nil text)

    at_ends : (x : Stop) → turn pl (control_of m) held ≡ Ends x → Closing (ending_number (Err x)) 0 after text
    at_ends x e =
        let whole = ends_not e in
        let q : turn pl (control_of m) (held ++ unread) ≡ Ends x = turn_more held unread pl (control_of m) whole ∙ e in
        closes (Err x) after text
        (sym h.same ∙ ends_ahead pl m (held ++ unread) q ∙ rw (turned_more held unread pl (control_of m) m whole))
        (nothing_told (ends_tells pl m (held ++ unread) q))

    at_last : unread ≡ [] → turn pl (control_of m) held ≡ More → Closing (ending_number (at_end pl)) 0 after text
    at_last none e =
        let all : held ++ unread ≡ held = rw none (append-nil held) in
        let q : turn pl (control_of m) (held ++ unread) ≡ More = rw all e in
        closes (at_end pl) after text
        (sym h.same ∙ more_ahead pl m (held ++ unread) q ∙ rw all)
        (nothing_told (more_tells pl m (held ++ unread) q))

    at_more : turn pl (control_of m) held ≡ More → Reading pl after held text
    at_more e = rw (more_kept pl (control_of m) m held e) h

    at_goes : (k : ℕ) (place : Place) (t : Option Heard) → turn pl (control_of m) held ≡ Goes k place t → Reading place after (drop k held) (text ++ told_text t)
    at_goes k place t e =
        let whole = goes_not e in
        let q : turn pl (control_of m) (held ++ unread) ≡ Goes k place t = turn_more held unread pl (control_of m) whole ∙ e in
        let far = goes_within pl (control_of m) held e in
        let rest : drop k held ++ unread ≡ drop k (held ++ unread) = sym (drop-append-le k held unread far.1) in
        let moved : turned pl m (held ++ unread) ≡ after = turned_more held unread pl (control_of m) m whole in
        record {
          same = rw (rest, ← moved) (sym (goes_ahead pl m (held ++ unread) q) ∙ h.same);
          lines =
              h.lines
              ∙ rw (goes_tells pl m (held ++ unread) q, told_lines t (told_ahead place (turned pl m (held ++ unread)) (drop k (held ++ unread))), rest, ← moved)
              (sym (append_assoc text (told_text t) _));
        }

    full_kept : (b : Bool) (x : Part) → Kept held text x → Kept held text (cond b (rests (Reads pl) m wants.Room) x)
    unfolding Holds Whole
    full_kept true x k = kept_rests (Reads pl) m wants.Room held text h tt
    full_kept false x k = k

    waits_kept : (last : Bool) → (last ≡ true → unread ≡ []) → turn pl (control_of m) held ≡ More → Kept held text (waits last pl after)
    unfolding waits Holds Whole
    waits_kept true none e = kept_rests (Closes (ending_number (at_end pl)) 0) after wants.Room held text (at_last (none refl) e) tt
    waits_kept false none e = kept_rests (Reads pl) after wants.Input held text (at_more e) tt

    turn_kept : (last : Bool) → (last ≡ true → unread ≡ []) → (t : Turn) → turn pl (control_of m) held ≡ t → (next : Gone → Part)
        → ((g : Gone) → turn pl (control_of m) held ≡ Ok (Some g) → Kept (drop g.used held) (text ++ told_text g.told) (next g))
        → Kept held text (on_turn last pl after t next)
    unfolding on_turn Holds Whole
    turn_kept last none (Ok None) e next f = waits_kept last none e
    turn_kept last none (Ok (Some g)) e next f = kept_adds g.used (told_text g.told) held text (next g) (f g e)
    turn_kept last none (Err x) e next f = kept_rests (Closes (ending_number (Err x)) 0) after wants.Room held text (at_ends x e) tt

  -- ---- a piece while the trace is read
  follow_kept : (last : Bool) → (last ≡ true → unread ≡ []) → (bs : List ℕ) (room k : ℕ) (pl : Place) (m : Mem) (text : List ℕ)
      → Reading pl m (drop k bs) text → Kept (drop k bs) text (follow last room k pl m bs)
  unfolding follow
  follow_kept last none [] room k pl m text h =
      let more : turn pl (control_of m) [] ≡ More = no_bytes pl (control_of m) in
      let r : Reading pl m [] text = rw (drop-nil {A = ℕ} k) at h in
      rw (drop-nil {A = ℕ} k)
      (full_kept pl m [] text r (ltb room line_room) (waits last pl m) (rw (more_kept pl (control_of m) m [] more) at (waits_kept pl m [] text r last none more)))
  follow_kept last none (b ∷ bs) room (suc k) pl m text h = follow_kept last none bs room k pl m text h
  follow_kept last none (b ∷ bs) room zero pl m text h =
      full_kept pl m (b ∷ bs) text h (ltb room line_room) _
      (turn_kept pl m (b ∷ bs) text h last none (turn pl (control_of m) (b ∷ bs)) refl _
      (λ g e.
      (let q : drop (g.used - 1) bs ≡ drop g.used (b ∷ bs) = less_one g.used b bs (goes_within pl (control_of m) (b ∷ bs) e).0 in
      rw q at
      (follow_kept last none bs (room - length (told_text g.told)) (g.used - 1) g.place (turned pl m (b ∷ bs)) (text ++ told_text g.told)
      (rw (← q) at (at_goes pl m (b ∷ bs) text h g.used g.place g.told e))))))

  -- ---- a piece when it has ended
  one_more : (number k : ℕ) (m : Mem) (text : List ℕ) → k < closing_count m → Closing number k m text
      → Closing number (k + 1) m (text ++ closing_line m number k)
  unfolding lines_below
  one_more number k m text l h =
      record {
        right = h.right;
        words = h.words;
        within = omega arith;
        lines = rw (h.lines, add-one k) (append_assoc (h_lines (outcome w).reports) (lines_below k (closing_line m number)) (closing_line m number k));
      }

  line_kept : (b : Bool) (number k : ℕ) (m : Mem) (held text : List ℕ) (x : Part) → Closing number k m text
      → Kept held (text ++ closing_line m number k) x → Kept held text (cond b (rests (Closes number k) m wants.Room) (adds 0 (closing_line m number k) x))
  unfolding Holds Whole
  line_kept true number k m held text x h y = kept_rests (Closes number k) m wants.Room held text h tt
  line_kept false number k m held text x h y = kept_adds 0 (closing_line m number k) held text x y

  closing_kept : (j room number k : ℕ) (m : Mem) (held text : List ℕ) → closing_count m - k ≡ j → Closing number k m text
      → Kept held text (closing room j number k m)
  unfolding closing Holds Whole All
  closing_kept zero room number k m held text e h = kept_rests (Closes number k) m wants.Nothing held text h (omega arith)
  closing_kept (suc j) room number k m held text e h =
      line_kept (ltb room line_room) number k m held text _ h
      (closing_kept j (room - length (closing_line m number k)) number (k + 1) m held (text ++ closing_line m number k) (omega arith)
      (one_more number k m text (omega arith) h))

  -- ---- any piece
  piece_kept : (last : Bool) → (last ≡ true → unread ≡ []) → (room : ℕ) (s : Stand) (m : Mem) (held text : List ℕ) → Holds s m held text
      → Kept held text (piece last room s m held)
  unfolding piece Holds
  piece_kept last none room (Reads pl) m held text h = follow_kept last none held room 0 pl m text h
  piece_kept last none room (Closes number k) m held text h = closing_kept (closing_count m - k) room number k m held text refl h

-- ---- so all that a session comes to is right
taken : (w part unread : List ℕ) (s : Stand) (m : Mem) (held text : List ℕ) → Holds w (part ++ unread) s m held text
    → Holds w unread s m (held ++ part) text
unfolding Holds
taken w part unread (Reads pl) m held text h =
    record { same = rw (append_assoc held part unread) h.same; lines = rw (append_assoc held part unread) h.lines }
taken w part unread (Closes number k) m held text h = record { right = h.right; words = h.words; within = h.within; lines = h.lines }

holds : {w unread held text : List ℕ} {s : Stand} {m : Mem} → Session w unread s m held text → Holds w unread s m held text
unfolding Holds first
holds {w} starts = record { same = refl; lines = ap h_lines (sym (told_from_the_start w)) }
holds {w} {unread} (takes {held = held} {text} {s} {m} part h) = taken w part unread s m held text (holds h)
holds {w} {unread} (writes {held = held} {text} {s} {m} h last none room x e) =
    rw e (piece_kept w unread last none room s m held text (holds h)).holds

-- ---- where all lines are written
all_lines : (w unread : List ℕ) (number k : ℕ) (m : Mem) (text : List ℕ) → Closing w unread number k m text → closing_count m ≤ k → text ≡ sheet w
unfolding sheet sheet_of
all_lines w unread number k m text h a =
    let q : k ≡ closing_count m = omega (arith, h.within) in
    h.lines
    ∙ rw (q, h.words, closing_lines (trace_words w) (outcome w).config (trace_shows w) number, h.right)

-- ---- where a piece waits for nothing, the text and the piece are the sheet of the trace
pub pieces_add_up : {w unread held text : List ℕ} {s : Stand} {m : Mem} → Session w unread s m held text
    → (last : Bool) → (last ≡ true → unread ≡ []) → (room : ℕ) (x : Part) → x ≡ piece last room s m held → x.wants ≡ wants.Nothing
    → text ++ x.text ≡ sheet w
unfolding Holds Whole All
pieces_add_up {w} {unread} {held} {text} {s} {m} h last none room x e z =
    let k : Kept w unread held text x = rw e (piece_kept w unread last none room s m held text (holds h)) in
    finish x.stand x.words (drop x.used held) (text ++ x.text) k.holds (rw z at k.whole)
  where
    finish : (s : Stand) (m : Mem) (held text : List ℕ) → Holds w unread s m held text → All w unread s m → text ≡ sheet w
    finish (Reads pl) m held text h a = absurd a
    finish (Closes number k) m held text h a = all_lines w unread number k m text h a
