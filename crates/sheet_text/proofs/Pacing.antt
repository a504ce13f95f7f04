-- What the loops of the pieces rest on: a piece after the records, or the lines, that it has gone over so far. Assumes nothing.
use Prim.Native.Nat.{ℕ, zero, suc, ◌+◌, ◌-◌, ◌≤◌, ◌<◌}
use native.Mathlib.Omega.{arith}
use mathlib.Core.Path.{◌≡◌, sym, ap, ◌∙◌}
use mathlib.Core.Bool.{Bool, true, false, cond}
use mathlib.Core.List.{List, [], ◌++◌, append-nil}
use borrow.Author.Tests.{lt-ltb, le-ltb}
use lib.Dec.{ltb}
use lib.ListN.{length, get_or, take, drop, length-drop, length-take}
use lib.Seq.{drop-drop, get_or-drop, sets}
use Rattle.words.specs.Layout.{Mem}
use Rattle.words.specs.Spelled.{control_of}
use Rattle.records.specs.declared.Place.{Place}
use Rattle.records.specs.Records.{longest}
use Rattle.std.proofs.lemmas.List.{take_rest}
use Rattle.records.proofs.Short.{cut_short}
use Rattle.records.proofs.Stored.{sets_over}
use Rattle.std.specs.Prelude.{Some, Ok, Err}
use Rattle.trace.specs.declared.Stop.{Stop}
use Rattle.trace.specs.declared.Gone.{Gone}
use Rattle.trace.specs.Outcome.{Ending}
use Rattle.trace.specs.Turns.{Turn, More, Ends}
use Rattle.trace.specs.Outcome.{ending_number, at_end}
use Rattle.trace.specs.Turns.{turn, turned}
use Rattle.trace.specs.Haste.{haste}
use Rattle.trace.proofs.Looping.{goes_within}
use Rattle.trace.proofs.Hastening.{haste_within}
use Rattle.trace.proofs.Pausing.{more_cut}
use Rattle.lines.specs.declared.Stand.{Stand}
use Rattle.lines.specs.declared.Stand.TheVariants.{Reads, Closes}
use Rattle.lines.specs.declared.Wants.{Wants}
use Rattle.lines.specs.declared.Wants.TheVariants as wants
use Rattle.lines.specs.declared.Piece.{Piece}
use Rattle.lines.specs.Pieces.{line_room, Part, rests, adds, told_text, waits, on_turn, follow, closing_line, closing_count, closing, said, Came}
use Rattle.lines.proofs.Turning.{adds_adds, adds_none, full_is, turn_is, haste_part}
use Rattle.sheet_text.specs.declared.text.Pen.{Pen}
use Rattle.sheet_text.specs.Written.{Wrote}
use Rattle.sheet_text.proofs.Writing.{wrote_none, wrote_one}

-- ---- what a piece comes to
answered : ℕ → ℕ → Stand → Wants → Piece
answered u n s v = record { used = u; written = n; stand = s; wants = v }

-- only a piece that waits for input has to say how little is left
not_room : wants.Room ≡ wants.Input → ⊥
not_room e = let q : ◌≡◌ {A = ℕ} 0 1 = cc in omega arith

not_nothing : wants.Nothing ≡ wants.Input → ⊥
not_nothing e = let q : ◌≡◌ {A = ℕ} 0 1 = cc in omega arith

-- text is what has been written since the pen began, at the front of its buffer
pub record Begun (first pen : Pen) (text : List ℕ) : Type 0 where
  pub front : first.at ≡ 0
  pub wrote : Wrote first pen text

begun_none : {pen : Pen} → pen.at ≡ 0 → Begun pen pen []
begun_none e = record { front = e; wrote = wrote_none (omega arith) }

further : {first pen pen' : Pen} {v w : List ℕ} → Begun first pen v → Wrote pen pen' w → Begun first pen' (v ++ w)
further b g = record { front = b.front; wrote = wrote_one b.wrote g }

came : {x : Part} {w : List ℕ} {first pen : Pen} {used : ℕ} {s : Stand} {m : Mem} {v : Wants} (text : List ℕ) → used ≤ length w → Begun first pen text
    → (v ≡ wants.Input → length w < used + longest) → x ≡ adds used text (rests s m v)
    → Came x w first.out.now (record { used = used; written = pen.at; stand = s; wants = v }) m pen.out.now
unfolding adds rests said answered
came {x} {w} {first} {pen} {used} {s} {m} {v} text l b few e =
    let place : length text ≡ pen.at = omega (arith, b.wrote.place, b.front) in
    let plus : used + 0 ≡ used = omega arith in
    let same : answered used pen.at s v ≡ answered (used + 0) (length (text ++ [])) s v = rw (append-nil text, place, plus) in
    let bytes : pen.out.now ≡ sets first.out.now 0 text = rw (← b.front) b.wrote.bytes in
    record {
      says = rw e same;
      words = rw e;
      text = rw (e, append-nil text) (bytes ∙ sets_over text first.out.now (omega (arith, b.wrote.within, b.wrote.long)));
      within = l;
      room = omega (arith, b.wrote.within, b.wrote.long);
      short = few;
    }

-- the buffer, given back, is as the pen left it
pub back : {x : Part} {w out l l' : List ℕ} {p : Piece} {m : Mem} → Came x w out p m l → l' ≡ l → Came x w out p m l'
back h e = rw e h

-- ---- how far sends and receives go, and a record
pub ruleset reading = (haste_within, goes_within, length-take, length-drop)

-- ---- the loop that reads: x is the whole piece, and the rest of it is a piece from here on
pub record Along (last : Bool) (x : Part) (w : List ℕ) (pl : Place) (m : Mem) (first pen : Pen) (used : ℕ) : Type 0 where
  pub within : used ≤ length w
  pub text : List ℕ
  pub begun : Begun first pen text
  pub part : x ≡ adds used text (follow last (length first.out.now - pen.at) 0 pl m (drop used w))

-- a turn, with room for a line
pub record Turned (last : Bool) (x : Part) (w : List ℕ) (pl : Place) (m : Mem) (first pen : Pen) (used : ℕ) (t : Turn) : Type 0 where
  pub before : Mem
  pub so : Along last x w pl before first pen used
  pub wide : line_room ≤ length pen.out.now - pen.at
  pub answer : t ≡ turn pl (control_of before) (drop used w)
  pub words : m ≡ turned pl before (drop used w)

module _ {last : Bool} {x : Part} {w : List ℕ} {pl : Place} {m : Mem} {first pen : Pen} {used : ℕ} (h : Along last x w pl m first pen used) where
  pub full_came : length pen.out.now - pen.at < line_room
      → Came x w first.out.now (record { used = used; written = pen.at; stand = Reads pl; wants = wants.Room }) m pen.out.now
  full_came l =
      came h.text h.within h.begun (λ e. absurd (not_room e))
      (h.part
      ∙ ap (adds used h.text) (full_is last (length first.out.now - pen.at) pl m (drop used w) (omega (arith, h.begun.wrote.long))))

  -- sends and receives taken all at once, with room for a line
  hastened : {m' : Mem} {more : ℕ} → line_room ≤ length pen.out.now - pen.at
      → (more ≡ (haste pl m (take (length w - used) (drop used w))).used) × (m' ≡ (haste pl m (take (length w - used) (drop used w))).words)
      → Along last x w pl m' first pen (used + more)
  hastened wide e =
      let far = haste_within pl m (drop used w) in
      let n = rw take_rest at e.0 in
      let q = rw take_rest at e.1 in
      record {
        within = omega (arith, h.within, far, n, length-drop used w);
        text = h.text;
        begun = h.begun;
        part = rw (n, q) (haste_part last x h.text (length first.out.now - pen.at) (omega (arith, wide, h.begun.wrote.long)) w used pl m h.part);
      }

  -- and the turn after them
  pub took : {m' m'' : Mem} {more : ℕ} {t : Turn} → line_room ≤ length pen.out.now - pen.at
      → (more ≡ (haste pl m (take (length w - used) (drop used w))).used) × (m' ≡ (haste pl m (take (length w - used) (drop used w))).words)
      → (t ≡ turn pl (control_of m') (take (length w - (used + more)) (drop (used + more) w)))
      × (m'' ≡ turned pl m' (take (length w - (used + more)) (drop (used + more) w)))
      → Turned last x w pl m'' first pen (used + more) t
  took l e g = record { before = _; so = hastened l e; wide = l; answer = rw take_rest at g.0; words = rw take_rest at g.1 }

-- ---- what comes of the turn
module _ {last : Bool} {x : Part} {w : List ℕ} {pl : Place} {m : Mem} {first pen : Pen} {used : ℕ} {t : Turn}
    (c : Turned last x w pl m first pen used t) where
  pub goes_far : {g : Gone} → t ≡ Ok (Some g) → (0 < g.used) × (used + g.used ≤ length w)
  goes_far e =
      let far = goes_within pl (control_of c.before) (drop used w) (sym c.answer ∙ e) in
      (far.0, omega (arith, far.1, length-drop used w, c.so.within))

  decides : (u : Turn) → t ≡ u
      → x ≡ adds used c.so.text (on_turn last pl m u (λ g. follow last (length first.out.now - pen.at - length (told_text g.told)) 0 g.place m (drop g.used (drop used w))))
  decides u e =
      let q : turn pl (control_of c.before) (drop used w) ≡ u = sym c.answer ∙ e in
      rw c.words
      (c.so.part
      ∙ ap (adds used c.so.text)
      (turn_is last (length first.out.now - pen.at) pl c.before (drop used w) (omega (arith, c.wide, c.so.begun.wrote.long)) ∙ rw q))

  pub goes_on : {g : Gone} {pen' : Pen} → t ≡ Ok (Some g) → Wrote pen pen' (told_text g.told)
      → Along last x w g.place m first pen' (used + g.used)
  unfolding on_turn
  goes_on {g} {pen'} e n =
      let less : length first.out.now - pen.at - length (told_text g.told) ≡ length first.out.now - pen'.at = omega (arith, n.place) in
      record {
        within = (goes_far e).1;
        text = c.so.text ++ told_text g.told;
        begun = further c.so.begun n;
        part = decides (Ok (Some g)) e ∙ adds_adds used g.used c.so.text (told_text g.told) _ ∙ rw (less, drop-drop g.used used w);
      }

  pub ends_came : {y : Stop} {n : ℕ} → t ≡ Ends y → n ≡ ending_number (Err y)
      → Came x w first.out.now (record { used = used; written = pen.at; stand = Closes n 0; wants = wants.Room }) m pen.out.now
  unfolding on_turn
  ends_came {y} e a = rw a (came c.so.text c.so.within c.so.begun (λ i. absurd (not_room i)) (decides (Ends y) e))

  pub more_came : ((i : ℕ) → get_or w i 0 < 256) → t ≡ More → last ≡ false
      → Came x w first.out.now (record { used = used; written = pen.at; stand = Reads pl; wants = wants.Input }) m pen.out.now
  unfolding on_turn waits
  more_came bytes e q =
      let cut = more_cut pl (control_of c.before) (drop used w) (sym c.answer ∙ e) in
      let few = cut_short pl (drop used w) (rw (get_or-drop used w 3 0) (bytes (used + 3))) cut in
      came c.so.text c.so.within c.so.begun (λ i. omega (arith, few, length-drop used w)) (decides More e ∙ rw q)

  pub last_came : {y : Ending} {n : ℕ} → t ≡ More → last ≡ true → y ≡ at_end pl → n ≡ ending_number y
      → Came x w first.out.now (record { used = used; written = pen.at; stand = Closes n 0; wants = wants.Room }) m pen.out.now
  unfolding on_turn waits
  last_came e q a b = rw (b, a) (came c.so.text c.so.within c.so.begun (λ i. absurd (not_room i)) (decides More e ∙ rw q))

pub none_gone : (last : Bool) (w : List ℕ) (pl : Place) (m : Mem) {pen : Pen} → pen.at ≡ 0
    → Along last (follow last (length pen.out.now) 0 pl m w) w pl m pen pen 0
none_gone last w pl m {pen} z =
    let e : length pen.out.now - pen.at ≡ length pen.out.now = omega arith in
    record { within = omega arith; text = []; begun = begun_none z; part = rw e (adds_none (follow last (length pen.out.now) 0 pl m w)) }

-- ---- the loop that closes
pub record Shut (x : Part) (m : Mem) (number : ℕ) (first pen : Pen) (k : ℕ) : Type 0 where
  pub text : List ℕ
  pub begun : Begun first pen text
  pub part : x ≡ adds 0 text (closing (length first.out.now - pen.at) (closing_count m - k) number k m)

module _ {x : Part} {m : Mem} {number : ℕ} {first pen : Pen} {k : ℕ} (h : Shut x m number first pen k) where
  pub all_came : closing_count m ≤ k → Came x [] first.out.now (record { used = 0; written = pen.at; stand = Closes number k; wants = wants.Nothing }) m pen.out.now
  unfolding closing
  all_came l =
      let e : closing_count m - k ≡ 0 = omega arith in
      came h.text (omega arith) h.begun (λ i. absurd (not_nothing i)) (h.part ∙ rw e)

  -- a line is left
  one_left : k < closing_count m → closing_count m - k ≡ suc (closing_count m - (k + 1))
  one_left l = omega arith

  pub short_came : k < closing_count m → length pen.out.now - pen.at < line_room
      → Came x [] first.out.now (record { used = 0; written = pen.at; stand = Closes number k; wants = wants.Room }) m pen.out.now
  unfolding closing
  short_came l short =
      came h.text (omega arith) h.begun (λ e. absurd (not_room e))
      (h.part ∙ rw (one_left l, lt-ltb (length first.out.now - pen.at) line_room (omega (arith, h.begun.wrote.long))))

  pub line_on : {pen' : Pen} → k < closing_count m → line_room ≤ length pen.out.now - pen.at → Wrote pen pen' (closing_line m number k)
      → Shut x m number first pen' (k + 1)
  unfolding closing
  line_on {pen'} l wide g =
      let less : length first.out.now - pen.at - length (closing_line m number k) ≡ length first.out.now - pen'.at = omega (arith, g.place) in
      record {
        text = h.text ++ closing_line m number k;
        begun = further h.begun g;
        part =
            h.part
            ∙ rw (one_left l, le-ltb (length first.out.now - pen.at) line_room (omega (arith, h.begun.wrote.long)))
            (adds_adds 0 0 h.text (closing_line m number k) _ ∙ rw less);
      }

pub none_shut : (m : Mem) (number k : ℕ) {pen : Pen} → pen.at ≡ 0 → Shut (closing (length pen.out.now) (closing_count m - k) number k m) m number pen pen k
none_shut m number k {pen} z =
    let e : length pen.out.now - pen.at ≡ length pen.out.now = omega arith in
    record { text = []; begun = begun_none z; part = rw e (adds_none (closing (length pen.out.now) (closing_count m - k) number k m)) }

-- it uses no byte of the bytes at hand, and never waits for input
closing_other : (j room number k : ℕ) (m : Mem) → (closing room j number k m).wants ≡ wants.Input → ⊥
unfolding closing rests adds
closing_other zero room number k m = not_nothing
closing_other (suc j) room number k m = go (ltb room line_room) (closing_other j (room - length (closing_line m number k)) number (k + 1) m)
  where
    go : (b : Bool) → ((closing (room - length (closing_line m number k)) j number (k + 1) m).wants ≡ wants.Input → ⊥)
        → (cond b (rests (Closes number k) m wants.Room)
        (adds 0 (closing_line m number k) (closing (room - length (closing_line m number k)) j number (k + 1) m))).wants ≡ wants.Input
        → ⊥
    go true h = not_room
    go false h = h

pub any_bytes : {w out : List ℕ} {p : Piece} {m' out' : List ℕ} (j room number k : ℕ) (m : Mem) → Came (closing room j number k m) [] out p m' out'
    → Came (closing room j number k m) w out p m' out'
unfolding said
any_bytes j room number k m h =
    record {
      says = h.says;
      words = h.words;
      text = h.text;
      within = omega (arith, h.within);
      room = h.room;
      short = λ e. absurd (closing_other j room number k m (sym (ap (λ (x : Piece). x.wants) h.says) ∙ e));
    }
