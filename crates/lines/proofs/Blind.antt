-- What the line carrier gets says nothing of a value: of two traces that differ in the opening's values alone, the sheets are equal in every line but
-- the `v` lines; and the `v` line of a process is the same too where the values agree on its reach. Assumes nothing.
use Prim.Native.Nat.{ℕ, zero, suc, ◌+◌, ◌/◌, ◌%◌}
use native.Mathlib.Omega.{arith}
use mathlib.Core.Path.{◌≡◌, refl, sym, ap, ◌∙◌}
use mathlib.Core.Bool.{Bool, true, false, cond}
use mathlib.Core.List.{List, [], ◌∷◌, ◌++◌, append_assoc, append-nil}
use borrow.Author.Tests.{ne_eqb}
use lib.Dec.{ltb, eqb}
use Rattle.std.specs.Prelude.{Option, Some, None}
use Rattle.rounds.specs.Config.{Config}
use Rattle.rounds.specs.Runs.{Report, value_at}
use Rattle.rounds.specs.Claims.{Agree}
use Rattle.words.specs.declared.Standing.{Standing}
use Rattle.words.specs.Shows.{standing}
use Rattle.records.specs.Script.{values_of}
use Rattle.trace.specs.Outcome.{ending_number, outcome}
use Rattle.trace.specs.Claims.{Revalued}
use Rattle.trace.proofs.Meaning.{opening_values_alone}
use Rattle.lines.specs.Text.{glyph, digits, decimal, hex, line_feed, field, set_field, choice_field, letter_h, letter_w, letter_v, letter_e, h_line, w_line, v_line, e_line}
use Rattle.lines.specs.Sheet.{h_lines, lines_below, w_lines, v_lines, sheet_of, sheet}
use Rattle.lines.specs.Carrier.{start, kept, left, keeps, inside, if_kept, without_lines, without_votes}

-- ---- bytes without a line feed
Inner : List ℕ → Type 0
Inner [] = Unit {0}
Inner (b ∷ bs) = (eqb b 10 ≡ false) × Inner bs

inner_append : (a b : List ℕ) → Inner a → Inner b → Inner (a ++ b)
unfolding Inner
inner_append [] b p q = q
inner_append (x ∷ a) b p q = (p.0, inner_append a b p.1 q)

glyph_inner : (d : ℕ) → eqb (glyph d) 10 ≡ false
unfolding glyph
glyph_inner d = go (ltb d 10)
  where
    go : (b : Bool) → eqb (cond b (48 + d) (87 + d)) 10 ≡ false
    go true = ne_eqb (48 + d) 10 (λ (e : 48 + d ≡ 10). omega arith)
    go false = ne_eqb (87 + d) 10 (λ (e : 87 + d ≡ 10). omega arith)

one_inner : (d : ℕ) → Inner (glyph d ∷ [])
unfolding Inner
one_inner d = (glyph_inner d, tt)

digits_inner : (k n : ℕ) → Inner (digits k n)
unfolding Inner digits
digits_inner zero n = tt
digits_inner (suc k) zero = tt
digits_inner (suc k) (suc n) = inner_append (digits k (suc n / 10)) _ (digits_inner k (suc n / 10)) (one_inner (suc n % 10))

field_inner : (n : ℕ) → Inner (field n)
unfolding Inner field decimal
field_inner n = (refl, inner_append (digits n (n / 10)) _ (digits_inner n (n / 10)) (one_inner (n % 10)))

set_inner : (s : ℕ) → Inner (set_field s)
unfolding Inner set_field hex
set_inner s = (refl, (glyph_inner _, (glyph_inner _, (glyph_inner _, (glyph_inner _, tt)))))

choice_inner : (c : Option ℕ) → Inner (choice_field c)
unfolding Inner choice_field
choice_inner None = (refl, (refl, tt))
choice_inner (Some x) = field_inner x

-- ---- the rest of a line: bytes without a line feed, and a line feed
record Tail (l : List ℕ) : Type 0 where
  body : List ℕ
  is : l ≡ body ++ line_feed
  inner : Inner body

feed : Tail line_feed
unfolding Inner
feed = record { body = []; is = refl; inner = tt }

more : (a l : List ℕ) → Inner a → Tail l → Tail (a ++ l)
more a l p t =
    record { body = a ++ t.body; is = rw t.is (sym (append_assoc a t.body line_feed)); inner = inner_append a t.body p t.inner }

h_tail : (p r s : ℕ) → Tail (field p ++ (field r ++ (set_field s ++ line_feed)))
h_tail p r s = more _ _ (field_inner p) (more _ _ (field_inner r) (more _ _ (set_inner s) feed))

w_tail : (p : ℕ) (s : Standing)
    → Tail (field p ++ (field s.round ++ (field s.sending ++ (field s.collecting ++ (field s.pending ++ (field s.idle ++ (set_field s.reach ++ line_feed)))))))
w_tail p s =
    more _ _ (field_inner p)
    (more _ _ (field_inner s.round)
    (more _ _ (field_inner s.sending)
    (more _ _ (field_inner s.collecting)
    (more _ _ (field_inner s.pending)
    (more _ _ (field_inner s.idle)
    (more _ _ (set_inner s.reach) feed))))))

v_tail : (p : ℕ) (s : Standing) → Tail (field p ++ (field s.value ++ (choice_field s.vote ++ (choice_field s.decision ++ line_feed))))
v_tail p s =
    more _ _ (field_inner p) (more _ _ (field_inner s.value) (more _ _ (choice_inner s.vote) (more _ _ (choice_inner s.decision) feed)))

e_tail : (events number : ℕ) → Tail (field events ++ (field number ++ line_feed))
e_tail events number = more _ _ (field_inner events) (more _ _ (field_inner number) feed)

-- ---- in a line that is kept all bytes stay, in one that is left out none
module _ (x : ℕ) (rest : List ℕ) where
  body_kept : (l : List ℕ) → Inner l → without_lines x kept (l ++ (10 ∷ rest)) ≡ l ++ (10 ∷ without_lines x start rest)
  unfolding Inner without_lines keeps inside if_kept
  body_kept [] p = refl
  body_kept (b ∷ l) p = rw p.0 (ap (λ (r : List ℕ). b ∷ r) (body_kept l p.1))

  body_left : (l : List ℕ) → Inner l → without_lines x left (l ++ (10 ∷ rest)) ≡ without_lines x start rest
  unfolding Inner without_lines keeps inside if_kept
  body_left [] p = refl
  body_left (b ∷ l) p = rw p.0 (body_left l p.1)

  tail_kept : (l : List ℕ) → Tail l → without_lines x kept (l ++ rest) ≡ l ++ without_lines x start rest
  tail_kept l t =
      rw (t.is, append_assoc t.body line_feed rest, append_assoc t.body line_feed (without_lines x start rest)) (body_kept t.body t.inner)

  tail_left : (l : List ℕ) → Tail l → without_lines x left (l ++ rest) ≡ without_lines x start rest
  tail_left l t = rw (t.is, append_assoc t.body line_feed rest) (body_left t.body t.inner)

-- ---- so the lines of the sheet without the `v` lines
line_kept : (letter : ℕ) (l rest : List ℕ) → eqb letter letter_v ≡ false → eqb letter 10 ≡ false → Tail l
    → without_votes (((letter ∷ []) ++ l) ++ rest) ≡ ((letter ∷ []) ++ l) ++ without_votes rest
unfolding without_votes without_lines keeps inside if_kept
line_kept letter l rest other inner t = rw (other, inner) (ap (λ (r : List ℕ). letter ∷ r) (tail_kept letter_v rest l t))

vote_left : (l rest : List ℕ) → Tail l → without_votes (((letter_v ∷ []) ++ l) ++ rest) ≡ without_votes rest
unfolding without_votes without_lines keeps inside if_kept
vote_left l rest t = tail_left letter_v rest l t

h_kept : (rs : List Report) (rest : List ℕ) → without_votes (h_lines rs ++ rest) ≡ h_lines rs ++ without_votes rest
unfolding h_lines h_line
h_kept [] rest = refl
h_kept (r ∷ rs) rest =
    rw (
      append_assoc (h_line r.process r.round r.heard) (h_lines rs) rest,
      append_assoc (h_line r.process r.round r.heard) (h_lines rs) (without_votes rest),
    )
    (line_kept letter_h _ (h_lines rs ++ rest) refl refl (h_tail r.process r.round r.heard)
    ∙ ap (λ (l : List ℕ). h_line r.process r.round r.heard ++ l) (h_kept rs rest))

below_kept : (f : ℕ → List ℕ) → ((k : ℕ) (rest : List ℕ) → without_votes (f k ++ rest) ≡ f k ++ without_votes rest)
    → (k : ℕ) (rest : List ℕ) → without_votes (lines_below k f ++ rest) ≡ lines_below k f ++ without_votes rest
unfolding lines_below
below_kept f each zero rest = refl
below_kept f each (suc k) rest =
    rw (append_assoc (lines_below k f) (f k) rest, append_assoc (lines_below k f) (f k) (without_votes rest))
    (below_kept f each k (f k ++ rest) ∙ ap (λ (l : List ℕ). lines_below k f ++ l) (each k rest))

below_left : (f : ℕ → List ℕ) → ((k : ℕ) (rest : List ℕ) → without_votes (f k ++ rest) ≡ without_votes rest)
    → (k : ℕ) (rest : List ℕ) → without_votes (lines_below k f ++ rest) ≡ without_votes rest
unfolding lines_below
below_left f each zero rest = refl
below_left f each (suc k) rest = rw (append_assoc (lines_below k f) (f k) rest) (below_left f each k (f k ++ rest) ∙ each k rest)

e_kept : (events number : ℕ) → without_votes (e_line events number) ≡ e_line events number
unfolding e_line without_votes without_lines
e_kept events number =
    let l = field events ++ (field number ++ line_feed) in
    ap without_votes (sym (append-nil ((letter_e ∷ []) ++ l)))
    ∙ line_kept letter_e l [] refl refl (e_tail events number)
    ∙ append-nil ((letter_e ∷ []) ++ l)

-- ---- what the carrier gets: the `h` lines, the `w` lines and the `e` line
pub carrier_lines : (w : List ℕ)
    → without_votes (sheet w)
    ≡ h_lines (outcome w).reports
    ++ (w_lines (outcome w).config ++ e_line (outcome w).config.control.events (ending_number (outcome w).ending))
unfolding sheet sheet_of w_lines v_lines w_line v_line
carrier_lines w =
    let c = (outcome w).config in
    h_kept (outcome w).reports _
    ∙ rw (
      below_kept (λ p. w_line p (standing c p)) (λ p rest. line_kept letter_w _ rest refl refl (w_tail p (standing c p))) c.control.size _,
      below_left (λ p. v_line p (standing c p)) (λ p rest. vote_left _ rest (v_tail p (standing c p))) c.control.size _,
      e_kept c.control.events (ending_number (outcome w).ending),
    )

-- ---- the `w` lines go by what never sees a value
waits_alone : (c d : Config) → c.control ≡ d.control → w_lines c ≡ w_lines d
unfolding w_lines w_line standing
waits_alone c d e = rw e

-- ---- so opening values change nothing of what the carrier gets
pub carrier_blind : (w u : List ℕ) → Revalued w u → without_votes (sheet w) ≡ without_votes (sheet u)
carrier_blind w u d =
    let b = opening_values_alone w u d in
    carrier_lines w
    ∙ rw (waits_alone (outcome w).config (outcome u).config b.control, b.reports, b.ending, b.control) (sym (carrier_lines u))

-- ---- and nothing of the `v` line of a process, where the values agree on its reach
pub vote_line_blind : (w u : List ℕ) (d : Revalued w u) (p : ℕ)
    → Agree (value_at (values_of d.size w)) (value_at (values_of d.size u)) ((outcome w).config.control.site p).reach
    → v_line p (standing (outcome w).config p) ≡ v_line p (standing (outcome u).config p)
unfolding v_line standing
vote_line_blind w u d p agree = rw ((opening_values_alone w u d).holding [] p (rw (append-nil w) agree), standing)
