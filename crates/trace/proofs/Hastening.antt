-- Sends and receives taken all at once: they are turns that go on and tell nothing, so whatever such turns keep is kept. Assumes nothing.
use Prim.Native.Nat.{ℕ, zero, suc, ◌+◌, ◌-◌, ◌*◌, ◌≤◌, ◌<◌}
use native.Mathlib.Omega.{arith}
use mathlib.Core.Path.{◌≡◌, refl, sym, ap, ◌∙◌}
use mathlib.Core.Bool.{Bool, true, false, cond, ◌&&◌, true≢false}
use mathlib.Core.List.{List, [], ◌∷◌}
use borrow.Author.Tests.{le-ltb, ltb-false, eq-eqb, ne_eqb, eqb-true, eqb-false}
use lib.Dec.{ltb, eqb}
use lib.ListN.{length, get_or, take, drop, length-drop}
use lib.Seq.{drop-drop, get_or-drop, get_or-take}
use Rattle.rounds.specs.declared.Event.TheVariants.{Send, Receive}
use Rattle.rounds.specs.Verdicts.{accepted, verdict}
use Rattle.words.specs.Layout.{Mem}
use Rattle.words.specs.Spelled.{control_of}
use Rattle.words.specs.Calls.{judged as judged_answer, answer}
use Rattle.std.specs.Prelude.{Option, Some, None, Ok}
use Rattle.rounds.specs.declared.Event.{Event}
use Rattle.rounds.proofs.Answers.{is_accepted}
use Rattle.trace.specs.Turns.{Goes, passes}
use Rattle.words.specs.Shows.{verdict_of}
use Rattle.words.proofs.Meaning.{refused_unchanged}
use Rattle.records.specs.declared.Place.{Place}
use Rattle.records.specs.declared.Place.TheVariants.{First, Later, Behind}
use Rattle.records.specs.declared.Record.TheVariants.{Happens}
use Rattle.records.specs.Records.{tag_of, misplaced, size_of, made, plain, judged, headed, parse, extent, event_extent}
use Rattle.trace.specs.Turns.{on_answer, tells, turn_on, words_on, turn, turned}
use Rattle.trace.specs.Haste.{hasty_extent, head_is, hasty, goes, left, Haste, stays, further, haste_behind, haste}
use Rattle.trace.proofs.Turning.{ahead, goes_ahead}

-- ---- what stands at the head is the record that is read there
both : (a b : Bool) → a && b ≡ true → (a ≡ true) × (b ≡ true)
both true b e = (refl, e)
both false b e = absurd (true≢false (sym e))

-- tag and length, where they are those of a send or of a receive
record Headed (tag : ℕ) (w : List ℕ) : Type 0 where
  first : get_or w 0 0 ≡ tag
  second : get_or w 1 0 ≡ 0
  third : get_or w 2 0 ≡ 2

headed_by : (tag : ℕ) (w : List ℕ) → head_is tag w ≡ true → Headed tag w
unfolding head_is
headed_by tag w e =
    let one = both (eqb (get_or w 0 0) tag) _ e in
    let two = both (eqb (get_or w 1 0) 0) _ one.1 in
    record { first = eqb-true _ _ one.0; second = eqb-true _ _ two.0; third = eqb-true _ _ two.1 }

module _ (w : List ℕ) (long : hasty_extent ≤ length w) where
  behind : (i : ℕ) → i < 2 → get_or (take 2 (drop 3 w)) i 0 ≡ get_or w (3 + i) 0
  behind i l = get_or-take 2 (drop 3 w) i 0 l ∙ get_or-drop 3 w i 0

  enough : ltb (length (drop 3 w)) 2 ≡ false
  enough = le-ltb (length (drop 3 w)) 2 (let l = length-drop 3 w in omega arith)

  sends : Headed 16 w → parse Later w ≡ Ok (Some (Happens (Send (get_or w 3 0) (get_or w 4 0))))
  unfolding parse headed judged plain tag_of misplaced size_of made
  sends h =
      rw (le-ltb (length w) 3 (omega arith), h.first, h.second, h.third, enough, behind 0 (omega arith), behind 1 (omega arith))

  receives : Headed 17 w → parse Later w ≡ Ok (Some (Happens (Receive (get_or w 3 0) (get_or w 4 0))))
  unfolding parse headed judged plain tag_of misplaced size_of made
  receives h =
      rw (le-ltb (length w) 3 (omega arith), h.first, h.second, h.third, enough, behind 0 (omega arith), behind 1 (omega arith))

-- ---- so where it is accepted, the turn goes over its bytes and tells nothing
record Hasty (m : Mem) (w : List ℕ) (r : Option Event) : Type 0 where
  turns : turn Later (control_of m) w ≡ Goes hasty_extent Later None
  words : turned Later m w ≡ left m r

module _ (m : Mem) (w : List ℕ) where
  sent : (p q : ℕ) → parse Later w ≡ Ok (Some (Happens (Send p q))) → accepted (verdict (control_of m) (Send p q)) ≡ true → Hasty m w (Some (Send p q))
  unfolding turn turned turn_on words_on on_answer answer judged_answer verdict_of tells extent event_extent passes left
  sent p q e a = record { turns = rw (e, is_accepted _ a); words = rw e }

  received : (p q : ℕ) → parse Later w ≡ Ok (Some (Happens (Receive p q))) → accepted (verdict (control_of m) (Receive p q)) ≡ true
      → Hasty m w (Some (Receive p q))
  unfolding turn turned turn_on words_on on_answer answer judged_answer verdict_of tells extent event_extent passes left
  received p q e a = record { turns = rw (e, is_accepted _ a); words = rw e }

  in_haste : goes (control_of m) (hasty w) ≡ true → Hasty m w (hasty w)
  unfolding hasty goes
  in_haste = go (ltb (length w) hasty_extent) refl (head_is 16 w) refl (head_is 17 w) refl
    where
      p : ℕ
      p = get_or w 3 0

      q : ℕ
      q = get_or w 4 0

      go : (a : Bool) → ltb (length w) hasty_extent ≡ a → (b : Bool) → head_is 16 w ≡ b → (d : Bool) → head_is 17 w ≡ d
          → goes (control_of m) (cond a None (cond b (Some (Send p q)) (cond d (Some (Receive p q)) None))) ≡ true
          → Hasty m w (cond a None (cond b (Some (Send p q)) (cond d (Some (Receive p q)) None)))
      go true ea b eb d ed h = absurd (true≢false (sym h))
      go false ea true eb d ed h = sent p q (sends w (ltb-false _ _ ea) (headed_by 16 w eb)) h
      go false ea false eb true ed h = received p q (receives w (ltb-false _ _ ea) (headed_by 17 w ed)) h
      go false ea false eb false ed h = absurd (true≢false (sym h))

  -- and where not, nothing has changed
  unmoved : (r : Option Event) → goes (control_of m) r ≡ false → left m r ≡ m
  unfolding goes left
  unmoved (Some e) h = refused_unchanged m e h
  unmoved None h = refl

  -- it stands within the bytes
  whole : goes (control_of m) (hasty w) ≡ true → hasty_extent ≤ length w
  unfolding hasty goes
  whole = go (ltb (length w) hasty_extent) refl
    where
      go : (a : Bool) → ltb (length w) hasty_extent ≡ a
          → goes (control_of m)
          (cond a None (cond (head_is 16 w) (Some (Send (get_or w 3 0) (get_or w 4 0))) (cond (head_is 17 w) (Some (Receive (get_or w 3 0) (get_or w 4 0))) None)))
          ≡ true
          → hasty_extent ≤ length w
      go true e h = absurd (true≢false (sym h))
      go false e h = ltb-false _ _ e

-- ---- record by record
haste_drop : (k : ℕ) (m : Mem) (w : List ℕ) → haste_behind k m w ≡ haste_behind 0 m (drop k w)
unfolding haste_behind
haste_drop zero m w = refl
haste_drop (suc k) m [] = refl
haste_drop (suc k) m (b ∷ bs) = haste_drop k m bs

haste_is : (m : Mem) (w : List ℕ)
    → haste_behind 0 m w
    ≡ cond (goes (control_of m) (hasty w)) (further (haste_behind 0 (left m (hasty w)) (drop hasty_extent w))) (stays (left m (hasty w)))
unfolding haste_behind hasty goes left
haste_is m [] = refl
haste_is m (b ∷ bs) = rw (haste_drop 4 (left m (hasty (b ∷ bs))) bs)

goes_haste : (m : Mem) (w : List ℕ) → goes (control_of m) (hasty w) ≡ true
    → haste_behind 0 m w ≡ further (haste_behind 0 (left m (hasty w)) (drop hasty_extent w))
goes_haste m w e = haste_is m w ∙ rw e

stays_haste : (m : Mem) (w : List ℕ) → goes (control_of m) (hasty w) ≡ false → haste_behind 0 m w ≡ stays (left m (hasty w))
stays_haste m w e = haste_is m w ∙ rw e

-- ---- what such turns keep is kept
module _ (P : ℕ → Mem → List ℕ → Type 0)
    (kept : (u : ℕ) (m : Mem) (w : List ℕ) → turn Later (control_of m) w ≡ Goes hasty_extent Later None → hasty_extent ≤ length w → P u m w
    → P (u + hasty_extent) (turned Later m w) (drop hasty_extent w)) where
  Kept : ℕ → List ℕ → Haste → Type 0
  Kept u w x = P (u + x.used) x.words (drop x.used w)

  kept_stays : (u : ℕ) (m : Mem) (w : List ℕ) → P u m w → Kept u w (stays m)
  unfolding Kept stays
  kept_stays u m w h = let e : u + 0 ≡ u = omega arith in rw e h

  kept_further : (u : ℕ) (w : List ℕ) (x : Haste) → Kept (u + hasty_extent) (drop hasty_extent w) x → Kept u w (further x)
  unfolding Kept further
  kept_further u w x h =
      let e : u + (hasty_extent + x.used) ≡ u + hasty_extent + x.used = omega arith in
      rw (e, ← drop-drop x.used hasty_extent w) h

  behind_kept : (bs : List ℕ) (k u : ℕ) (m : Mem) → P u m (drop k bs) → Kept u (drop k bs) (haste_behind k m bs)
  unfolding haste_behind
  behind_kept [] k u m h = kept_stays u m (drop k []) h
  behind_kept (b ∷ bs) (suc k) u m h = behind_kept bs k u m h
  behind_kept (b ∷ bs) zero u m h =
      go (goes (control_of m) (hasty (b ∷ bs))) refl
      (λ e. behind_kept bs 4 (u + hasty_extent) (left m (hasty (b ∷ bs)))
      (let s = in_haste m (b ∷ bs) e in rw s.words at (kept u m (b ∷ bs) s.turns (whole m (b ∷ bs) e) h)))
    where
      go : (a : Bool) → goes (control_of m) (hasty (b ∷ bs)) ≡ a
          → (goes (control_of m) (hasty (b ∷ bs)) ≡ true → Kept (u + hasty_extent) (drop 4 bs) (haste_behind 4 (left m (hasty (b ∷ bs))) bs))
          → Kept u (b ∷ bs) (cond a (further (haste_behind 4 (left m (hasty (b ∷ bs))) bs)) (stays (left m (hasty (b ∷ bs)))))
      go true e f = kept_further u (b ∷ bs) (haste_behind 4 (left m (hasty (b ∷ bs))) bs) (f e)
      go false e f = rw (unmoved m (b ∷ bs) (hasty (b ∷ bs)) e) (kept_stays u m (b ∷ bs) h)

  pub haste_kept : (u : ℕ) (m : Mem) (w : List ℕ) → P u m w → P (u + (haste Later m w).used) (haste Later m w).words (drop (haste Later m w).used w)
  unfolding haste Kept
  haste_kept u m w h = behind_kept w 0 u m h

-- ---- they lie within the bytes, and leave ahead what was ahead
pub haste_within : (pl : Place) (m : Mem) (w : List ℕ) → (haste pl m w).used ≤ length w
unfolding haste stays
haste_within First m w = omega arith
haste_within Later m w =
    let all = haste_kept (λ u x v. u + length v ≡ length w) (λ u x v e l h. (let d = length-drop hasty_extent v in omega arith)) 0 m w (omega arith) in
    omega (arith, all)
haste_within Behind m w = omega arith

pub haste_ahead : (pl : Place) (m : Mem) (w : List ℕ) → ahead pl m w ≡ ahead pl (haste pl m w).words (drop (haste pl m w).used w)
unfolding haste stays
haste_ahead First m w = refl
haste_ahead Later m w =
    haste_kept (λ u x v. ahead Later m w ≡ ahead Later x v) (λ u x v e l h. h ∙ goes_ahead Later x v e) 0 m w refl
haste_ahead Behind m w = refl

-- ---- tag and length as one number, as the code has them
head_is_lem : (w : List ℕ) (tag r : ℕ) → get_or w 0 0 < 256 → get_or w 1 0 < 256 → get_or w 2 0 < 256
    → r ≡ get_or w 0 0 * 65536 + get_or w 1 0 * 256 + get_or w 2 0 → head_is tag w ≡ eqb r (tag * 65536 + 2)
unfolding head_is
head_is_lem w tag r a b c e = go (eqb (get_or w 0 0) tag) refl (eqb (get_or w 1 0) 0) refl (eqb (get_or w 2 0) 2) refl
  where
    go : (x : Bool) → eqb (get_or w 0 0) tag ≡ x → (y : Bool) → eqb (get_or w 1 0) 0 ≡ y → (z : Bool) → eqb (get_or w 2 0) 2 ≡ z
        → x && (y && z) ≡ eqb r (tag * 65536 + 2)
    go true p true q true s =
        let one = eqb-true (get_or w 0 0) tag p in
        let two = eqb-true (get_or w 1 0) 0 q in
        let three = eqb-true (get_or w 2 0) 2 s in
        sym (eq-eqb r (tag * 65536 + 2) (omega arith))
    go false p y q z s = sym (ne_eqb r (tag * 65536 + 2) (λ (f : r ≡ tag * 65536 + 2). eqb-false (get_or w 0 0) tag p (omega arith)))
    go true p false q z s = sym (ne_eqb r (tag * 65536 + 2) (λ (f : r ≡ tag * 65536 + 2). eqb-false (get_or w 1 0) 0 q (omega arith)))
    go true p true q false s = sym (ne_eqb r (tag * 65536 + 2) (λ (f : r ≡ tag * 65536 + 2). eqb-false (get_or w 2 0) 2 s (omega arith)))

-- ---- as the code finds it: by the first bytes
module _ (m : Mem) (w : List ℕ) where
  abbrev Found : Bool → Mem → Type 0
  Found b n = (b ≡ goes (control_of m) (hasty w)) × (n ≡ left m (hasty w))

-- ---- the loop over them: all that is taken is what was taken so far and what is taken of the bytes v that are left
pub record Hastened (m₀ : Mem) (w : List ℕ) (m : Mem) (v : List ℕ) : Type 0 where
  pub within : length v ≤ length w
  pub used : (haste_behind 0 m₀ w).used + length v ≡ length w + (haste_behind 0 m v).used
  pub words : (haste_behind 0 m₀ w).words ≡ (haste_behind 0 m v).words

module _ {m₀ : Mem} {w : List ℕ} {m n : Mem} {v : List ℕ} {b : Bool} (h : Hastened m₀ w m v) (f : Found m v b n) where
  pub hastens_far : b ≡ true → hasty_extent ≤ length v
  hastens_far e = whole m v (sym f.0 ∙ e)

  pub hastens_on : b ≡ true → Hastened m₀ w n (drop hasty_extent v)
  unfolding further
  hastens_on e =
      let on = goes_haste m v (sym f.0 ∙ e) in
      let more : (haste_behind 0 m v).used ≡ hasty_extent + (haste_behind 0 n (drop hasty_extent v)).used
      = rw f.1 (ap (λ (x : Haste). x.used) on) in
      record {
        within = omega (arith, h.within, length-drop hasty_extent v);
        used = omega (arith, h.used, more, hastens_far e, length-drop hasty_extent v);
        words = h.words ∙ rw f.1 (ap (λ (x : Haste). x.words) on);
      }

  pub hastens_no_more : b ≡ false → (length w - length v ≡ (haste_behind 0 m₀ w).used) × (n ≡ (haste_behind 0 m₀ w).words)
  unfolding stays
  hastens_no_more e =
      let off = stays_haste m v (sym f.0 ∙ e) in
      let none : (haste_behind 0 m v).used ≡ 0 = ap (λ (x : Haste). x.used) off in
      (omega (arith, h.used, h.within, none), f.1 ∙ sym (h.words ∙ ap (λ (x : Haste). x.words) off))

pub not_yet : (m : Mem) (w : List ℕ) → Hastened m w m w
not_yet m w = record { within = omega arith; used = omega arith; words = refl }
