-- A memory after some writes: which words are kept, and which are written. Two places are told apart by what they are, not by their numbers;
-- that a place is none of those written is one call of `omega`. Assumes nothing.
use Prim.Native.Nat.{ℕ, zero, suc, ◌+◌, ◌*◌, ◌%◌, ◌<◌}
use native.Mathlib.Omega.{arith}
use mathlib.Core.Path.{◌≡◌, refl, ap, ◌∙◌}
use mathlib.Core.List.{List, [], ◌∷◌}
use lib.ListN.{get_or, length, drop, length-set}
use lib.Seq.{get_or-set_same, get_or-set_other}
use Rattle.rounds.specs.Limits.{most_processes, window}
use Rattle.words.specs.Layout.{Mem, RUN, heads, line, letter, transit_at, Place, Head, Line, Transit, Mail, at, get, put, Write, ◌:=◌, writes}

-- ---- places
-- a place of a run, with its process numbers below the most
abbrev pub In : Place → Type 0
In (Head k) = k < heads
In (Line p k) = (p < most_processes) × (k < line)
In (Transit p r) = p < most_processes
In (Mail p r q k) = (p < most_processes) × (q < most_processes) × (k < letter)

-- two places are not one
abbrev Apart : Place → Place → Type 0
Apart (Head k) (Head j) = k ≡ j → ⊥
Apart (Line p k) (Line q j) = p ≡ q → k ≡ j → ⊥
Apart (Transit p r) (Transit q s) = p ≡ q → r % window ≡ s % window → ⊥
Apart (Mail p r x k) (Mail q s y j) = p ≡ q → r % window ≡ s % window → x ≡ y → k ≡ j → ⊥
Apart (Head k) (Line q j) = Unit {0}
Apart (Head k) (Transit q s) = Unit {0}
Apart (Head k) (Mail q s y j) = Unit {0}
Apart (Line p k) (Head j) = Unit {0}
Apart (Line p k) (Transit q s) = Unit {0}
Apart (Line p k) (Mail q s y j) = Unit {0}
Apart (Transit p r) (Head j) = Unit {0}
Apart (Transit p r) (Line q j) = Unit {0}
Apart (Transit p r) (Mail q s y j) = Unit {0}
Apart (Mail p r x k) (Head j) = Unit {0}
Apart (Mail p r x k) (Line q j) = Unit {0}
Apart (Mail p r x k) (Transit q s) = Unit {0}

pub in_run : (a : Place) → In a → at a < RUN
in_run (Head k) h = omega arith
in_run (Line p k) h = omega arith
in_run (Transit p r) h = omega arith
in_run (Mail p r q k) h = omega arith

apart : (a b : Place) → In a → In b → Apart a b → at a ≡ at b → ⊥
apart (Head k) (Head j) u v h e = h e
apart (Line p k) (Line q j) u v h e = h (omega arith) (omega arith)
apart (Transit p r) (Transit q s) u v h e = h (omega arith) (omega arith)
apart (Mail p r x k) (Mail q s y j) u v h e = h (omega arith) (omega arith) (omega arith) (omega arith)
apart (Head k) (Line q j) u v h e = omega arith
apart (Head k) (Transit q s) u v h e = omega arith
apart (Head k) (Mail q s y j) u v h e = omega arith
apart (Line p k) (Head j) u v h e = omega arith
apart (Line p k) (Transit q s) u v h e = omega arith
apart (Line p k) (Mail q s y j) u v h e = omega arith
apart (Transit p r) (Head j) u v h e = omega arith
apart (Transit p r) (Line q j) u v h e = omega arith
apart (Transit p r) (Mail q s y j) u v h e = omega arith
apart (Mail p r x k) (Head j) u v h e = omega arith
apart (Mail p r x k) (Line q j) u v h e = omega arith
apart (Mail p r x k) (Transit q s) u v h e = omega arith

-- ---- one write
get_same : (m : Mem) (a : Place) (x : ℕ) → length m ≡ RUN → In a → get (put m a x) a ≡ x
unfolding get put
get_same m a x s h = get_or-set_same m (at a) x 0 (rw s (in_run a h))

get_other : (m : Mem) (a b : Place) (x : ℕ) → In a → In b → Apart b a → get (put m a x) b ≡ get m b
unfolding get put
get_other m a b x u v h = get_or-set_other m (at a) (at b) x 0 (apart b a v u h)

put_length : (m : Mem) (a : Place) (x : ℕ) → length (put m a x) ≡ length m
unfolding put
put_length m a x = length-set m (at a) x

-- rounds that are a whole window apart share their place
pub round_place : (m : Mem) (p r s : ℕ) → r % window ≡ s % window → get m (Transit p r) ≡ get m (Transit p s)
unfolding get
round_place m p r s e = ap (λ (x : ℕ). get_or m (transit_at + (p % most_processes * window + x)) 0) e

-- ---- writes, one after the other
-- they are at places of a run: `omega` proves it whole
abbrev pub Inside : List Write → Type 0
Inside [] = Unit {0}
Inside (w ∷ ws) = In w.place × Inside ws

-- the place is one of a run and none of theirs: `omega` proves it whole
abbrev Away : Place → List Write → Type 0
Away a [] = In a
Away a (w ∷ ws) = Apart a w.place × Away a ws

away_in : (a : Place) (ws : List Write) → Away a ws → In a
away_in a [] o = o
away_in a (w ∷ ws) o = away_in a ws o.1

pub kept : (m : Mem) (ws : List Write) → Inside ws → (a : Place) → Away a ws → get (writes m ws) a ≡ get m a
kept m [] i a o = refl
kept m (w ∷ ws) i a o =
    kept (put m w.place w.word) ws i.1 a o.1
    ∙ get_other m w.place a w.word i.0 (away_in a ws o.1) o.0

pub writes_length : (m : Mem) (ws : List Write) → length (writes m ws) ≡ length m
writes_length m [] = refl
writes_length m (w ∷ ws) = writes_length (put m w.place w.word) ws ∙ put_length m w.place w.word

-- the word of write number i, where no later write is at its place
abbrev nth : List Write → ℕ → Write
nth ws i = get_or ws i (Head 0 := 0)

pub wrote : (m : Mem) (ws : List Write) → Inside ws → (i : ℕ) → i < length ws → length m ≡ RUN → Away (nth ws i).place (drop (suc i) ws)
    → get (writes m ws) (nth ws i).place ≡ (nth ws i).word
wrote m [] f i l s o = absurd (omega arith)
wrote m (w ∷ ws) f zero l s o =
    kept (put m w.place w.word) ws f.1 w.place o ∙ get_same m w.place w.word s f.0
wrote m (w ∷ ws) f (suc i) l s o =
    wrote (put m w.place w.word) ws f.1 i (omega arith) (put_length m w.place w.word ∙ s) o

-- ---- writes for one process: none is at a place of another
abbrev pub Of : ℕ → Place → Type 0
Of p (Head k) = ⊥
Of p (Line q k) = q ≡ p
Of p (Transit q r) = q ≡ p
Of p (Mail q r y k) = q ≡ p

abbrev pub AllOf : ℕ → List Write → Type 0
AllOf p [] = Unit {0}
AllOf p (w ∷ ws) = Of p w.place × AllOf p ws

apart_of : (p x : ℕ) → (x ≡ p → ⊥) → (a b : Place) → Of x a → Of p b → Apart a b
apart_of p x n (Line a i) (Line b j) e f = λ h k. n (omega arith)
apart_of p x n (Transit a r) (Transit b s) e f = λ h k. n (omega arith)
apart_of p x n (Mail a r y i) (Mail b s z j) e f = λ h k l o. n (omega arith)
apart_of p x n (Head i) b e f = absurd e
apart_of p x n (Line a i) (Head j) e f = absurd f
apart_of p x n (Line a i) (Transit b s) e f = tt
apart_of p x n (Line a i) (Mail b s z j) e f = tt
apart_of p x n (Transit a r) (Head j) e f = absurd f
apart_of p x n (Transit a r) (Line b j) e f = tt
apart_of p x n (Transit a r) (Mail b s z j) e f = tt
apart_of p x n (Mail a r y i) (Head j) e f = absurd f
apart_of p x n (Mail a r y i) (Line b j) e f = tt
apart_of p x n (Mail a r y i) (Transit b s) e f = tt

away_of : (p x : ℕ) → (x ≡ p → ⊥) → (ws : List Write) → AllOf p ws → (a : Place) → Of x a → In a → Away a ws
away_of p x n [] o a u i = i
away_of p x n (w ∷ ws) o a u i = (apart_of p x n a w.place u o.0, away_of p x n ws o.1 a u i)

pub others_kept : (m : Mem) (ws : List Write) → Inside ws → (p : ℕ) → AllOf p ws → (x : ℕ) → (x ≡ p → ⊥) → (a : Place) → Of x a → In a
    → get (writes m ws) a ≡ get m a
others_kept m ws f p o x n a u i = kept m ws f a (away_of p x n ws o a u i)

away_head : (p k : ℕ) → k < heads → (ws : List Write) → AllOf p ws → Away (Head k) ws
away_head p k h [] o = h
away_head p k h (w ∷ ws) o = (go w.place o.0, away_head p k h ws o.1)
  where
    go : (a : Place) → Of p a → Apart (Head k) a
    go (Head j) u = absurd u
    go (Line q j) u = tt
    go (Transit q r) u = tt
    go (Mail q r y j) u = tt

pub head_kept : (m : Mem) (ws : List Write) → Inside ws → (p : ℕ) → AllOf p ws → (k : ℕ) → k < heads → get (writes m ws) (Head k) ≡ get m (Head k)
head_kept m ws f p o k h = kept m ws f (Head k) (away_head p k h ws o)

-- ---- a write to the head: no process's place is there
pub head_only : (m : Mem) (k v : ℕ) → k < heads → (x : ℕ) (a : Place) → Of x a → In a → get (writes m (Head k := v ∷ [])) a ≡ get m a
head_only m k v h x (Head j) u i = absurd u
head_only m k v h x (Line p j) u i = kept m (Head k := v ∷ []) (h, tt) (Line p j) (tt, i)
head_only m k v h x (Transit p r) u i = kept m (Head k := v ∷ []) (h, tt) (Transit p r) (tt, i)
head_only m k v h x (Mail p r q j) u i = kept m (Head k := v ∷ []) (h, tt) (Mail p r q j) (tt, i)
