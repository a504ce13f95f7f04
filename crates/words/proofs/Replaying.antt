-- A list of events over a memory, up to the first that is refused: it goes on or stops at each, as a loop finds it; and where the memory shows a
-- configuration, it comes to what the abstract machine's replay comes to. Assumes nothing.
use Prim.Native.Nat.{ℕ}
use mathlib.Core.Path.{◌≡◌, refl}
use mathlib.Core.Bool.{Bool, true, false, cond}
use mathlib.Core.List.{List, [], ◌∷◌}
use lib.ListN.{length}
use Rattle.rounds.specs.declared.Event.{Event}
use Rattle.rounds.specs.Config.{Config, opening, no_run}
use Rattle.rounds.specs.Verdicts.{accepted, open_verdict, verdict}
use Rattle.rounds.specs.Events.{if_accepted, apply}
use Rattle.rounds.specs.Runs.{replay, replay_verdict, value_at, night_verdict, night}
use Rattle.rounds.proofs.Answers.{opens_right}
use Rattle.words.specs.Layout.{Mem}
use Rattle.words.specs.Spelled.{control_of}
use Rattle.words.specs.Calls.{blank, opened, begins, applied, replayed, replayed_verdict, night_words}
use Rattle.words.specs.Shows.{Shows, Given}
use Rattle.words.proofs.Answering.{verdict_shown}
use Rattle.words.proofs.Meaning.{shows_next, opening_shows, blank_shows}

-- ---- at each event
module _ (m : Mem) (e : Event) (es : List Event) where
  pub goes_on : accepted (verdict (control_of m) e) ≡ true
      → (replayed_verdict m (e ∷ es) ≡ replayed_verdict (applied m e) es) × (replayed m (e ∷ es) ≡ replayed (applied m e) es)
  unfolding replayed replayed_verdict if_accepted
  goes_on a = (rw a, rw a)

  pub stops : accepted (verdict (control_of m) e) ≡ false
      → (replayed_verdict m (e ∷ es) ≡ verdict (control_of m) e) × (replayed m (e ∷ es) ≡ m)
  unfolding replayed replayed_verdict if_accepted
  stops a = (rw a, rw a)

-- ---- what it means
pub replayed_shows : (es : List Event) (m : Mem) (c : Config) → Shows m c → Shows (replayed m es) (replay c es)
unfolding replayed replay if_accepted
replayed_shows [] m c k = k
replayed_shows (e ∷ es) m c k =
    rw (verdict_shown m c.control c.content k.few k.shown e)
    (go (accepted (verdict c.control e)) (replayed_shows es (applied m e) (apply c e) (shows_next m c e k)))
  where
    go : (b : Bool) → Shows (replayed (applied m e) es) (replay (apply c e) es)
        → Shows (cond b (replayed (applied m e) es) m) (cond b (replay (apply c e) es) c)
    go true h = h
    go false h = k

pub replayed_judged : (es : List Event) (m : Mem) (c : Config) → Shows m c → replayed_verdict m es ≡ replay_verdict c es
unfolding replayed_verdict replay_verdict
replayed_judged [] m c k = refl
replayed_judged (e ∷ es) m c k =
    rw (verdict_shown m c.control c.content k.few k.shown e, replayed_judged es (applied m e) (apply c e) (shows_next m c e k))

-- ---- a night: its opening, and then its events
given : (n : ℕ) (xs : List ℕ) → Given n xs (value_at xs)
unfolding value_at
given n xs = record { each = λ p h. refl }

pub opens_shows : (n : ℕ) (xs : List ℕ) → accepted (open_verdict n (length xs)) ≡ true → Shows (opened n xs) (opening n (value_at xs))
opens_shows n xs a = opening_shows n xs (value_at xs) (opens_right n (length xs) a).most (given n xs)

pub night_shows : (n : ℕ) (xs : List ℕ) (es : List Event) → Shows (night_words n xs es) (night n xs es)
unfolding night_words night if_accepted
night_shows n xs es = go (accepted (open_verdict n (length xs))) refl
  where
    go : (b : Bool) → accepted (open_verdict n (length xs)) ≡ b
        → Shows (cond b (replayed (opened n xs) es) blank) (cond b (replay (opening n (value_at xs)) es) no_run)
    go true a = replayed_shows es (opened n xs) (opening n (value_at xs)) (opens_shows n xs a)
    go false a = blank_shows

-- as its calls find it: begin on a memory without a run, and then the events
module _ (n : ℕ) (xs : List ℕ) (es : List Event) where
  pub night_goes_on : accepted (open_verdict n (length xs)) ≡ true
      → (night_verdict n xs es ≡ replayed_verdict (begins blank n xs) es) × (night_words n xs es ≡ replayed (begins blank n xs) es)
  unfolding night_verdict night_words begins if_accepted
  night_goes_on a =
      let same = replayed_judged es (opened n xs) (opening n (value_at xs)) (opens_shows n xs a) in
      (rw (a, same), rw a)

  pub night_stops : accepted (open_verdict n (length xs)) ≡ false
      → (night_verdict n xs es ≡ open_verdict n (length xs)) × (night_words n xs es ≡ begins blank n xs)
  unfolding night_verdict night_words begins if_accepted
  night_stops a = (rw a, rw a)
