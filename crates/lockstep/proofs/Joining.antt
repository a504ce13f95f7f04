-- A memory that shows the run of the events so far, and then of the next ones, shows the run of both.
-- Assumes nothing.
use Prim.Native.Nat.{ℕ, ◌+◌}
use native.Mathlib.Numerals.{add-one}
use mathlib.Core.Path.{◌≡◌, refl, sym, subst}
use mathlib.Core.List.{List, [], ◌∷◌, ◌++◌}
use Rattle.rounds.specs.declared.Event.{Event}
use Rattle.rounds.specs.declared.Event.TheVariants.{Send, Receive, Step}
use Rattle.rounds.specs.Verdicts.{Accepted}
use Rattle.rounds.specs.Limits.{most_processes}
use Rattle.rounds.specs.Config.{Config}
use Rattle.rounds.specs.Verdicts.{refuse, open_verdict}
use Rattle.rounds.specs.Events.{apply}
use Rattle.rounds.specs.Runs.{after, sends}
use Rattle.rounds.proofs.InTurn.{after_append}
use Rattle.words.specs.Layout.{Mem}
use Rattle.words.specs.Shows.{Shows}
use Rattle.lockstep.specs.LockStep.{receives_below, one_turn, all_send, all_turn, one_round, many_rounds}

-- where m₀ shows a configuration, m shows the one after the events
abbrev pub Runs : Mem → Mem → List Event → Type 0
Runs m₀ m es = (c : Config) → Shows m₀ c → Shows m (after c es)

-- ---- events, and then more of them
joined : {m m' : Mem} (c : Config) (es fs : List Event) → Shows m (after c es) → Runs m m' fs → Shows m' (after c (es ++ fs))
joined {m} {m'} c es fs s g = subst (Shows m') (sym (after_append c es fs)) (g (after c es) s)

both : {m₀ m m' : Mem} (es fs : List Event) → Runs m₀ m es → Runs m m' fs → Runs m₀ m' (es ++ fs)
both es fs f g c s = joined c es fs (f c s) g

-- or one event more
one : {m m' : Mem} (e : Event) → ((c : Config) → Shows m c → Shows m' (apply c e)) → Runs m m' (e ∷ [])
unfolding after
one e g = g

-- ---- each loop of the program, at its next turn
pub sent_next : {m₀ m m' : Mem} (k p : ℕ) → Runs m₀ m (sends k p) → ((c : Config) → Shows m c → Shows m' (apply c (Send p k)))
    → Runs m₀ m' (sends (k + 1) p)
unfolding sends
sent_next k p f g = rw (add-one k) (both (sends k p) (Send p k ∷ []) f (one (Send p k) g))

pub received_next : {m₀ m m' : Mem} (k p : ℕ) → Runs m₀ m (receives_below k p) → ((c : Config) → Shows m c → Shows m' (apply c (Receive p k)))
    → Runs m₀ m' (receives_below (k + 1) p)
unfolding receives_below
received_next k p f g = rw (add-one k) (both (receives_below k p) (Receive p k ∷ []) f (one (Receive p k) g))

pub all_sent_next : {m₀ m m' : Mem} (k : ℕ) → Runs m₀ m (all_send k) → Runs m m' (sends most_processes k) → Runs m₀ m' (all_send (k + 1))
unfolding all_send
all_sent_next k f g = rw (add-one k) (both (all_send k) (sends most_processes k) f g)

pub all_turned_next : {m₀ m m' : Mem} (k : ℕ) → Runs m₀ m (all_turn k) → Runs m m' (one_turn k) → Runs m₀ m' (all_turn (k + 1))
unfolding all_turn
all_turned_next k f g = rw (add-one k) (both (all_turn k) (one_turn k) f g)

pub rounds_next : {m m' : Mem} (c : Config) (k : ℕ) → Shows m (after c (many_rounds k)) → Runs m m' one_round → Shows m' (after c (many_rounds (k + 1)))
unfolding many_rounds
rounds_next c k s g = rw (add-one k) (joined c (many_rounds k) one_round s g)

-- ---- a turn, and a round
pub turned : {m₀ m m' : Mem} (p : ℕ) → Runs m₀ m (receives_below most_processes p) → ((c : Config) → Shows m c → Shows m' (apply c (Step p)))
    → Runs m₀ m' (one_turn p)
unfolding one_turn
turned p f g = both (receives_below most_processes p) (Step p ∷ []) f (one (Step p) g)

pub round_done : {m₀ m m' : Mem} → Runs m₀ m (all_send most_processes) → Runs m m' (all_turn most_processes) → Runs m₀ m' one_round
unfolding one_round
round_done f g = both (all_send most_processes) (all_turn most_processes) f g

-- ---- as many values as there can be processes open a run
pub most_open : open_verdict most_processes most_processes ≡ Accepted
unfolding open_verdict refuse
most_open = refl
