-- Two nights with the same events and as many opening values: what is equal. Assumes nothing.
use Prim.Native.Nat.{ℕ}
use mathlib.Core.Path.{◌≡◌, refl, ap, ◌∙◌, subst}
use mathlib.Core.Bool.{Bool, true, false, cond}
use mathlib.Core.List.{List, [], ◌∷◌, ◌++◌}
use lib.ListN.{length}
use Rattle.rounds.specs.declared.Event.{Event}
use Rattle.rounds.specs.Config.{Control, Config, open_control, opening, no_run}
use Rattle.rounds.specs.Verdicts.{accepted, open_verdict, verdict}
use Rattle.rounds.specs.Events.{if_accepted, apply_control}
use Rattle.rounds.specs.Runs.{after, replay, heeded, value_at, night_verdict, night, night_reports}
use Rattle.rounds.specs.Claims.{Agree}
use Rattle.rounds.proofs.InTurn.{replay_heeded}
use Rattle.rounds.proofs.Independence.{same_control, same_replay, same_reports, same_holding}

-- ---- a replay of more events heeds these, and perhaps some more
record Heeds (c : Control) (es later : List Event) : Type 0 where
  more : List Event
  whole : heeded c (es ++ later) ≡ heeded c es ++ more

heeds : (c : Control) (es later : List Event) → Heeds c es later
unfolding heeded if_accepted
heeds c [] later = record { more = heeded c later; whole = refl }
heeds c (e ∷ es) later = go (accepted (verdict c e)) refl (heeds (apply_control c e) es later)
  where
    go : (b : Bool) → accepted (verdict c e) ≡ b → Heeds (apply_control c e) es later → Heeds c (e ∷ es) later
    go true a h = record { more = h.more; whole = rw a (ap (λ (l : List Event). e ∷ l) h.whole) }
    go false a h = record { more = []; whole = rw a }

-- ---- nights
module _ (n : ℕ) (xs ys : List ℕ) (es : List Event) (same : length xs ≡ length ys) where
  pub same_verdict : night_verdict n xs es ≡ night_verdict n ys es
  unfolding night_verdict
  same_verdict = rw (same, same_replay n (value_at xs) (value_at ys) es)

  -- either night has a run, or neither
  night_control : (b : Bool) → (cond b (replay (opening n (value_at xs)) es) no_run).control ≡ (cond b (replay (opening n (value_at ys)) es) no_run).control
  unfolding opening
  night_control true =
      rw (replay_heeded (opening n (value_at xs)) es, replay_heeded (opening n (value_at ys)) es)
      (same_control n (value_at xs) (value_at ys) (heeded (open_control n) es))
  night_control false = refl

  pub same_night : (night n xs es).control ≡ (night n ys es).control
  unfolding night if_accepted
  same_night = rw same (night_control (accepted (open_verdict n (length ys))))

  pub same_told : night_reports n xs es ≡ night_reports n ys es
  unfolding night_reports
  same_told = rw (same, same_reports n (value_at xs) (value_at ys) (heeded (open_control n) es))

  -- where the values agree on the reach of p after these and any later events, p holds the same after these
  pub same_held : (later : List Event) (p : ℕ) → Agree (value_at xs) (value_at ys) ((night n xs (es ++ later)).control.site p).reach
      → (night n xs es).content.holding p ≡ (night n ys es).content.holding p
  unfolding night if_accepted opening
  same_held later p = rw same (go (accepted (open_verdict n (length ys))))
    where
      v : ℕ → ℕ
      v = value_at xs

      w : ℕ → ℕ
      w = value_at ys

      heed : Heeds (open_control n) es later
      heed = heeds (open_control n) es later

      go : (b : Bool) → Agree v w ((cond b (replay (opening n v) (es ++ later)) no_run).control.site p).reach
          → (cond b (replay (opening n v) es) no_run).content.holding p ≡ (cond b (replay (opening n w) es) no_run).content.holding p
      go true a =
          rw (replay_heeded (opening n v) es, replay_heeded (opening n w) es)
          (same_holding n v w (heeded (open_control n) es) heed.more p
          (subst (λ (c : Config). Agree v w (c.control.site p).reach) (replay_heeded (opening n v) (es ++ later) ∙ ap (after (opening n v)) heed.whole) a))
      go false a = refl
