-- Runs over a list of events, what they report, the replay that stops at the first refusal, and a night: a replay with its opening.
-- Assumes nothing.
use Rattle.std.specs.Prelude.{ℕ, zero, suc, List, [], ◌∷◌, ◌++◌, get_or, length}
use Rattle.rounds.specs.declared.Event.{Event}
use Rattle.rounds.specs.declared.Event.TheVariants.{Send, Receive, Step, Broadcast}
use Rattle.rounds.specs.Verdicts.{Verdict}
use Rattle.rounds.specs.Verdicts.{Accepted}
use Rattle.rounds.specs.Config.{Control, Config, open_control, opening, no_run}
use Rattle.rounds.specs.Verdicts.{open_verdict, verdict}
use Rattle.rounds.specs.Events.{if_accepted, apply_control, apply}

-- ---- all events, the refused ones without effect
unfoldable pub after : Config → List Event → Config
after c [] = c
after c (e ∷ es) = after (apply c e) es

unfoldable pub verdicts : Config → List Event → List Verdict
verdicts c [] = []
verdicts c (e ∷ es) = verdict c.control e ∷ verdicts (apply c e) es

-- ---- the heard-of sets, one at each accepted step
pub record Report : Type 0 where
  pub process : ℕ
  pub round : ℕ
  pub heard : ℕ

unfoldable pub report_of : Control → ℕ → Report
report_of c p = record { process = p; round = (c.site p).round; heard = (c.site p).heard }

-- what an accepted event reports
unfoldable pub told : Control → Event → List Report
told c (Send p q) = []
told c (Receive p q) = []
told c (Step p) = report_of c p ∷ []
told c (Broadcast p) = []

unfoldable pub reports : Config → List Event → List Report
reports c [] = []
reports c (e ∷ es) = if_accepted (verdict c.control e) (told c.control e) [] ++ reports (apply c e) es

-- ---- the replay: it stops at the first refused event, with its verdict
unfoldable pub replay : Config → List Event → Config
replay c [] = c
replay c (e ∷ es) = let r = replay (apply c e) es in if_accepted (verdict c.control e) r c

unfoldable pub replay_verdict : Config → List Event → Verdict
replay_verdict c [] = Accepted
replay_verdict c (e ∷ es) = let r = replay_verdict (apply c e) es in if_accepted (verdict c.control e) r (verdict c.control e)

-- the events that the replay comes to before a refused one
unfoldable pub heeded : Control → List Event → List Event
heeded c [] = []
heeded c (e ∷ es) = let r = e ∷ heeded (apply_control c e) es in if_accepted (verdict c e) r []

-- ---- a night: n processes open with these values, and then these events happen, up to the first that is refused. A refused opening gives no run
unfoldable pub value_at : List ℕ → ℕ → ℕ
value_at xs p = get_or xs p 0

unfoldable pub night_verdict : ℕ → List ℕ → List Event → Verdict
night_verdict n xs es = if_accepted (open_verdict n (length xs)) (replay_verdict (opening n (value_at xs)) es) (open_verdict n (length xs))

unfoldable pub night : ℕ → List ℕ → List Event → Config
night n xs es = if_accepted (open_verdict n (length xs)) (replay (opening n (value_at xs)) es) no_run

unfoldable pub night_reports : ℕ → List ℕ → List Event → List Report
night_reports n xs es = if_accepted (open_verdict n (length xs)) (reports (opening n (value_at xs)) (heeded (open_control n) es)) []

-- ---- what a broadcast of p stands for: its sends to the processes below k, in ascending order
unfoldable pub sends : ℕ → ℕ → List Event
sends zero p = []
sends (suc k) p = sends k p ++ (Send p k ∷ [])

-- ---- the deeds of a run: its accepted sends, receives and steps, one after the other, with a broadcast as its sends
unfoldable pub deeds_of : Control → Event → List Event
deeds_of c (Send p q) = Send p q ∷ []
deeds_of c (Receive p q) = Receive p q ∷ []
deeds_of c (Step p) = Step p ∷ []
deeds_of c (Broadcast p) = sends c.size p

unfoldable pub deeds : Control → List Event → List Event
deeds c [] = []
deeds c (e ∷ es) = if_accepted (verdict c e) (deeds_of c e) [] ++ deeds (apply_control c e) es
