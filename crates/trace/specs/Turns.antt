-- What comes of one record at the head of the bytes, on the abstract machine and on the words of a memory; and the words that a whole trace leaves.
-- Assumes nothing.
use Rattle.std.specs.Prelude.{ℕ, List, [], ◌∷◌, length, Option, Some, None, Result, Ok, Err}
use Rattle.rounds.specs.declared.Event.{Event}
use Rattle.rounds.specs.Config.{Control, Config, opening}
use Rattle.rounds.specs.Verdicts.{Verdict, open_verdict}
use Rattle.rounds.specs.Events.{if_accepted, apply}
use Rattle.rounds.specs.Runs.{Report, value_at}
use Rattle.words.specs.Layout.{Mem}
use Rattle.words.specs.Calls.{Answer, blank, begins, applied, answer, night_words}
use Rattle.words.specs.Shows.{verdict_of, actor}
use Rattle.records.specs.declared.Place.{Place}
use Rattle.records.specs.declared.Place.TheVariants.{First, Later, Behind}
use Rattle.records.specs.declared.Record.TheVariants.{Opening, Happens, End}
use Rattle.records.specs.Records.{Reading, parse, extent}
use Rattle.records.specs.Script.{Script, values_of, script}
use Rattle.trace.specs.declared.Stop.{Stop}
use Rattle.trace.specs.declared.Stop.TheVariants.{Refused, Faulty}
use Rattle.trace.specs.declared.Heard.{Heard}
use Rattle.trace.specs.declared.Gone.{Gone}

-- ---- what comes of the bytes: no record while they are cut short, what an accepted one has done, or what stops the replay
abbrev pub Turn : Type 0
Turn = Result (Option Gone) Stop

abbrev pub More : Turn
More = Ok None

abbrev pub Goes : ℕ → Place → Option Heard → Turn
Goes k next t = Ok (Some (record { used = k; place = next; told = t }))

abbrev pub Ends : Stop → Turn
Ends x = Err x

-- ---- what is told, as a heard-of set that is reported
unfoldable pub reports_of : Option Heard → List Report
reports_of None = []
reports_of (Some t) = record { process = t.process; round = t.round; heard = t.heard } ∷ []

unfoldable pub tells : Event → Answer → Option Heard
tells e (Ok None) = None
tells e (Ok (Some f)) = Some (record { process = actor e; round = f.round; heard = f.heard })
tells e (Err r) = None

-- ---- what comes of a record
-- where its verdict accepts it, it goes on to a later record
unfoldable pub passes : Verdict → ℕ → Option Heard → Turn
passes (Ok _) k t = Goes k Later t
passes (Err r) k t = Ends (Refused r)

unfoldable pub on_answer : Event → Answer → Turn
on_answer e a = passes (verdict_of a) (extent (Happens e)) (tells e a)

unfoldable pub on_opening : ℕ → List ℕ → Turn
on_opening n xs = passes (open_verdict n (length xs)) (extent (Opening n)) None

unfoldable pub turn_on : Control → List ℕ → Reading → Turn
turn_on c w (Ok (Some (Opening n))) = on_opening n (values_of n w)
turn_on c w (Ok (Some (Happens e))) = on_answer e (answer c e)
turn_on c w (Ok (Some End)) = Goes (extent End) Behind None
turn_on c w (Ok None) = More
turn_on c w (Err f) = Ends (Faulty f)

unfoldable pub turn : Place → Control → List ℕ → Turn
turn pl c w = turn_on c w (parse pl w)

-- ---- the configuration after it
unfoldable pub run_on : Config → List ℕ → Reading → Config
run_on c w (Ok (Some (Opening n))) = if_accepted (open_verdict n (length (values_of n w))) (opening n (value_at (values_of n w))) c
run_on c w (Ok (Some (Happens e))) = apply c e
run_on c w (Ok (Some End)) = c
run_on c w (Err f) = c
run_on c w (Ok None) = c

unfoldable pub next : Place → Config → List ℕ → Config
next pl c w = run_on c w (parse pl w)

-- ---- the words of a memory after it
unfoldable pub words_on : Mem → List ℕ → Reading → Mem
words_on m w (Ok (Some (Opening n))) = begins m n (values_of n w)
words_on m w (Ok (Some (Happens e))) = applied m e
words_on m w (Ok (Some End)) = m
words_on m w (Err f) = m
words_on m w (Ok None) = m

unfoldable pub turned : Place → Mem → List ℕ → Mem
turned pl m w = words_on m w (parse pl w)

-- ---- the words that a trace leaves, whatever the memory held: those of its night
unfoldable pub left_by : List ℕ → Script → Reading → Mem
left_by w s (Ok (Some (Opening n))) = night_words n (values_of n w) s.events
left_by w s (Ok (Some (Happens e))) = blank
left_by w s (Ok (Some End)) = blank
left_by w s (Err f) = blank
left_by w s (Ok None) = blank

unfoldable pub trace_words : List ℕ → Mem
trace_words w = left_by w (script First w) (parse First w)
