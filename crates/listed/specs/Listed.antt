-- What an event of a lent list is to the round machine: its kind and its numbers, the second ignored where only one is needed. And what the replay of a
-- list promises. Assumes nothing.
use Rattle.std.specs.Prelude.{ℕ, ◌≡◌, List, [], ◌∷◌}
use Rattle.rounds.specs.declared.Event.{Event}
use Rattle.rounds.specs.declared.Event.TheVariants.{Send, Receive, Step, Broadcast}
use Rattle.rounds.specs.Verdicts.{Verdict}
use Rattle.rounds.specs.Runs.{night_verdict, night}
use Rattle.words.specs.Layout.{Mem}
use Rattle.words.specs.Calls.{night_words}
use Rattle.words.specs.Shows.{Shows}
use Rattle.listed.specs.declared.Kind.{Kind}
use Rattle.listed.specs.declared.Kind.TheVariants as kind
use Rattle.listed.specs.declared.Event as listed

unfoldable pub event : Kind → ℕ → ℕ → Event
event kind.Send p q = Send p q
event kind.Receive p q = Receive p q
event kind.Step p q = Step p
event kind.Broadcast p q = Broadcast p

unfoldable pub event_of : listed.Event → Event
event_of e = event e.kind e.first e.second

unfoldable pub events_of : List listed.Event → List Event
events_of [] = []
events_of (e ∷ es) = event_of e ∷ events_of es

-- ---- what the replay of a list es beside n and the values xs promises: its verdict, every word at exit, and what these show. A contract cites this name
-- and nothing else; that two results which it allows are equal is the lemma in proofs/SameRun
abbrev pub Passed : ℕ → List ℕ → List listed.Event → Verdict → Mem → Type 0
Passed n xs es r m' =
    (r ≡ night_verdict n xs (events_of es)) × (m' ≡ night_words n xs (events_of es)) × Shows m' (night n xs (events_of es))
