-- The end of a course is what its beginning is after some list of events: so the end of a course from an opening is a run, and nothing else.
-- Assumes nothing.
use mathlib.Core.Path.{◌≡◌, refl}
use mathlib.Core.List.{List, [], ◌∷◌, ◌++◌}
use Rattle.rounds.specs.declared.Event.{Event}
use Rattle.rounds.specs.declared.Event.TheVariants.{Send, Receive, Step}
use Rattle.rounds.specs.Config.{Control, Content, Config}
use Rattle.rounds.specs.Events.{next_control, next_content}
use Rattle.rounds.specs.Runs.{after, Report}
use Rattle.rounds.specs.Allowed.{Allowed}
use Rattle.rounds.specs.Course.{Course}
use Rattle.rounds.specs.Course.Course.{stays, sends, receives, steps}
use Rattle.rounds.proofs.InTurn.{after_more}

-- the one configuration after some events is the other
pub record Recorded (c₀ : Config) (c : Config) : Type 0 where
  pub events : List Event
  pub ends : after c₀ events ≡ c

-- one more accepted event
more : (c₀ c : Config) (e : Event) → Recorded c₀ c → Allowed c.control e
    → Recorded c₀ (record { control = next_control c.control e; content = next_content c.control c.content e })
more c₀ c e r h = record { events = r.events ++ (e ∷ []); ends = after_more c₀ c r.events e r.ends h }

pub recorded : (c₀ : Control) (d₀ : Content) {c : Control} {d : Content} {rs : List Report} → Course c₀ d₀ c d rs
    → Recorded (record { control = c₀; content = d₀ }) (record { control = c; content = d })
unfolding after next_control next_content
recorded c₀ d₀ stays = record { events = []; ends = refl }
recorded c₀ d₀ (sends {c = c} {d = d} l p q h) = more _ (record { control = c; content = d }) (Send p q) (recorded c₀ d₀ l) h
recorded c₀ d₀ (receives {c = c} {d = d} l p q h) = more _ (record { control = c; content = d }) (Receive p q) (recorded c₀ d₀ l) h
recorded c₀ d₀ (steps {c = c} {d = d} l p h) = more _ (record { control = c; content = d }) (Step p) (recorded c₀ d₀ l) h
