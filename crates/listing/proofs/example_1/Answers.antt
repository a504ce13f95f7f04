-- `example_1` finds what document 01's sheet has: the six events are its trace, and what the replay promises of them computes.
-- Assumes nothing.
use lib.Dec.{lit<}
use Rattle.rounds.specs.Verdicts.{number_of, open_verdict}
use Rattle.rounds.specs.Runs.{night_verdict, night}
use Rattle.rounds.specs.Examples.{run}
use Rattle.words.specs.Shows.{standing}
use Rattle.listed.specs.Listed.{event, event_of, events_of}
use Rattle.listing.proofs.example_1.Goals as goal

pub returns : goal.returns
unfolding run standing number_of open_verdict night_verdict night event event_of events_of
returns c =
    let promise =
    rw (c.send.ensures, c.send-2.ensures, c.receive.ensures, c.send-3.ensures, c.receive-2.ensures, c.step.ensures) at c.replay_list.ensures in
    rw (
      c.number-number.ensures,
      promise.0,
      c.events.ensures.meaning _ promise.2,
      c.site.ensures.meaning _ promise.2 (lit< tt),
      c.site-2.ensures.meaning _ promise.2 (lit< tt),
    )
