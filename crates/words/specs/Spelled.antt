-- What the words of a memory spell, whatever it holds: the sites, holdings and messages that its words are read as.
-- A memory that no opening made is read in the same way, so that every call has a stated result on it. Assumes nothing.
use Rattle.std.specs.Prelude.{ℕ, ◌+◌, ◌-◌, ◌*◌, ◌%◌, ◌^◌, cond, eqb, ltb}
use Rattle.std.specs.Prelude.{Option, Some, None}
use Rattle.voting.specs.declared.Message.{Message}
use Rattle.voting.specs.declared.Holding.{Holding}
use Rattle.rounds.specs.declared.Stage.{Stage}
use Rattle.rounds.specs.Limits.{most_processes}
use Rattle.rounds.specs.Config.{Site, Control}
use Rattle.rounds.specs.Stages.{stage, index, one}
use Rattle.words.specs.Layout.{Mem, Head, Line, Transit, Mail, get, SIZE, EVENTS, VALUE, VOTED, VOTE, DECIDED, DECISION, ROUND, SENT, HEARD, REACH, SINCE, COUNTS, CARRIED}

-- what a word of 32 bits keeps of a number
unfoldable pub word : ℕ → ℕ
word x = x % 2 ^ 32

-- ---- a choice in two words: whether it is present, and what it is
unfoldable pub choice : ℕ → ℕ → Option ℕ
choice flag x = cond (eqb flag 0) None (Some x)

unfoldable pub flag_of : Option ℕ → ℕ
flag_of None = 0
flag_of (Some x) = 1

unfoldable pub word_of : Option ℕ → ℕ
word_of None = 0
word_of (Some x) = x

-- ---- the run: a memory that says more than the most processes is no run, and has none
unfoldable pub people : Mem → ℕ
people m = let n = get m (Head SIZE) in cond (ltb most_processes n) 0 n

-- ---- a process
unfoldable pub site_of : Mem → ℕ → Site
site_of m p =
    record {
      round = get m (Line p ROUND);
      sent = get m (Line p SENT);
      heard = get m (Line p HEARD);
      reach = get m (Line p REACH);
    }

unfoldable pub holding_of : Mem → ℕ → Holding
holding_of m p =
    record {
      value = get m (Line p VALUE);
      vote = choice (get m (Line p VOTED)) (get m (Line p VOTE));
      decision = choice (get m (Line p DECIDED)) (get m (Line p DECISION));
    }

-- ---- a message: receiver, round, sender
unfoldable pub message_of : Mem → ℕ → ℕ → ℕ → Message
message_of m p r q = record { value = get m (Mail p r q VALUE); vote = choice (get m (Mail p r q VOTED)) (get m (Mail p r q VOTE)) }

unfoldable pub carried_of : Mem → ℕ → ℕ → ℕ → ℕ
carried_of m p r q = get m (Mail p r q CARRIED)

-- ---- all that the round machine judges by; its counts are those last settled
unfoldable pub control_of : Mem → Control
control_of m =
    record {
      size = people m;
      events = get m (Head EVENTS);
      site = site_of m;
      transit = λ p r. get m (Transit p r);
      carried = carried_of m;
      count = λ p s. get m (Line p (COUNTS + index s));
    }

-- a count as settled now: the events since the process was last settled belong to the stage that it is at
unfoldable pub count_of : Mem → ℕ → Stage → ℕ
count_of m p s = get m (Line p (COUNTS + index s)) + one (stage (control_of m) p) s * (get m (Head EVENTS) - get m (Line p SINCE))
