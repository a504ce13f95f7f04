-- The memory of a run: one list of words, lent by the caller. Where each word stands, by what it is.
-- The head, then a line of words for each process, then what is in transit for each receiver and round, then the mail: a letter for each
-- receiver, round and sender. Rounds go by the window: two that are a whole window apart share their places. Assumes nothing.
use Rattle.std.specs.Prelude.{ℕ, ◌+◌, ◌*◌, ◌%◌, List, [], ◌∷◌, get_or, set}
use Rattle.rounds.specs.Limits.{most_processes, window}

abbrev pub Mem : Type 0
Mem = List ℕ

-- ---- how long the parts are, and where they begin
abbrev pub heads : ℕ
heads = 16

abbrev pub line : ℕ
line = 16

abbrev pub letter : ℕ
letter = 4

abbrev pub transit_at : ℕ
transit_at = heads + most_processes * line

abbrev pub mail_at : ℕ
mail_at = transit_at + most_processes * window

abbrev pub RUN : ℕ
RUN = mail_at + most_processes * window * most_processes * letter

-- ---- the words of the head
abbrev pub SIZE : ℕ
SIZE = 0

abbrev pub EVENTS : ℕ
EVENTS = 1

-- ---- the words of a line: what the process holds, its site, and its counts up to the event that it was last settled at
abbrev pub VALUE : ℕ
VALUE = 0

abbrev pub VOTED : ℕ
VOTED = 1

abbrev pub VOTE : ℕ
VOTE = 2

abbrev pub DECIDED : ℕ
DECIDED = 3

abbrev pub DECISION : ℕ
DECISION = 4

abbrev pub ROUND : ℕ
ROUND = 5

abbrev pub SENT : ℕ
SENT = 6

abbrev pub HEARD : ℕ
HEARD = 7

abbrev pub REACH : ℕ
REACH = 8

abbrev pub SINCE : ℕ
SINCE = 9

-- the first of the four
abbrev pub COUNTS : ℕ
COUNTS = 10

-- ---- the words of a letter: VALUE, VOTED and VOTE as in a line, and the reach that it carries
abbrev pub CARRIED : ℕ
CARRIED = 3

-- ---- places
pub data Place : Type 0 where
  Head : ℕ → Place
  -- of a process
  Line : ℕ → ℕ → Place
  -- receiver, round: the set of senders
  Transit : ℕ → ℕ → Place
  -- receiver, round, sender
  Mail : ℕ → ℕ → ℕ → ℕ → Place

abbrev pub at : Place → ℕ
at (Head k) = k
at (Line p k) = heads + p % most_processes * line + k
at (Transit p r) = transit_at + (p % most_processes * window + r % window)
at (Mail p r q k) = mail_at + ((p % most_processes * window + r % window) * most_processes + q % most_processes) * letter + k

unfoldable pub get : Mem → Place → ℕ
get m a = get_or m (at a) 0

unfoldable pub put : Mem → Place → ℕ → Mem
put m a x = set m (at a) x

-- ---- a list of writes, one after the other
infix 68 ◌:=◌
pub record Write : Type 0 where
  pub place : Place
  pub word : ℕ

abbrev pub ◌:=◌ : Place → ℕ → Write
a := x = record { place = a; word = x }

abbrev pub writes : Mem → List Write → Mem
writes m [] = m
writes m (w ∷ ws) = writes (put m w.place w.word) ws
