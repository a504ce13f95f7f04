-- UniformVoting: Algorithm 1 of document 003, as document 01 completes it, on the list of the messages that a process heard.
-- Each line of the rule names the line of the algorithm that it is. Assumes nothing.
use Rattle.std.specs.Prelude.{ℕ, ◌%◌, min, Bool, true, false, cond, ◌&&◌, List, [], ◌∷◌, eqb, Option, Some, None, unwrap_or}
use Rattle.std.specs.Option.{option_or}
use Rattle.voting.specs.declared.Message.{Message}
use Rattle.voting.specs.declared.Holding.{Holding}

-- what a process opens with: lines 2 to 4
unfoldable pub opens : ℕ → Holding
opens x = record { value = x; vote = None; decision = None }

-- what its messages carry, in odd and in even rounds alike: lines 8 and 15
unfoldable pub message : Holding → Message
message h = record { value = h.value; vote = h.vote }

-- ---- choices: a value, a vote or a decision, of which the last two may be absent
-- the lesser of what is present
unfoldable pub lesser : Option ℕ → Option ℕ → Option ℕ
lesser None d = d
lesser (Some x) None = Some x
lesser (Some x) (Some y) = Some (min x y)

unfoldable pub same : Option ℕ → Option ℕ → Bool
same None None = true
same None (Some y) = false
same (Some x) None = false
same (Some x) (Some y) = eqb x y

-- ---- lists of choices
-- the least that is present; absent where none is
unfoldable pub least : List (Option ℕ) → Option ℕ
least [] = None
least (c ∷ cs) = lesser c (least cs)

unfoldable pub all_same : Option ℕ → List (Option ℕ) → Bool
all_same c [] = true
all_same c (d ∷ ds) = same c d && all_same c ds

-- what all of them are, present and equal; absent where they differ, where one is absent, and where there are none
unfoldable pub agreed : List (Option ℕ) → Option ℕ
agreed [] = None
agreed (c ∷ cs) = cond (all_same c cs) c None

-- ---- what the messages heard say
unfoldable pub values : List Message → List (Option ℕ)
values [] = []
values (m ∷ ms) = Some m.value ∷ values ms

unfoldable pub votes : List Message → List (Option ℕ)
votes [] = []
votes (m ∷ ms) = m.vote ∷ votes ms

-- ---- the rule
-- line 10: the least value heard, or its own where nothing was
-- line 11: where all values heard are equal the vote is that value, else it is kept
-- line 12: the decision is kept
unfoldable pub odd_rule : Holding → List Message → Holding
odd_rule h ms =
    record {
      value = unwrap_or (least (values ms)) h.value;
      vote = option_or (agreed (values ms)) h.vote;
      decision = h.decision;
    }

-- line 17: the least vote heard; where no vote was, the least value heard; where nothing was, its own
-- line 18: the vote becomes absent
-- line 19: where every message heard has a vote and all those are equal the decision is that vote, else it is kept
unfoldable pub even_rule : Holding → List Message → Holding
even_rule h ms =
    record {
      value = unwrap_or (least (votes ms)) (unwrap_or (least (values ms)) h.value);
      vote = None;
      decision = option_or (agreed (votes ms)) h.decision;
    }

-- lines 6 and 13
unfoldable pub odd : ℕ → Bool
odd r = eqb (r % 2) 1

unfoldable pub rule : ℕ → Holding → List Message → Holding
rule r h ms = cond (odd r) (odd_rule h ms) (even_rule h ms)
