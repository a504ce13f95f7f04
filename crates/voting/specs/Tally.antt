-- What the code of the rule goes by: a tally of the messages heard, and the rule on a tally.
-- Assumes nothing.
use Rattle.std.specs.Prelude.{ℕ, min, Bool, true, false, cond, ◌&&◌, List, [], ◌∷◌, eqb, Option, Some, None, unwrap_or}
use Rattle.std.specs.Option.{option_or}
use Rattle.voting.specs.declared.Message.{Message}
use Rattle.voting.specs.declared.Holding.{Holding}
use Rattle.voting.specs.declared.Poll.{Poll}
use Rattle.voting.specs.declared.Tally.{Tally}
use Rattle.voting.specs.Voting.{odd}

-- ---- a poll: of some choices the least that is present, and whether all are present and the same
-- no choices
unfoldable pub nothing : Poll
nothing = record { least = None; same = true }

-- the least with x beside it
unfoldable pub lesser : Option ℕ → ℕ → ℕ
lesser None x = x
lesser (Some a) x = min a x

-- whether x is the same as the least, or stands alone
unfoldable pub agrees : Option ℕ → ℕ → Bool
agrees None x = true
agrees (Some a) x = eqb a x

-- one more choice
unfoldable pub with : Poll → Option ℕ → Poll
with t None = record { least = t.least; same = false }
with t (Some x) = record { least = Some (lesser t.least x); same = t.same && agrees t.least x }

-- what all of them are, or c where they differ and where there are none
unfoldable pub agreed_or : Poll → Option ℕ → Option ℕ
agreed_or t c = cond t.same (option_or t.least c) c

-- ---- the tally
-- nothing was heard
unfoldable pub silence : Tally
silence = record { values = nothing; votes = nothing }

-- one more message was heard
unfoldable pub hear : Tally → Message → Tally
hear t m = record { values = with t.values (Some m.value); votes = with t.votes m.vote }

unfoldable pub tally : List Message → Tally
tally [] = silence
tally (m ∷ ms) = hear (tally ms) m

-- ---- the rule on a tally
unfoldable pub odd_tally : Holding → Tally → Holding
odd_tally h t =
    record {
      value = unwrap_or t.values.least h.value;
      vote = agreed_or t.values h.vote;
      decision = h.decision;
    }

unfoldable pub even_tally : Holding → Tally → Holding
even_tally h t =
    record {
      value = unwrap_or t.votes.least (unwrap_or t.values.least h.value);
      vote = None;
      decision = agreed_or t.votes h.decision;
    }

unfoldable pub ruled : ℕ → Holding → Tally → Holding
ruled r h t = cond (odd r) (odd_tally h t) (even_tally h t)
