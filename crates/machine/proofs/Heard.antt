-- What a process has heard from the processes below one more: the tally and the reach get what the last of them sent, where it was heard.
-- Assumes nothing.
use Rattle.std.proofs.Common.{◌≡◌, ℕ, suc, true, false, List, [], ◌∷◌, ◌++◌, refl, ap, ◌∙◌}
use Rattle.sets.specs.Sets.{has, union, members}
use Rattle.sets.proofs.Order.{members_more, members_past}
use Rattle.voting.specs.declared.Message.{Message}
use Rattle.voting.specs.Tally.{hear, tally}
use Rattle.voting.proofs.Tallies.{tally_last}
use Rattle.rounds.specs.Events.{messages, gathered}
use Rattle.words.specs.Layout.{Mem, get, Line, ROUND, HEARD, REACH}
use Rattle.words.specs.Spelled.{message_of, carried_of}
use Rattle.words.specs.Calls.{messages_below, reach_below}

messages_last : (qs : List ℕ) (q : ℕ) (mail : ℕ → Message) → messages (qs ++ (q ∷ [])) mail ≡ messages qs mail ++ (mail q ∷ [])
unfolding messages
messages_last [] q mail = refl
messages_last (p ∷ qs) q mail = ap (λ (ms : List Message). mail p ∷ ms) (messages_last qs q mail)

gathered_last : (qs : List ℕ) (q : ℕ) (carried : ℕ → ℕ) (s : ℕ) → gathered (qs ++ (q ∷ [])) carried s ≡ union (gathered qs carried s) (carried q)
unfolding gathered
gathered_last [] q carried s = refl
gathered_last (p ∷ qs) q carried s = gathered_last qs q carried (union s (carried p))

module _ (m : Mem) (p : ℕ) where
  pub tally_none : tally [] ≡ tally (messages_below 0 m p)
  unfolding messages_below messages members
  tally_none = refl

  pub reach_none : get m (Line p REACH) ≡ reach_below 0 m p
  unfolding reach_below gathered members
  reach_none = refl

  -- q was heard
  module _ (q : ℕ) (h : has (get m (Line p HEARD)) q ≡ true) where
    pub tally_heard : tally (messages_below (suc q) m p) ≡ hear (tally (messages_below q m p)) (message_of m p (get m (Line p ROUND)) q)
    unfolding messages_below
    tally_heard =
        ap tally (ap (λ (qs : List ℕ). messages qs (message_of m p (get m (Line p ROUND)))) (members_more q (get m (Line p HEARD)) h) ∙ messages_last _ q _)
        ∙ tally_last _ _

    pub reach_heard : reach_below (suc q) m p ≡ union (reach_below q m p) (carried_of m p (get m (Line p ROUND)) q)
    unfolding reach_below
    reach_heard = rw (members_more q (get m (Line p HEARD)) h) (gathered_last _ q _ _)

  -- q was not
  module _ (q : ℕ) (h : has (get m (Line p HEARD)) q ≡ false) where
    pub tally_unheard : tally (messages_below (suc q) m p) ≡ tally (messages_below q m p)
    unfolding messages_below
    tally_unheard = rw (members_past q (get m (Line p HEARD)) h)

    pub reach_unheard : reach_below (suc q) m p ≡ reach_below q m p
    unfolding reach_below
    reach_unheard = rw (members_past q (get m (Line p HEARD)) h)
