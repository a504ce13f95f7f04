-- A property of values that all that a process holds and all that it heard have is had by all that it holds after the rule.
-- Assumes nothing.
use Prim.Native.Nat.{ℕ}
use mathlib.Core.Path.{◌≡◌, refl}
use mathlib.Core.Bool.{Bool, true, false, cond}
use mathlib.Core.List.{List, Memᴰ as Among}
use Rattle.std.specs.Prelude.{Option, Some, None, unwrap_or}
use Rattle.std.specs.Option.{option_or}
use Rattle.voting.specs.declared.Message.{Message}
use Rattle.voting.specs.declared.Holding.{Holding}
use Rattle.voting.specs.Voting.{least, agreed, values, votes, odd_rule, even_rule, odd, rule}
use Rattle.voting.proofs.Facts.{absent_present, least_heard, agreed_some, value_heard, vote_heard}

pub record Holds (P : ℕ → Type 0) (h : Holding) : Type 0 where
  pub value : P h.value
  pub vote : (x : ℕ) → h.vote ≡ Some x → P x
  pub decision : (x : ℕ) → h.decision ≡ Some x → P x

pub record Carries (P : ℕ → Type 0) (m : Message) : Type 0 where
  pub value : P m.value
  pub vote : (x : ℕ) → m.vote ≡ Some x → P x

module _ (P : ℕ → Type 0) where
  value_or_keeps : (c : Option ℕ) (y : ℕ) → ((x : ℕ) → c ≡ Some x → P x) → P y → P (unwrap_or c y)
  value_or_keeps None y a b = b
  value_or_keeps (Some x) y a b = a x refl

  or_else_keeps : (c d : Option ℕ) → ((x : ℕ) → c ≡ Some x → P x) → ((x : ℕ) → d ≡ Some x → P x) → (x : ℕ) → option_or c d ≡ Some x → P x
  or_else_keeps None d a b = b
  or_else_keeps (Some y) d a b = a

  module _ (h : Holding) (ms : List Message) (held : Holds P h) (heard : (m : Message) → Among m ms → Carries P m) where
    values_keep : (x : ℕ) → Among (Some x) (values ms) → P x
    values_keep x a =
        let k = value_heard ms x a in
        rw k.2 at (heard k.0 k.1).value

    votes_keep : (x : ℕ) → Among (Some x) (votes ms) → P x
    votes_keep x a =
        let k = vote_heard ms (Some x) a in
        (heard k.0 k.1).vote x k.2

    value_keeps : P (unwrap_or (least (values ms)) h.value)
    value_keeps = value_or_keeps (least (values ms)) h.value (λ x e. values_keep x (least_heard (values ms) x e)) held.value

    odd_keeps : Holds P (odd_rule h ms)
    unfolding odd_rule
    odd_keeps =
        record {
          value = value_keeps;
          vote = or_else_keeps (agreed (values ms)) h.vote (λ x e. values_keep x (agreed_some (values ms) x e)) held.vote;
          decision = held.decision;
        }

    even_keeps : Holds P (even_rule h ms)
    unfolding even_rule
    even_keeps =
        record {
          value = value_or_keeps (least (votes ms)) (unwrap_or (least (values ms)) h.value) (λ x e. votes_keep x (least_heard (votes ms) x e)) value_keeps;
          vote = λ x e. absurd (absent_present e);
          decision = or_else_keeps (agreed (votes ms)) h.decision (λ x e. votes_keep x (agreed_some (votes ms) x e)) held.decision;
        }

    pub keeps : (r : ℕ) → Holds P (rule r h ms)
    unfolding rule
    keeps r = go (odd r)
      where
        go : (b : Bool) → Holds P (cond b (odd_rule h ms) (even_rule h ms))
        go true = odd_keeps
        go false = even_keeps
