-- What an accepted event does: the transitions of document 000, section 2.2, without heard-of sets fixed in advance, with the reach sets of
-- document 01. A refused event does nothing. Assumes nothing.
use Rattle.std.specs.Prelude.{ℕ, zero, suc, ◌+◌, Bool, cond, ◌&&◌, List, [], ◌∷◌, ltb, leb}
use Rattle.sets.specs.Sets.{empty, with, without, union, members}
use Rattle.voting.specs.declared.Message.{Message}
use Rattle.voting.specs.Voting.{message, rule}
use Rattle.rounds.specs.declared.Event.{Event}
use Rattle.rounds.specs.declared.Event.TheVariants.{Send, Receive, Step, Broadcast}
use Rattle.rounds.specs.Verdicts.{Verdict}
use Rattle.rounds.specs.Limits.{window}
use Rattle.rounds.specs.Config.{Control, Content, Config, at, at₂, at₃}
use Rattle.rounds.specs.Stages.{tick}
use Rattle.rounds.specs.Verdicts.{accepted, verdict}

-- ---- a send
-- whether a message of a sender at round r to a receiver at round s is put in transit: its lead is within the window. Below 0 it is late: discarded
unfoldable pub timely : ℕ → ℕ → Bool
timely r s = leb s r && ltb r (s + window)

unfoldable pub send_control : Control → ℕ → ℕ → Control
send_control c p q =
    let me = c.site p in
    let r = me.round in
    let kept = timely r (c.site q).round in
    record {
      size = c.size;
      events = c.events;
      site = at c.site p (record { round = r; sent = with me.sent q; heard = me.heard; reach = me.reach });
      transit = cond kept (at₂ c.transit q r (with (c.transit q r) p)) c.transit;
      carried = cond kept (at₃ c.carried q r p me.reach) c.carried;
      count = c.count;
    }

unfoldable pub send_content : Control → Content → ℕ → ℕ → Content
send_content c d p q =
    let r = (c.site p).round in
    record {
      holding = d.holding;
      mail = cond (timely r (c.site q).round) (at₃ d.mail q r p (message (d.holding p))) d.mail;
    }

-- ---- a receive: the message leaves transit and its sender is heard
unfoldable pub receive_control : Control → ℕ → ℕ → Control
receive_control c p q =
    let me = c.site p in
    let r = me.round in
    record {
      size = c.size;
      events = c.events;
      site = at c.site p (record { round = r; sent = me.sent; heard = with me.heard q; reach = me.reach });
      transit = at₂ c.transit p r (without (c.transit p r) q);
      carried = c.carried;
      count = c.count;
    }

-- ---- a step
-- the set, with the reach that each of these senders' messages carries
unfoldable pub gathered : List ℕ → (ℕ → ℕ) → ℕ → ℕ
gathered [] carried s = s
gathered (q ∷ qs) carried s = gathered qs carried (union s (carried q))

-- the messages of these senders
unfoldable pub messages : List ℕ → (ℕ → Message) → List Message
messages [] mail = []
messages (q ∷ qs) mail = mail q ∷ messages qs mail

-- the processes that p has heard this round, in ascending order
unfoldable pub heard_by : Control → ℕ → List ℕ
heard_by c p = members c.size (c.site p).heard

-- of what is in transit for each round, what is for the round r or a later one
unfoldable pub from : ℕ → (ℕ → ℕ) → ℕ → ℕ
from r transit s = cond (ltb s r) empty (transit s)

unfoldable pub step_control : Control → ℕ → Control
step_control c p =
    let me = c.site p in
    let r = me.round in
    record {
      size = c.size;
      events = c.events;
      site = at c.site p (record { round = suc r; sent = empty; heard = empty; reach = gathered (heard_by c p) (c.carried p r) me.reach });
      transit = at c.transit p (from (suc r) (c.transit p));
      carried = c.carried;
      count = c.count;
    }

unfoldable pub step_content : Control → Content → ℕ → Content
step_content c d p =
    let r = (c.site p).round in
    record {
      holding = at d.holding p (rule r (d.holding p) (messages (heard_by c p) (d.mail p r)));
      mail = d.mail;
    }

-- ---- a broadcast: sends to the processes below k, in ascending order, each counted by itself
unfoldable pub sends_control : ℕ → Control → ℕ → Control
sends_control zero c p = c
sends_control (suc k) c p = let b = sends_control k c p in send_control (tick b) p k

unfoldable pub sends_content : ℕ → Control → Content → ℕ → Content
sends_content zero c d p = d
sends_content (suc k) c d p = send_content (sends_control k c p) (sends_content k c d p) p k

-- ---- an accepted event
unfoldable pub next_control : Control → Event → Control
next_control c (Send p q) = send_control (tick c) p q
next_control c (Receive p q) = receive_control (tick c) p q
next_control c (Step p) = step_control (tick c) p
next_control c (Broadcast p) = sends_control c.size c p

unfoldable pub next_content : Control → Content → Event → Content
next_content c d (Send p q) = send_content c d p q
next_content c d (Receive p q) = d
next_content c d (Step p) = step_content c d p
next_content c d (Broadcast p) = sends_content c.size c d p

-- ---- any event: where it is refused all stays as it was
unfoldable pub if_accepted : {A : Type 0} → Verdict → A → A → A
if_accepted v next old = cond (accepted v) next old

unfoldable pub apply_control : Control → Event → Control
apply_control c e = if_accepted (verdict c e) (next_control c e) c

unfoldable pub apply_content : Control → Content → Event → Content
apply_content c d e = if_accepted (verdict c e) (next_content c d e) d

unfoldable pub apply : Config → Event → Config
apply c e = record { control = apply_control c.control e; content = apply_content c.control c.content e }
