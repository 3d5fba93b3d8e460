-- What waits, handed in one after another.
use Rattle.std.proofs.Common.{◌≡◌, ℕ, suc, ◌<◌, List, [], ◌++◌, take, drop, length, Option, Some, None, refl, sym, ap, ◌∙◌, subst, arith}
use Rattle.std.proofs.Common.{append_assoc, append-nil, take-append-drop}
use Rattle.std.specs.Prelude.{option_and_then}
use Rattle.std.proofs.lemmas.List.{length-append}
use Rattle.std.proofs.lemmas.Option.{none-some}
use Rattle.ledger_model.specs.Terms.{ParticipantId}
use Rattle.ledger_model.proofs.Lists.{In}
use Rattle.canton_model.specs.Log.{Params}
use Rattle.canton_model.proofs.LongerLogs.{genuine_take}
use Rattle.world_model.specs.Messages.{Entry, Message, ResponseMessage, Response}
use Rattle.world_model.specs.Machine.{Machine}
use Rattle.world_model.specs.Sequencing.{sequenced}
use Rattle.world_model.specs.Places.{first_from}
use Rattle.world_model.specs.Fits.{IsOwed, MayStand}
use Rattle.world_model.specs.Locks.{SequencerBehind}
use Rattle.world_model.specs.Node.{NodeState, outbox_head, sent, is_waiting_at, waiting_to}
use Rattle.world_model.specs.Lawful.{NodeHas}
use Rattle.world_model.specs.Settled.{append_each}
use Rattle.world_model.specs.Turns.{waiting_below}
use Rattle.world_model.proofs.Grown.{owed_stands, take_grown}
use Rattle.world_model.proofs.Loops.{head_waits, none_waits}
use Rattle.world_model.proofs.Steps.{has_sent, waiting_in, waiting_owed}
use Rattle.seq_log.specs.Sequenced.{Sequenced, IsFor}
use Rattle.node_core.specs.Participant.{Participant as NodeValue, with_state}
use Rattle.node_core.specs.Machines.{IsNodeOf}
use Rattle.node_core.specs.OverLog.{HasInbox, inbox_over, state_over}
use Rattle.node_core.proofs.OverLog.{sent_one}
use Rattle.world_play.specs.Parts.{IsParticipant, GoesOn}
use Rattle.world_play.proofs.LogMore.{has_inbox_more, state_more}

-- a log that goes on
pub stays : (s : Sequenced) → GoesOn s s
stays s = record { row = refl; capacity = refl; params = refl; framed = λ q. refl; more = []; is_more = sym (append-nil s.list) }

pub goes_further : (a b c : Sequenced) → GoesOn a b → GoesOn b c → GoesOn a c
goes_further a b c x y =
    record {
      row = y.row ∙ x.row;
      capacity = y.capacity ∙ x.capacity;
      params = y.params ∙ x.params;
      framed = λ q. y.framed q ∙ x.framed q;
      more = x.more ++ y.more;
      is_more = y.is_more ∙ (ap (λ (xs : List Entry). xs ++ y.more) x.is_more ∙ append_assoc a.list x.more y.more);
    }

pub still_for : (m : Machine) (a b : Sequenced) → GoesOn a b → IsFor m a → IsFor m b
still_for m a b x f =
    record { params = f.params ∙ sym x.params; framed = λ q. f.framed q ∙ sym (x.framed q); capacity = f.capacity ∙ sym x.capacity }

-- a participant stays one while the log goes on
module _ (m : Machine) (p : ParticipantId) where
  pub over_more : (node after : NodeValue) (a b : Sequenced) (given : IsParticipant m p node a) → GoesOn a b → SequencerBehind m b.list
      → IsNodeOf m p after → HasInbox (inbox_over a.list after) after → NodeHas m p (take given.read a.list) (state_over a.list after)
      → IsParticipant m p after b
  over_more node after a b given on behind is inbox has =
      record {
        is_reading = given.is_reading;
        is_for = still_for m a b on given.is_for;
        behind = behind;
        is = is;
        read = given.read;
        within = let long = length-append a.list on.more in let same = ap length on.is_more in let le = given.within in omega arith;
        has =
            subst (λ (state : NodeState). NodeHas m p (take given.read b.list) state) (sym (state_more a b on after inbox))
            (subst (λ (xs : List Entry). NodeHas m p xs (state_over a.list after))
            (sym (ap (take given.read) on.is_more ∙ take_grown a.list on.more given.read given.within)) has);
        inbox = has_inbox_more a b on after inbox;
      }

  -- the head of the outbox may stand
  in_outbox : (node : NodeState) (r : Response) (o : Option ℕ) → option_and_then (waiting_to node.outbox) o ≡ Some r → In r node.outbox
  in_outbox node r None e = absurd (none-some r e)
  in_outbox node r (Some k) e = (waiting_in node.outbox k r e).0

  pub head_may : (node : NodeValue) (s : Sequenced) (r : Response) → IsParticipant m p node s → outbox_head m.params node.state ≡ Some r
      → MayStand m s.list (ResponseMessage r)
  head_may node s r given h =
      subst (λ (xs : List Entry). IsOwed m.reading m.params xs r) (take-append-drop given.read s.list)
      (owed_stands m.reading m.params (take given.read s.list) (drop given.read s.list) r
      (waiting_owed m p (take given.read s.list) (state_over s.list node) r given.is_reading
      (genuine_take m.reading m.params s.list given.read (given.behind).genuine) given.has
      (in_outbox node.state r (first_from (is_waiting_at m.params node.state) 0 (length (node.state).items)) h)))

module _ (first : NodeValue) (began : Sequenced) where
  abbrev pub waiting : NodeState → List Message
  waiting node = waiting_below (first.topology).params node (length node.items)

  pub record IsSender (node : NodeValue) (s : Sequenced) : Type 0 where
    pub on : GoesOn began s
    pub same : node ≡ with_state first node.state
    pub items : (node.state).items ≡ (first.state).items
    pub keeps : (m : Machine) (p : ParticipantId) → IsParticipant m p first began → IsParticipant m p node s
    pub all : (m : Machine) (now : ℕ) → IsFor m began
        → append_each m now s.list (waiting node.state) ≡ append_each m now began.list (waiting first.state)

  pub starts : IsSender first began
  starts = record { on = stays began; same = refl; items = refl; keeps = λ m p given. given; all = λ m now f. refl }

  module _ (node : NodeValue) (s : Sequenced) (sends : IsSender node s) (r : Response)
      (head : outbox_head (node.topology).params node.state ≡ Some r) where
    head_first : outbox_head (first.topology).params node.state ≡ Some r
    head_first = subst (λ (x : NodeValue). outbox_head (x.topology).params node.state ≡ Some r) sends.same head

    module _ (after : NodeValue) (next : Sequenced) (on : GoesOn s next) (a : after ≡ with_state node (sent node.state r.request))
        (in_log : (m : Machine) (now : ℕ) → IsFor m s → next.list ≡ sequenced m now s.list (ResponseMessage r))
        (behind : (m : Machine) → IsFor m s → SequencerBehind m s.list → MayStand m s.list (ResponseMessage r) → SequencerBehind m next.list) where
      after_first : after ≡ with_state first (sent node.state r.request)
      after_first = a ∙ ap (λ (x : NodeValue). with_state x (sent node.state r.request)) sends.same

      kept : (m : Machine) (p : ParticipantId) → IsParticipant m p first began → IsParticipant m p after next
      kept m p given =
          let mine = with_state first node.state in
          let now : IsParticipant m p mine s = subst (λ (x : NodeValue). IsParticipant m p x s) sends.same (sends.keeps m p given) in
          let head_m : outbox_head m.params node.state ≡ Some r =
          subst (λ (q : Params). outbox_head q node.state ≡ Some r) (now.is).params head_first in
          subst (λ (x : NodeValue). IsParticipant m p x next) (sym after_first)
          (over_more m p mine (with_state first (sent node.state r.request)) s next now on
          (behind m now.is_for now.behind (head_may m p mine s r now head_m))
          (record { reading = (given.is).reading; params = (given.is).params; me = (given.is).me; prepares = (given.is).prepares })
          (sent_one (inbox_over s.list mine) mine now.inbox r.request)
          (has_sent m p (take now.read s.list) (state_over s.list mine) r.request now.has))

      same_all : (m : Machine) (now : ℕ) → IsFor m began
          → append_each m now next.list (waiting after.state) ≡ append_each m now began.list (waiting first.state)
      same_all m now f =
          let there = still_for m began s sends.on f in
          ap (λ (xs : List Entry). append_each m now xs (waiting after.state)) (in_log m now there)
          ∙ (ap (λ (x : NodeValue). append_each m now (sequenced m now s.list (ResponseMessage r)) (waiting x.state)) after_first
          ∙ (sym (ap (append_each m now s.list) (head_waits (first.topology).params node.state r head_first)) ∙ sends.all m now f))

      pub goes_on : IsSender after next
      goes_on =
          record {
            on = goes_further began s next sends.on on;
            same = after_first ∙ ap (λ (x : NodeValue). with_state first x.state) (sym after_first);
            items = ap (λ (x : NodeValue). (x.state).items) after_first ∙ sends.items;
            keeps = kept;
            all = same_all;
          }

      pub smaller : length (waiting_below (after.topology).params after.state (length (after.state).items))
          < length (waiting_below (node.topology).params node.state (length (node.state).items))
      smaller =
          let one : length (waiting node.state) ≡ suc (length (waiting (sent node.state r.request))) =
          ap length (head_waits (first.topology).params node.state r head_first) in
          let less : length (waiting_below (after.topology).params after.state (length (after.state).items)) ≡ length (waiting (sent node.state r.request)) =
          ap (λ (x : NodeValue). length (waiting_below (x.topology).params x.state (length (x.state).items))) after_first in
          let same : length (waiting_below (node.topology).params node.state (length (node.state).items)) ≡ length (waiting node.state) =
          ap (λ (x : NodeValue). length (waiting_below (x.topology).params node.state (length (node.state).items))) sends.same in
          omega arith

  pub all_sent : (node : NodeValue) (s : Sequenced) → IsSender node s → outbox_head (node.topology).params node.state ≡ None
      → (m : Machine) (now : ℕ) → IsFor m began → s.list ≡ append_each m now began.list (waiting first.state)
  all_sent node s sends head m now f =
      let head_first : outbox_head (first.topology).params node.state ≡ None =
      subst (λ (x : NodeValue). outbox_head (x.topology).params node.state ≡ None) sends.same head in
      sym (ap (append_each m now s.list) (none_waits (first.topology).params node.state head_first)) ∙ sends.all m now f
