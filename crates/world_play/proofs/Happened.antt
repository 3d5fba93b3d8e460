-- What a world's events are at one participant.
use Rattle.std.proofs.Common.{◌≡◌, ℕ, zero, suc, ◌+◌, ◌<◌, ◌≤◌, Bool, List, [], ◌∷◌, ◌++◌, take, length, Option, Some, None, refl, sym, ap, ◌∙◌, subst, arith}
use Rattle.std.specs.Prelude.{slice_get}
use Rattle.std.proofs.lemmas.Option.{same_Some}
use Rattle.ledger_model.specs.Terms.{ParticipantId}
use Rattle.canton_model.specs.Inbox.{Item, inbox, item_after}
use Rattle.canton_model.specs.Log.{Params}
use Rattle.canton_model.specs.Reading.{Reading}
use Rattle.canton_model.proofs.InboxGrows.{items_push}
use Rattle.world_model.specs.Messages.{Entry, ResponseMessage, Response}
use Rattle.world_model.specs.Machine.{Machine}
use Rattle.world_model.specs.Mediator.{MediatorState}
use Rattle.world_model.specs.Sequencing.{sequenced}
use Rattle.world_model.specs.Node.{NodeState, read_entry, next_claim, outbox_head, sent, with_flag, with_items}
use Rattle.world_model.specs.World.{World, NodeRead, Validate, Reply, LoseReply, Pause, happens, at_node, node_reads, validates, replies, loses_reply}
use Rattle.world_model.specs.World.{set_at, with_node}
use Rattle.seq_log.specs.Sequenced.{Sequenced}
use Rattle.node_core.specs.OverLog.{HasInbox, inbox_over, state_over}
use Rattle.node_core.specs.Participant.{Participant as NodeValue, reading_of, whole_state, with_state}
use Rattle.node_core.proofs.OverLog.{cursor_is, flagged_one, head_is, sent_one}
use Rattle.world_play.specs.declared.moving.NodeMove.{NodeMove}
use Rattle.world_play.specs.declared.moving.NodeMove.TheVariants as move
use Rattle.world_play.specs.Moves.{Happens, event_at, validated_if}
use Rattle.world_play.specs.Reading.{IsReader}
use Rattle.world_play.specs.Parts.{GoesOn}
use Rattle.node_core.specs.Machines.{IsNodeOf}
use Rattle.world_model.proofs.Steps.{take_next}
use Rattle.world_play.proofs.Moved.{to_machine}
use Rattle.world_play.proofs.LogMore.{state_more}
use Rattle.world_play.proofs.Readers.{stands}

set_own : (nodes : List NodeState) (p : ℕ) (x : NodeState) → slice_get nodes p ≡ Some x → set_at nodes p x ≡ nodes
set_own [] p x e = refl
set_own (y ∷ ys) zero x e = ap (λ (z : NodeState). z ∷ ys) (sym (same_Some y x e))
set_own (y ∷ ys) (suc p) x e = ap (λ (zs : List NodeState). y ∷ zs) (set_own ys p x e)

pub past : {X : Type 0} (xs : List X) (k : ℕ) → length xs ≤ k → slice_get xs k ≡ None
past [] k le = refl
past (x ∷ xs) zero le = absurd (omega (arith, le))
past (x ∷ xs) (suc k) le = past xs k (omega (arith, le))

module _ (m : Machine) (p : ParticipantId) (now : ℕ) (mediator : MediatorState) (nodes : List NodeState) (log : List Entry) (state : NodeState)
    (at : slice_get nodes p ≡ Some state) where
  abbrev w : World
  w = record { log = log; now = now; mediator = mediator; nodes = nodes }

  still : record { log = log; now = now; mediator = mediator; nodes = set_at nodes p state } ≡ w
  still = ap (λ (ns : List NodeState). record { log = log; now = now; mediator = mediator; nodes = ns }) (set_own nodes p state at)

  reads_none : slice_get log (length state.items) ≡ None → w ≡ happens m w (NodeRead p)
  reads_none e =
      sym (ap (λ (o : Option NodeState). at_node w o (λ node. node_reads m w p node (slice_get log (length node.items)))) at ∙ ap (node_reads m w p state) e)

  reads_some : (e : Entry) → slice_get log (length state.items) ≡ Some e
      → with_node w p (read_entry m.reading p state (take (length state.items) log) e) ≡ happens m w (NodeRead p)
  reads_some e there =
      sym (ap (λ (o : Option NodeState). at_node w o (λ node. node_reads m w p node (slice_get log (length node.items)))) at ∙ ap (node_reads m w p state) there)

  validates_is : (o : Option ℕ) → next_claim m.reading m.params p state ≡ o
      → record { log = log; now = now; mediator = mediator; nodes = set_at nodes p (validated_if m.reading m.params p state o) } ≡ happens m w (Validate p)
  validates_is None e =
      still
      ∙ sym (ap (λ (o : Option NodeState). at_node w o (λ node. validates m w p node (next_claim m.reading m.params p node))) at ∙ ap (validates m w p state) e)
  validates_is (Some k) e =
      sym (ap (λ (o : Option NodeState). at_node w o (λ node. validates m w p node (next_claim m.reading m.params p node))) at ∙ ap (validates m w p state) e)

  replies_none : outbox_head m.params state ≡ None → w ≡ happens m w (Reply p)
  replies_none e =
      sym (ap (λ (o : Option NodeState). at_node w o (λ node. replies m w p node (outbox_head m.params node))) at ∙ ap (replies m w p state) e)

  replies_some : (r : Response) → outbox_head m.params state ≡ Some r
      → record { log = sequenced m now log (ResponseMessage r); now = now; mediator = mediator; nodes = set_at nodes p (sent state r.request) }
      ≡ happens m w (Reply p)
  replies_some r e =
      sym (ap (λ (o : Option NodeState). at_node w o (λ node. replies m w p node (outbox_head m.params node))) at ∙ ap (replies m w p state) e)

  loses_none : outbox_head m.params state ≡ None → w ≡ happens m w (LoseReply p)
  loses_none e =
      sym (ap (λ (o : Option NodeState). at_node w o (λ node. loses_reply w p node (outbox_head m.params node))) at ∙ ap (loses_reply w p state) e)

  loses_some : (r : Response) → outbox_head m.params state ≡ Some r → with_node w p (sent state r.request) ≡ happens m w (LoseReply p)
  loses_some r e =
      sym (ap (λ (o : Option NodeState). at_node w o (λ node. loses_reply w p node (outbox_head m.params node))) at ∙ ap (loses_reply w p state) e)

-- a participant reads
module _ (m : Machine) (p : ParticipantId) (first : NodeValue) (s : Sequenced) (k : ℕ) (at : k ≡ length (first.state).items)
    (inbox_is : HasInbox (inbox_over s.list first) first) where
  abbrev its : NodeState
  its = state_over s.list first

  long : k ≡ length its.items
  long = at ∙ cursor_is (inbox_over s.list first) first inbox_is

  pub read_past : length s.list ≤ k → Happens m p (NodeRead p) first s first s
  read_past le now mediator nodes there =
      still m p now mediator nodes s.list its there
      ∙ reads_none m p now mediator nodes s.list its there (past s.list (length its.items) (let l = long in omega (arith, le, l)))

  module _ (is : IsNodeOf m p first) (lt : k < length s.list) (after : NodeValue) (reader : IsReader first s.list after)
      (one : length (after.state).items ≡ k + 1) where
    next : (e : Entry) × (slice_get s.list k ≡ Some e) × (slice_get (take (k + 1) s.list) k ≡ Some e)
    next = stands k s.list lt

    one_more : take (k + 1) s.list ≡ take k s.list ++ next.0 ∷ []
    one_more = let n : k + 1 ≡ suc k = omega arith in ap (λ (i : ℕ). take i s.list) n ∙ take_next k s.list next.0 next.1

    inbox_next : inbox_over s.list after ≡ its.items ++ item_after m.reading p (take (length its.items) s.list) next.0 ∷ []
    inbox_next =
        ap (λ (n : ℕ). inbox (reading_of after) after.me (take n s.list)) one
        ∙ (ap (λ (x : NodeValue). inbox (reading_of x) x.me (take (k + 1) s.list)) reader.is
        ∙ (ap (inbox (reading_of first) first.me) one_more
        ∙ (items_push (reading_of first) first.me [] (take k s.list) next.0
        ∙ (ap (λ (n : ℕ). inbox (reading_of first) first.me (take n s.list) ++ item_after (reading_of first) first.me (take k s.list) next.0 ∷ []) at
        ∙ (ap (λ (n : ℕ). its.items ++ item_after (reading_of first) first.me (take n s.list) next.0 ∷ []) long
        ∙ to_machine m p first is
        (λ (r : Reading) (q : Params) (i : ParticipantId).
        its.items ++ item_after (reading_of first) first.me (take (length its.items) s.list) next.0 ∷ []
        ≡ its.items ++ item_after r i (take (length its.items) s.list) next.0 ∷ []) refl)))))

    state_next : state_over s.list after ≡ read_entry m.reading p its (take (length its.items) s.list) next.0
    state_next = ap (λ (x : NodeValue). whole_state x (inbox_over s.list after)) reader.is ∙ ap (with_items its) inbox_next

    pub read_here : Happens m p (NodeRead p) first s after s
    read_here now mediator nodes there =
        ap (λ (x : NodeState). record { log = s.list; now = now; mediator = mediator; nodes = set_at nodes p x }) state_next
        ∙ reads_some m p now mediator nodes s.list its there next.0 (ap (slice_get s.list) (sym long) ∙ next.1)

-- it sends the head of its outbox, or loses it, or does a job
module _ (m : Machine) (p : ParticipantId) (first : NodeValue) (s : Sequenced) (is : IsNodeOf m p first)
    (inbox_is : HasInbox (inbox_over s.list first) first) where
  abbrev own : NodeState
  own = state_over s.list first

  head_m : (o : Option Response) → outbox_head (first.topology).params first.state ≡ o → outbox_head m.params own ≡ o
  head_m o e =
      subst (λ (q : Params). outbox_head q own ≡ o) is.params (sym (head_is (inbox_over s.list first) first inbox_is) ∙ e)

  pub reply_none : outbox_head (first.topology).params first.state ≡ None → Happens m p (Reply p) first s first s
  reply_none e now mediator nodes there =
      still m p now mediator nodes s.list own there ∙ replies_none m p now mediator nodes s.list own there (head_m None e)

  pub inbox_sent : (k : ℕ) (after : NodeValue) → after ≡ with_state first (sent first.state k) → HasInbox (inbox_over s.list after) after
  inbox_sent k after a =
      subst (λ (x : NodeValue). HasInbox (inbox_over s.list x) x) (sym a) (sent_one (inbox_over s.list first) first inbox_is k)

  pub reply_some : (r : Response) → outbox_head (first.topology).params first.state ≡ Some r → (after : NodeValue) (s2 : Sequenced) → GoesOn s s2
      → after ≡ with_state first (sent first.state r.request) → ((now : ℕ) → s2.list ≡ sequenced m now s.list (ResponseMessage r))
      → Happens m p (Reply p) first s after s2
  reply_some r e after s2 on a list now mediator nodes there =
      ap (λ (x : NodeState). record { log = s2.list; now = now; mediator = mediator; nodes = set_at nodes p x })
      (state_more s s2 on after (inbox_sent r.request after a) ∙ ap (state_over s.list) a)
      ∙ (ap (λ (xs : List Entry). record { log = xs; now = now; mediator = mediator; nodes = set_at nodes p (sent own r.request) }) (list now)
      ∙ replies_some m p now mediator nodes s.list own there r (head_m (Some r) e))

  pub lose_none : outbox_head (first.topology).params first.state ≡ None → Happens m p (LoseReply p) first s first s
  lose_none e now mediator nodes there =
      still m p now mediator nodes s.list own there ∙ loses_none m p now mediator nodes s.list own there (head_m None e)

  pub lose_some : (r : Response) → outbox_head (first.topology).params first.state ≡ Some r → (after : NodeValue)
      → after ≡ with_state first (sent first.state r.request) → Happens m p (LoseReply p) first s after s
  lose_some r e after a now mediator nodes there =
      ap (λ (x : NodeValue). record { log = s.list; now = now; mediator = mediator; nodes = set_at nodes p (state_over s.list x) }) a
      ∙ loses_some m p now mediator nodes s.list own there r (head_m (Some r) e)

  module _ (after : NodeValue) (same : after ≡ with_state first after.state) (items : (after.state).items ≡ (first.state).items) where
    over_same : inbox_over s.list after ≡ inbox_over s.list first
    over_same =
        ap (inbox_over s.list) same ∙ ap (λ (xs : List Item). inbox (reading_of first) first.me (take (length xs) s.list)) items

    pub inbox_after : ((whole : List Item) → HasInbox whole first → HasInbox whole after) → HasInbox (inbox_over s.list after) after
    inbox_after keeps = subst (λ (whole : List Item). HasInbox whole after) (sym over_same) (keeps (inbox_over s.list first) inbox_is)

    pub validate_is : ((whole : List Item) → HasInbox whole first
        → whole_state after whole ≡ validated_if (reading_of first) (first.topology).params first.me (whole_state first whole)
        (next_claim (reading_of first) (first.topology).params first.me (whole_state first whole)))
        → Happens m p (Validate p) first s after s
    validate_is ok now mediator nodes there =
        let state : state_over s.list after ≡ validated_if m.reading m.params p own (next_claim m.reading m.params p own) =
        ap (whole_state after) over_same
        ∙ to_machine m p first is
        (λ (r : Reading) (q : Params) (i : ParticipantId). whole_state after (inbox_over s.list first) ≡ validated_if r q i own (next_claim r q i own))
        (ok (inbox_over s.list first) inbox_is) in
        ap (λ (x : NodeState). record { log = s.list; now = now; mediator = mediator; nodes = set_at nodes p x }) state
        ∙ validates_is m p now mediator nodes s.list own there (next_claim m.reading m.params p own) refl

  pub pause_is : (after : NodeValue) (b : Bool) → after ≡ with_state first (with_flag first.state b) → Happens m p (Pause p b) first s after s
  pause_is after b a now mediator nodes there =
      let w : World = record { log = s.list; now = now; mediator = mediator; nodes = nodes } in
      ap (λ (x : NodeValue). record { log = s.list; now = now; mediator = mediator; nodes = set_at nodes p (state_over s.list x) }) a
      ∙ sym (ap (λ (o : Option NodeState). at_node w o (λ node. with_node w p (with_flag node b))) there)

  pub inbox_paused : (after : NodeValue) (b : Bool) → after ≡ with_state first (with_flag first.state b) → HasInbox (inbox_over s.list after) after
  inbox_paused after b a =
      subst (λ (x : NodeValue). HasInbox (inbox_over s.list x) x) (sym a) (flagged_one (inbox_over s.list first) first inbox_is b)

-- where there is no such participant nothing happens
pub nobody : (m : Machine) (w : World) (p : ParticipantId) (action : NodeMove) → slice_get w.nodes p ≡ None → w ≡ happens m w (event_at action p)
nobody m w p move.Read e =
    sym (ap (λ (o : Option NodeState). at_node w o (λ node. node_reads m w p node (slice_get w.log (length node.items)))) e)
nobody m w p move.Validate e =
    sym (ap (λ (o : Option NodeState). at_node w o (λ node. validates m w p node (next_claim m.reading m.params p node))) e)
nobody m w p move.Reply e = sym (ap (λ (o : Option NodeState). at_node w o (λ node. replies m w p node (outbox_head m.params node))) e)
nobody m w p move.LoseReply e = sym (ap (λ (o : Option NodeState). at_node w o (λ node. loses_reply w p node (outbox_head m.params node))) e)
nobody m w p (move.Pause b) e = sym (ap (λ (o : Option NodeState). at_node w o (λ node. with_node w p (with_flag node b))) e)
