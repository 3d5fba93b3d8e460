-- What participants have read stays what it is while the log goes on.
use Rattle.std.proofs.Common.{◌≡◌, suc, List, [], ◌∷◌, map, Some, refl, sym, ap, ◌∙◌, subst}
use Rattle.std.specs.Prelude.{slice_get}
use Rattle.ledger_model.specs.Terms.{ParticipantId}
use Rattle.world_model.specs.Messages.{Entry}
use Rattle.world_model.specs.Node.{NodeState}
use Rattle.seq_log.specs.Sequenced.{Sequenced}
use Rattle.node_core.specs.OverLog.{HasInbox, inbox_over, state_over}
use Rattle.node_core.specs.Participant.{Participant as NodeValue, whole_state}
use Rattle.node_core.proofs.OverLog.{over_more, within_log}
use Rattle.world_play.specs.Parts.{GoesOn}

module _ (a b : Sequenced) (on : GoesOn a b) where
  pub inbox_more : (node : NodeValue) → HasInbox (inbox_over a.list node) node → inbox_over b.list node ≡ inbox_over a.list node
  inbox_more node i =
      ap (λ (log : List Entry). inbox_over log node) on.is_more ∙ over_more a.list on.more node (within_log a.list node i)

  pub has_inbox_more : (node : NodeValue) → HasInbox (inbox_over a.list node) node → HasInbox (inbox_over b.list node) node
  has_inbox_more node i = subst (λ whole. HasInbox whole node) (sym (inbox_more node i)) i

  pub state_more : (node : NodeValue) → HasInbox (inbox_over a.list node) node → state_over b.list node ≡ state_over a.list node
  state_more node i = ap (whole_state node) (inbox_more node i)

  pub states_more : (nodes : List NodeValue)
      → ((p : ParticipantId) (node : NodeValue) → slice_get nodes p ≡ Some node → HasInbox (inbox_over a.list node) node)
      → map (state_over b.list) nodes ≡ map (state_over a.list) nodes
  states_more [] h = refl
  states_more (node ∷ rest) h =
      ap (λ (state : NodeState). state ∷ map (state_over b.list) rest) (state_more node (h 0 node refl))
      ∙ ap (λ (states : List NodeState). state_over a.list node ∷ states) (states_more rest (λ p x there. h (suc p) x there))
