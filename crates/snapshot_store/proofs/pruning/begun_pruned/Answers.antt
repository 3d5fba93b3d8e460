use Rattle.std.proofs.Common.{◌≡◌, IfOk, List, subst}
use Rattle.canton_model.specs.Inbox.{Item}
use Rattle.node_state.specs.declared.node_state.NodeState.{NodeState as State}
use Rattle.pruned_inbox.specs.Base as base_specs
use Rattle.pruned_inbox.specs.Start.{GoesOn}
use Rattle.node_core.specs.Participant.{IsPrunedTo, Participant, items_of, params_of, pruned_at, reading_of}
use Rattle.node_core.specs.States.{IsStateOf, start_in}
use Rattle.snapshot_store.proofs.pruning.begun_pruned.Goals as goal

pub returns-clause-base : goal.returns-clause-base
returns-clause-base c =
    subst (λ (p : Participant). IfOk c.pruned_state.result (λ (pruned : State). pruned.base ≡ base_specs.base (params_of p) (items_of p)))
    c.in_ok-node.ensures c.pruned_state.ensures.base

pub returns-clause-start : goal.returns-clause-start
returns-clause-start c =
    subst
    (λ (p : Participant). IfOk c.pruned_state.result (λ (pruned : State). GoesOn (reading_of p) (items_of p) pruned.base p.start (start_in pruned)))
    c.in_ok-node.ensures c.pruned_state.ensures.start

pub returns-clause-state : goal.returns-clause-state
returns-clause-state c =
    subst
    (λ (p : Participant). IfOk c.pruned_state.result
    (λ (pruned : State). (whole : List Item) → IsPrunedTo whole p → IsStateOf (pruned_at pruned.base (start_in pruned) p) pruned))
    c.in_ok-node.ensures c.pruned_state.ensures.state
