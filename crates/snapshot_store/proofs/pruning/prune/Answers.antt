use Rattle.std.proofs.Common.{List, sym, ◌∙◌, subst}
use Rattle.canton_model.specs.Inbox.{inbox}
use Rattle.canton_model.specs.declared.response.Response.{Response}
use Rattle.node_core.specs.Participant.{pruned_at, reading_of}
use Rattle.node_core.specs.States.{IsStateOf, owner_of, start_in}
use Rattle.snapshot_store.proofs.pruning.prune.Goals as goal

pub begun_pruned-requires : goal.begun_pruned-requires
begun_pruned-requires c = c.lawful_states_may_begin.ensures.begins c.args.setup.now.topology c.args.setup.now.checked c.args.state.now c.requires

pub returns-clause-base : goal.returns-clause-base
returns-clause-base c = c.in_ok-pruned.ensures.base

pub returns-clause-start : goal.returns-clause-start
returns-clause-start c = c.in_ok-pruned.ensures.start

pub returns-clause-state : goal.returns-clause-state
returns-clause-state c =
    let topology = c.args.setup.now.topology in
    let packages = c.args.setup.now.checked in
    let state = c.args.state.now in
    let pruned = c.in_ok-pruned.pruned in
    let is = c.requires in
    let whole = inbox (reading_of (owner_of topology packages state)) state.me is.log in
    let mine = c.lawful_states_may_begin.ensures.same topology packages state whole is.pruned in
    subst (λ (outbox : List Response). IsStateOf (pruned_at pruned.base (start_in pruned) (owner_of topology packages state)) (record pruned { outbox = outbox }))
    (sym (c.in_ok-outbox.ensures ∙ c.as_slice.ensures))
    (c.lawful_states_may_begin.ensures.responses topology packages state pruned is c.in_ok-pruned.ensures.base (c.in_ok-pruned.ensures.state whole mine))

pub returns-clause-lawful : goal.returns-clause-lawful
returns-clause-lawful c =
    let topology = c.args.setup.now.topology in
    let packages = c.args.setup.now.checked in
    let state = c.args.state.now in
    let pruned = c.in_ok-pruned.pruned in
    c.lawful_states_may_begin.ensures.pruned topology packages state (record pruned { outbox = c.in_ok-outbox.outbox }) c.requires
    c.in_ok-pruned.ensures.base c.in_ok-pruned.ensures.start (returns-clause-state c)
