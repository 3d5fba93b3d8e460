use Rattle.std.proofs.Common.{◌≡◌, refl, sym, ap, ◌∙◌, subst}
use Rattle.node_core.specs.Participant.{Participant}
use Rattle.node_core.specs.States.{MayBegin, begun_again, read_nothing}
use Rattle.node_core.proofs.node.Node.from_state.Goals as goal

pub take_up-requires-clause-begun : goal.take_up-requires-clause-begun
take_up-requires-clause-begun c =
    let state = c.args.state.now in
    subst (λ (q : Participant). q ≡ read_nothing q.topology q.packages state) (sym c.in_ok-node.ensures) refl

pub take_up-requires-clause-may : goal.take_up-requires-clause-may
take_up-requires-clause-may c =
    let state = c.args.state.now in
    subst (λ (q : Participant). MayBegin q.topology q.packages state) (sym c.in_ok-node.ensures) c.requires

pub returns : goal.returns
returns c =
    let state = c.args.state.now in
    c.in_ok-take_up.ensures ∙ ap (λ (q : Participant). begun_again q.topology q.packages state) c.in_ok-node.ensures
