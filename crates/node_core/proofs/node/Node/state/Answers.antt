use Rattle.std.proofs.Common.{sym, ap, ◌∙◌, map, subst}
use Rattle.node_inbox.specs.Raw.{AreCame, item_by}
use Rattle.node_core.specs.Participant.{Participant}
use Rattle.node_core.specs.States.{IsStateOf}
use Rattle.node_core.proofs.NodeStates.{state_is}
use Rattle.node_core.proofs.node.Node.state.Goals as goal

pub returns : goal.returns
returns c =
    let i = c.self.inside.inbox in
    let inv = c.self.invariant in
    let beginning = c.in_ok-beginning.beginning in
    let begun = c.in_ok-beginning.ensures in
    let items = c.in_ok-items.ensures in
    let parts = c.state_with.ensures in
    let mine = sym c.self.view_is in
    subst (λ (p : Participant). IsStateOf p c.state_with.result) c.self.view_is
    (state_is i c.self.inside.is_paused c.self.inside.duties inv.1 c.state_with.result
    (parts.me ∙ ap (λ (p : Participant). p.me) mine) (parts.paused ∙ ap (λ (p : Participant). (p.state).is_paused) mine)
    (parts.outbox ∙ c.in_ok-outbox.ensures) beginning.base (parts.done ∙ c.in_ok-done.ensures)
    begun.base (parts.base ∙ begun.base) (parts.base_time ∙ begun.base_time)
    (parts.start ∙ (λ k. record { active = begun.active k; gone = begun.gone k }))
    (ap (map (item_by i.topology)) parts.items ∙ items.items)
    (subst (AreCame i.topology i.packages i.me i.base i.items) (sym parts.items) items.came))
