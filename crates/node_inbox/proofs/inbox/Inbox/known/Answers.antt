use Rattle.std.proofs.Common.{ap, ◌∙◌}
use Rattle.contract_store.specs.Active.{knowns}
use Rattle.inbox_registry.proofs.Offered.{offered_is_active}
use Rattle.framed_form.specs.FramedReading.{framed_reading}
use Rattle.node_inbox.specs.Items.{model_items}
use Rattle.node_inbox.proofs.inbox.Inbox.known.Goals as goal

pub returns-then-self : goal.returns-then-self
returns-then-self c =
    let i = c.self.inside in
    let reading = framed_reading i.setup.now.topology i.setup.now.checked in
    let items = model_items i.items.items in
    let are = c.self.invariant.2 c.if-self.true in
    let active =
    offered_is_active reading i.me i.base i.registry.start items c.self.invariant.0.order c.self.invariant.5.stands are.once are.none_gone c.self.invariant.5.within in
    rw (← c.self.view_is) ((rw (← c.self.view_is) at c.hosted_contracts-stored.ensures) ∙ ap knowns active)
