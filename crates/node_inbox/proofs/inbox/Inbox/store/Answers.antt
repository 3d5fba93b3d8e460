use Rattle.framed_form.specs.FramedReading.{framed_reading}
use Rattle.inbox_registry.proofs.Told.{locked_now, status_now}
use Rattle.node_inbox.specs.Items.{model_items}
use Rattle.node_inbox.proofs.inbox.Inbox.store.Goals as goal

pub returns-clause-status : goal.returns-clause-status
returns-clause-status c =
    let i = c.self.inside in
    let v = c.self.invariant.0 in
    rw (c.store.ensures, ← c.self.view_is) (λ h.
    status_now (framed_reading i.setup.now.topology i.setup.now.checked) (model_items i.items.items) i.registry.start i.registry.store.rows h v.order v.follows.rows)

pub returns-clause-locked : goal.returns-clause-locked
returns-clause-locked c =
    let i = c.self.inside in
    let v = c.self.invariant.0 in
    rw (c.store.ensures, ← c.self.view_is) (λ h.
    locked_now (framed_reading i.setup.now.topology i.setup.now.checked) (model_items i.items.items) i.setup.now.topology.params i.registry.store.holds h v.follows.holds)
