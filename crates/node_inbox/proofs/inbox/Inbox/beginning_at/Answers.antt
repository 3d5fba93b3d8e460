use Rattle.framed_form.specs.FramedReading.{framed_reading}
use Rattle.node_inbox.specs.Items.{model_items}
use Rattle.node_inbox.proofs.LeftRows.{goes_on}
use Rattle.node_inbox.proofs.Seen.{keep_changes, outcome_at_is}
use Rattle.node_inbox.proofs.inbox.Inbox.beginning_at.Goals as goal

pub rows_below-requires-clause-told : goal.rows_below-requires-clause-told
rows_below-requires-clause-told c =
    outcome_at_is c.self.inside.setup.now.topology c.self.inside.setup.now.checked c.self.inside.me c.self.inside.items.items c.self.inside.registry c.self.invariant.0

pub rows_below-requires-clause-kept : goal.rows_below-requires-clause-kept
rows_below-requires-clause-kept c =
    keep_changes c.self.inside.setup.now.topology c.self.inside.setup.now.checked c.self.inside.me c.self.inside.registry.start c.self.inside.items.items c.self.invariant.0.each

pub returns-clause-start : goal.returns-clause-start
returns-clause-start c =
    let i = c.self.inside in
    let reading = framed_reading i.setup.now.topology i.setup.now.checked in
    let items = model_items i.items.items in
    let live = c.in_ok-live.ensures in
    let active = rw (c.start-start.ensures, live) at c.in_ok-active.ensures in
    let gone = rw (c.gone.ensures.ids, c.start-start.ensures, live) at c.in_ok-gone.ensures in
    let rising = rw (c.start-start.ensures) at c.gone.ensures.ascend in
    rw (← c.self.view_is)
    (goes_on reading i.registry.start items c.args.place (i.base, c.self.invariant.5) (record { active = c.in_ok-active.active; gone = c.in_ok-gone.gone })
    active gone rising)
