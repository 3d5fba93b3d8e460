use Rattle.std.proofs.Common.{length, arith}
use Rattle.node_inbox.specs.InboxState.{params_of}
use Rattle.node_inbox.specs.Items.{model_items}
use Rattle.node_inbox.proofs.NextBase.{best_stops, found_first, found_next}
use Rattle.node_inbox.proofs.inbox.Inbox.next_base.Goals as goal

pub places-init : goal.places-init
places-init c =
    let i = c.self.inside in
    rw (← c.self.view_is) (found_first i.setup.now.topology.params (model_items i.items.items) i.base c.self.invariant.5.stands.silent c.self.invariant.5.within)

pub places-preserved : goal.places-preserved
places-preserved c =
    let i = c.args.self.now in
    let inside = c.places-test.true in
    let end = c.cursor-place-end.ensures in
    found_next (params_of i) i.items c.places.place c.places.since c.places.best c.in-Some.later c.best_at-best.result c.places.invariant
    (omega (arith, inside, end)) (rw (c.in-Some.is) at c.since_with.ensures) c.best_at-best.ensures

pub returns-in-None : goal.returns-in-None
returns-in-None c =
    let i = c.args.self.now in
    let inside = c.places-test.true in
    let end = c.cursor-place-end.ensures in
    best_stops (params_of i) i.items c.places.place c.places.since c.places.best c.best_at-best.result
    (omega (arith, inside, end)) (rw (c.in-None.is) at c.since_with.ensures) c.places.invariant.best_is c.best_at-best.ensures
