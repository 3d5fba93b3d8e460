use Rattle.std.proofs.Common.{◌≡◌, List, Some, length, sym, ap, ◌∙◌, subst, arith}
use Rattle.std.specs.Prelude.{slice_get}
use Rattle.framed_form.proofs.Lawful.{are_framed}
use Rattle.framed_form.proofs.NoCollision.{no_collision}
use Rattle.world_model.proofs.HeadlineFacts.{headline}
use Rattle.world_play.specs.declared.event.Event.{Event}
use Rattle.world_play.specs.Events.{CanHappen, events_of}
use Rattle.world_model.specs.World as w
use Rattle.world_model.specs.Mediator.{new_mediator}
use Rattle.node_core.specs.Machines.{machine_of, offered_in}
use Rattle.world_play.proofs.Passing.{item_at}
use Rattle.world_play.proofs.OwnRequests.{asked_of_events}
use Rattle.world_play.proofs.Plays.{each_of, played_all, played_lawful, played_on, played_starts, within}
use Rattle.world_play.proofs.playing.play.Goals as goal

pub happen-requires-clause-now : goal.happen-requires-clause-now
happen-requires-clause-now g c =
    let t = c.args.setup.now.topology in
    let p = c.args.setup.now.checked in
    let m = machine_of t p c.args.capacity in
    let k = c.events.event-index in
    let e = c.event-item.result in
    let at =
    subst (λ (xs : List Event). slice_get xs k ≡ Some e) c.as_slice-event-items.ensures
    (item_at c.as_slice-event-items.result.now k e c.events-test.true ∙ ap Some (sym c.event-item.is)) in
    within m c.args.events.now k e at c.events.world c.events.invariant.1 c.requires.time

pub happen-requires-clause-lawful : goal.happen-requires-clause-lawful
happen-requires-clause-lawful g c =
    let t = c.args.setup.now.topology in
    let p = c.args.setup.now.checked in
    let m = machine_of t p c.args.capacity in (
      m,
      c.events.invariant.1.state,
      c.events.invariant.1.is,
      played_lawful m c.args.events.now c.events.invariant.0 c.events.event-index c.events.world c.events.invariant.1,
    )

pub happen-requires-clause-within : goal.happen-requires-clause-within
happen-requires-clause-within g c =
    let t = c.args.setup.now.topology in
    let p = c.args.setup.now.checked in
    let k = c.events.event-index in
    let e = c.event-item.result in
    let at =
    subst (λ (xs : List Event). slice_get xs k ≡ Some e) c.as_slice-event-items.ensures
    (item_at c.as_slice-event-items.result.now k e c.events-test.true ∙ ap Some (sym c.event-item.is)) in
    (t, p, c.events.invariant.2, each_of (CanHappen t p) c.args.events.now k e c.requires.within at)

pub events-preserved : goal.events-preserved
events-preserved g c =
    let t = c.args.setup.now.topology in
    let p = c.args.setup.now.checked in
    let m = machine_of t p c.args.capacity in
    let machine = c.events.invariant.0 in
    let k = c.events.event-index in
    let e = c.event-item.result in
    let inv = c.events.invariant.1 in
    let at =
    subst (λ (xs : List Event). slice_get xs k ≡ Some e) c.as_slice-event-items.ensures
    (item_at c.as_slice-event-items.result.now k e c.events-test.true ∙ ap Some (sym c.event-item.is)) in (
      machine,
      played_on m c.args.events.now k e at c.events.world c.happen.new.world inv c.in_ok-happen.ensures.now
          (c.in_ok-happen.ensures.ok m inv.state inv.is (played_lawful m c.args.events.now machine k c.events.world inv)),
      c.in_ok-happen.ensures.set_up t p c.events.invariant.2,
    )

pub returns-clause-headline : goal.returns-clause-headline
returns-clause-headline g c =
    let t = c.args.setup.now.topology in
    let p = c.args.setup.now.checked in
    let m = machine_of t p c.args.capacity in
    let machine = c.events.invariant.0 in
    headline m.reading m.params (c.events.world.sequencer).list machine.is_reading
    (played_lawful m c.args.events.now machine c.events.event-index c.events.world c.events.invariant.1).genuine

pub returns-clause-one_ledger : goal.returns-clause-one_ledger
returns-clause-one_ledger g c = λ apart.
    let t = c.args.setup.now.topology in
    let p = c.args.setup.now.checked in
    let m = machine_of t p c.args.capacity in
    let machine = c.events.invariant.0 in
    let list = (c.events.world.sequencer).list in
    let genuine = (played_lawful m c.args.events.now machine c.events.event-index c.events.world c.events.invariant.1).genuine in
    (headline m.reading m.params list machine.is_reading genuine).one_ledger (no_collision t p list (are_framed t p list genuine) apart)

pub returns-clause-own : goal.returns-clause-own
returns-clause-own g c =
    let t = c.args.setup.now.topology in
    let p = c.args.setup.now.checked in
    let m = machine_of t p c.args.capacity in
    let ends = c.events.auto.event-index-end in
    let out = c.events-test.false in
    let same = c.as_slice-event-items.ensures in
    let all =
    played_all m c.args.events.now c.events.event-index c.events.world c.events.invariant.1 (omega (arith, ends, out, ap length same)) in
    asked_of_events t p c.prepared_requests_are_wanted.ensures.given c.args.capacity (events_of c.args.events.now) c.events.invariant.0
    (c.events.world.sequencer).list (ap (λ (x : w.World). x.log) all.2)

pub events-init : goal.events-init
events-init g c =
    let t = c.args.setup.now.topology in
    let p = c.args.setup.now.checked in
    let m = machine_of t p c.args.capacity in
    let made = c.in_ok-world.ensures in (
      c.prepared_requests_make_a_machine.ensures t p c.args.capacity (offered_in t p),
      played_starts m c.args.events.now new_mediator c.in_ok-world.world (ap (λ (x : w.World). x.now) made.new) made.is made.new,
      made.set_up,
    )
