use Rattle.std.proofs.Common.{◌≡◌, length, subst, sym, arith}
use Rattle.framed_form.specs.FramedReading.{framed_reading}
use Rattle.node_inbox.specs.Items.{model_items}
use Rattle.node_inbox.specs.KeptActive.{AreFresh}
use Rattle.node_inbox.proofs.KeptAnswers.{end_fresh}
use Rattle.node_inbox.proofs.inbox.Inbox.move_on.Goals as goal

pub invariant_of-self : goal.invariant_of-self
invariant_of-self c =
    let i = c.self.inside in
    let items = model_items i.items.items in
    let reading = framed_reading i.setup.now.topology i.setup.now.checked in
    let place : c.cursor-place.result ≡ length items = rw (← c.self.view_is) at c.cursor-place.ensures in (
      c.self.invariant.0,
      c.self.invariant.1,
      c.self.invariant.2,
      c.self.invariant.3,
      record {
        within = omega (arith, place);
        rows = rw (← c.self.view_is) at c.in_ok-rows.ensures;
        fresh = subst (AreFresh reading i.registry.start items) (sym place) (end_fresh reading i.registry.start items c.self.invariant.0.order);
      },
      c.self.invariant.5,
    )
