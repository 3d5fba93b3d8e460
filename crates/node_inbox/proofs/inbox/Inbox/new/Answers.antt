use Rattle.std.proofs.Common.{◌≡◌, [], subst, sym, ap}
use Rattle.framed_form.specs.FramedReading.{framed_reading}
use Rattle.pruned_inbox.specs.Start.{Start, no_start}
use Rattle.node_inbox.specs.Items.{model_items}
use Rattle.node_inbox.specs.Kept.{BeginsAt}
use Rattle.node_inbox.specs.Offered.{AreOnce}
use Rattle.node_inbox.proofs.Begins.{begins_begun, begins_new, is_begun, once_begun, state_begun}
use Rattle.node_inbox.proofs.Places.{none_approved}
use Rattle.node_inbox.proofs.inbox.Inbox.new.Goals as goal

pub invariant_of-result : goal.invariant_of-result
invariant_of-result c =
    let topology = c.args.setup.now.topology in
    let packages = c.args.setup.now.checked in
    let reading = framed_reading topology packages in
    let items = c.at-items.result.items in
    let same : model_items items ≡ [] = ap model_items c.at-items.ensures in
    let stands = c.new-registry.result in
    let s = c.new-registry.ensures in (
      is_begun topology packages c.args.me 0 0 no_start items stands begins_new same s.start s.rows s.holds s.pairs s.cursor,
      rw (c.new-hosted.ensures.ids, s.rows) (c.ids_tell_after_each_change.ensures.begun reading c.args.me),
      λ e. subst (λ (start : Start). AreOnce reading start (model_items items)) (sym s.start)
          (subst (AreOnce reading no_start) (sym same) (once_begun reading no_start 0 0 begins_new)),
      none_approved topology.params (model_items items) c.new-approved.result c.new-approved.ensures.below c.new-approved.ensures.places,
      tt,
      subst (λ (start : Start). BeginsAt 0 start (model_items items)) (sym s.start)
          (subst (BeginsAt 0 no_start) (sym same) (begins_begun reading no_start 0 0 begins_new)),
    )

pub returns : goal.returns
returns c =
    state_begun c.args.setup.now.topology c.args.setup.now.checked c.args.me 0 0 no_start c.new-registry.result.start
    (model_items c.at-items.result.items) c.new-registry.ensures.start (ap model_items c.at-items.ensures)
