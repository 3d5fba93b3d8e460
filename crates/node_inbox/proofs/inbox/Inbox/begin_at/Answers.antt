use Rattle.std.proofs.Common.{◌≡◌, List, [], map, subst, sym, ap, ◌∙◌}
use Rattle.canton_model.specs.Inbox.{Item}
use Rattle.contract_store.specs.Written.{written}
use Rattle.framed_form.specs.FramedReading.{framed_reading}
use Rattle.pruned_inbox.specs.Forgotten.{silent_front}
use Rattle.pruned_inbox.specs.Start.{Start}
use Rattle.inbox_registry.specs.Changes.{creation_of}
use Rattle.node_inbox.specs.Beginnings.{start_of}
use Rattle.node_inbox.specs.Items.{model_items}
use Rattle.node_inbox.specs.Kept.{BeginsAt}
use Rattle.node_inbox.specs.Offered.{AreOnce}
use Rattle.node_inbox.proofs.Begins.{begins_begun, is_begun, once_begun, start_same, state_begun}
use Rattle.node_inbox.specs.Places.{AreApproved}
use Rattle.node_inbox.proofs.KeptItems.{silent_models}
use Rattle.node_inbox.proofs.Places.{silent_approved}
use Rattle.node_inbox.proofs.inbox.Inbox.begin_at.Goals as goal

pub invariant_of-result : goal.invariant_of-result
invariant_of-result c =
    let topology = c.args.setup.now.topology in
    let packages = c.args.setup.now.checked in
    let reading = framed_reading topology packages in
    let b = c.args.beginning.base in
    let t = c.args.beginning.base_time in
    let start = start_of c.args.beginning in
    let items = c.at-items.result.items in
    let same : model_items items ≡ silent_front b t = ap model_items c.at-items.ensures ∙ silent_models b t in
    let stands = c.write_start.new.registry in
    let wrote = c.in_ok-write_start.ensures in
    let at = c.at-registry.ensures in
    let started : c.in_ok-start.start ≡ start = start_same c.in_ok-start.start start c.in_ok-start.ensures.active c.in_ok-start.ensures.gone in
    let from : stands.start ≡ start = wrote.start ∙ (at.start ∙ started) in
    let rows : stands.store.rows ≡ written (map creation_of start.active) [] =
    wrote.rows ∙ ap (λ (s : Start). written (map creation_of s.active) []) (at.start ∙ started) in (
      is_begun topology packages c.args.me b t start items stands c.requires same from rows (wrote.holds ∙ at.holds)
          (ap (λ tracking. tracking.pairs) wrote.tracking ∙ at.pairs) (ap (λ tracking. tracking.cursor) wrote.tracking ∙ at.cursor),
      wrote.told,
      λ e. subst (λ (s : Start). AreOnce reading s (model_items items)) (sym from)
          (subst (AreOnce reading start) (sym same) (once_begun reading start b t c.requires)),
      subst (λ (items : List Item). AreApproved topology.params items c.at-approved.result) (sym same)
          (silent_approved topology.params b t c.at-approved.result c.at-approved.ensures.below c.at-approved.ensures.places),
      tt,
      subst (λ (s : Start). BeginsAt b s (model_items items)) (sym from)
          (subst (BeginsAt b start) (sym same) (begins_begun reading start b t c.requires)),
    )

pub returns : goal.returns
returns c =
    let start = start_of c.args.beginning in
    let started : c.in_ok-start.start ≡ start = start_same c.in_ok-start.start start c.in_ok-start.ensures.active c.in_ok-start.ensures.gone in
    state_begun c.args.setup.now.topology c.args.setup.now.checked c.args.me c.args.beginning.base c.args.beginning.base_time start
    c.write_start.new.registry.start (model_items c.at-items.result.items)
    (c.in_ok-write_start.ensures.start ∙ (c.at-registry.ensures.start ∙ started))
    (ap model_items c.at-items.ensures ∙ silent_models c.args.beginning.base c.args.beginning.base_time)

pub write_start-requires-clause-told : goal.write_start-requires-clause-told
write_start-requires-clause-told c =
    rw (c.new-hosted.ensures.ids, c.at-registry.ensures.rows)
    (c.ids_tell_after_each_change.ensures.begun (framed_reading c.args.setup.now.topology c.args.setup.now.checked) c.args.me)
