use Rattle.std.proofs.Common.{◌∙◌, ap, filter}
use Rattle.node_inbox.specs.Items.{model_items}
use Rattle.node_inbox.specs.Places.{is_kept_from_at}
use Rattle.node_inbox.proofs.KeptAnswers.{not_behind_places}
use Rattle.node_inbox.proofs.WithheldPlaces.{withheld_among}
use Rattle.node_inbox.proofs.withheld.withheld.Goals as goal

pub places-init : goal.places-init
places-init c =
    let params = c.args.setup.now.topology.params in
    let items = model_items c.args.items.now.items in
    let known = c.not_behind-known.result.now in
    let are =
    not_behind_places params items c.args.approved.now c.new-none.result c.args.end c.requires.approved
    c.new-none.ensures.below c.new-none.ensures.places known c.not_behind-known.ensures in
    (are.1, c.in_ok-places.ensures ∙ (ap (filter (is_kept_from_at items)) (c.as_slice.ensures ∙ are.0) ∙ withheld_among params items known.below))
