use Rattle.std.proofs.Common.{◌∙◌, ap}
use Rattle.node_inbox.specs.Items.{model_items}
use Rattle.node_inbox.specs.Places.{parts_at}
use Rattle.node_inbox.proofs.KeptAnswers.{not_behind_are}
use Rattle.node_inbox.proofs.applied.applied.Goals as goal

pub places-init : goal.places-init
places-init c =
    let are =
    not_behind_are c.args.setup.now.topology.params (model_items c.args.items.now.items) c.args.approved.now c.new-none.result c.args.end c.requires.approved
    c.new-none.ensures.below c.new-none.ensures.places c.not_behind-known.result.now c.not_behind-known.ensures in
    (are.1, c.in_ok-commits.ensures ∙ (ap (parts_at (model_items c.args.items.now.items)) c.as_slice.ensures ∙ are.0))
