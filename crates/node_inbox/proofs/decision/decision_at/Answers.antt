use Rattle.std.proofs.Common.{◌∙◌, List, ap}
use Rattle.canton_model.specs.Timeline.{verdict_on}
use Rattle.canton_model.specs.Inbox.{moments}
use Rattle.node_inbox.specs.Items.{model_items}
use Rattle.node_inbox.specs.declared.kept_item.KeptItem.{KeptItem}
use Rattle.node_inbox.proofs.FirstVerdict.{told_from}
use Rattle.node_inbox.proofs.decision.decision_at.Goals as goal

pub returns : goal.returns
returns c =
    c.decision_among.ensures
    ∙ (ap (λ (items : List KeptItem). verdict_on c.args.place (moments (model_items items))) c.start_of.ensures.rest
    ∙ told_from c.args.place c.args.items.now.items c.requires.behind)
