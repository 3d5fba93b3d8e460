use Rattle.std.proofs.Common.{◌≡◌, ◌≤◌, drop, length}
use Rattle.canton_model.specs.Timeline.{verdict_on}
use Rattle.canton_model.specs.Inbox.{moments}
use Rattle.node_inbox.specs.Items.{model_items}
use Rattle.node_inbox.proofs.decision.decision_among.Given as goal

abbrev pub invariant-items : goal.invariant-items
invariant-items l =
    (l.k ≤ length l.items.items)
    × (verdict_on l.request (moments (model_items (drop l.k l.items.items))) ≡ verdict_on l.request (moments (model_items (drop l.start l.items.items))))
