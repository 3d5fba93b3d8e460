use Rattle.std.proofs.Common.{◌≡◌, ◌≤◌, ◌+◌, drop, length}
use Rattle.node_inbox.specs.Decisions.{decided_from}
use Rattle.node_inbox.specs.Items.{model_items}
use Rattle.node_inbox.proofs.decided_since.decided_among.Given as goal

abbrev pub invariant-items : goal.invariant-items
invariant-items l =
    (l.k ≤ length l.items.items)
    × (decided_from (l.time + l.params.response_timeout + l.params.reaction_timeout) l.place l.k (model_items (drop l.k l.items.items))
    ≡ decided_from (l.time + l.params.response_timeout + l.params.reaction_timeout) l.place l.start (model_items (drop l.start l.items.items)))
