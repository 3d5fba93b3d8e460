use Rattle.std.proofs.Common.{◌++◌, ◌+◌, ◌*◌}
use Rattle.std.specs.Prelude.{option_copied}
use Rattle.ledger_terms.specs.Grown.{node_count, tree_of}
use Rattle.confirm_reply.specs.Located.{starts_among}
use Rattle.confirm_reply.specs.Numbers.{numbered_trees}
use Rattle.confirm_reply.proofs.StartSteps.{Keeps}
use Rattle.confirm_reply.proofs.starts.+starts.Given as goal

abbrev pub decreases-starts_below : goal.decreases-starts_below
decreases-starts_below l = 2 * node_count (tree_of l.view.now)

abbrev pub decreases-starts_among : goal.decreases-starts_among
decreases-starts_among l = 2 * node_count l.views.now + 1

abbrev pub invariant-starts_among-loop-at : goal.invariant-starts_among-loop-at
invariant-starts_among-loop-at l =
    Keeps (option_copied l.left) l.items l.trees l.at l.starts.items
    (l.fn.starts.items ++ starts_among (option_copied l.left) 0 l.views (numbered_trees l.trees))
