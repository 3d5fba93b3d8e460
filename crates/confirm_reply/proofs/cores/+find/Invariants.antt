use Rattle.std.proofs.Common.{◌+◌, ◌*◌}
use Rattle.std.specs.Prelude.{option_copied}
use Rattle.ledger_terms.specs.Grown.{node_count, tree_of}
use Rattle.confirm_reply.specs.Located.{view_found}
use Rattle.confirm_reply.specs.Numbers.{numbered_trees}
use Rattle.confirm_reply.proofs.FindSteps.{Keeps}
use Rattle.confirm_reply.proofs.cores.+find.Given as goal

abbrev pub decreases-found_of_view : goal.decreases-found_of_view
decreases-found_of_view l = 2 * node_count (tree_of l.view.now)

abbrev pub decreases-found_among : goal.decreases-found_among
decreases-found_among l = 2 * node_count l.views.now + 1

abbrev pub invariant-found_among-loop-at : goal.invariant-found_among-loop-at
invariant-found_among-loop-at l = Keeps (option_copied l.left) l.items l.trees l.at (view_found (option_copied l.left) 0 l.views (numbered_trees l.trees))
