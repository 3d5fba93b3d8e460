use Rattle.std.proofs.Common.{◌≡◌, ◌+◌, ◌*◌, drop}
use Rattle.ledger_terms.specs.Forest.{join}
use Rattle.view_split.specs.Split.{assembled}
use Rattle.ledger_terms.specs.Grown.{forest_of, tree_of, node_count}
use Rattle.view_split.proofs.assembling.+assemble.Given as goal

abbrev pub invariant-assemble_into-loop-view : goal.invariant-assemble_into-loop-view
invariant-assemble_into-loop-view l =
    join l.out (assembled (forest_of (drop l.view-index l.view-items))) ≡ join l.fn.out (assembled l.views)

abbrev pub decreases-assemble_into : goal.decreases-assemble_into
decreases-assemble_into l = 2 * node_count l.views.now + 1

abbrev pub decreases-assemble : goal.decreases-assemble
decreases-assemble l = 2 * node_count (tree_of l.view.now)
