use Rattle.std.proofs.Common.{◌+◌, ◌*◌}
use Rattle.ledger_terms.specs.Forest.{join}
use Rattle.ledger_terms.specs.Grown.{tree_of, node_count}
use Rattle.view_split.specs.Split.{assembled}
use Rattle.view_split.proofs.Moved.{MovesViews}
use Rattle.view_split.proofs.moving.+into_assembled.Given as goal

abbrev pub invariant-move_views-views : goal.invariant-move_views-views
invariant-move_views-views l = MovesViews l.view-iterator.rest.items l.out (join l.fn.out (assembled l.fn.views)) l.fn.views

abbrev pub decreases-move_views : goal.decreases-move_views
decreases-move_views l = 2 * node_count l.views + 1

abbrev pub decreases-into_assembled : goal.decreases-into_assembled
decreases-into_assembled l = 2 * node_count (tree_of l.view)
