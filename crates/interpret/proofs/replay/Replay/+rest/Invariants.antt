use Rattle.std.proofs.Common.{◌≡◌, [], drop, ◌+◌, ◌*◌}
use Rattle.ledger_terms.specs.Grown.{forest_of, node_count}
use Rattle.ledger_model.specs.Conformance.{BodyOf}
use Rattle.interpret.specs.Tries.{are_rest}
use Rattle.interpret.proofs.replay.Replay.+rest.Given as goal

abbrev pub invariant-follows-loop-node : goal.invariant-follows-loop-node
invariant-follows-loop-node g l =
    are_rest l.self.checked.now (BodyOf l.call l.wanted) l.seen (forest_of (drop l.node-index l.node-items)) ≡ are_rest l.self.checked.now
    (BodyOf l.call l.wanted) [] l.children

abbrev pub decreases-follows : goal.decreases-follows
decreases-follows g l = 4 * node_count l.children.now

abbrev pub decreases-child_follows : goal.decreases-child_follows
decreases-child_follows g l = 4 * node_count l.node.now.below + 3

abbrev pub decreases-is_tree_possible : goal.decreases-is_tree_possible
decreases-is_tree_possible g l = 4 * node_count l.node.now.below + 2

abbrev pub decreases-rest_below : goal.decreases-rest_below
decreases-rest_below g l = 4 * node_count l.node.now.below + 1
