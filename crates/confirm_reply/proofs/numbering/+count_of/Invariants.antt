use Rattle.std.proofs.Common.{◌≡◌, ◌+◌, drop}
use Rattle.ledger_terms.specs.Forest.{size}
use Rattle.ledger_terms.specs.Grown.{forest_of, node_count}
use Rattle.confirm_reply.proofs.numbering.+count_of.Given as goal

abbrev pub invariant-loop-node : goal.invariant-loop-node
invariant-loop-node l = l.count + size (forest_of (drop l.node-index l.node-items)) ≡ size l.trees

abbrev pub decreases-count_of : goal.decreases-count_of
decreases-count_of l = node_count l.trees.now
