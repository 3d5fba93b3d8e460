use Rattle.std.proofs.Common.{◌≡◌, ◌++◌, drop}
use Rattle.ledger_terms.specs.Grown.{forest_of, node_count}
use Rattle.ledger_model.specs.Forest.{trees_of}
use Rattle.confirm_reply.specs.Nodes.{trees_in}
use Rattle.confirm_reply.proofs.opened.+gather.Given as goal

abbrev pub invariant-loop-node : goal.invariant-loop-node
invariant-loop-node l = trees_in l.nodes.items ++ trees_of (forest_of (drop l.node-index l.node-items)) ≡ trees_in l.fn.nodes.items ++ trees_of l.trees

abbrev pub decreases-gather : goal.decreases-gather
decreases-gather l = node_count l.trees.now
