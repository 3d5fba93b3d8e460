use Rattle.std.proofs.Common.{◌≡◌, ◌++◌, drop, string_bytes}
use Rattle.ledger_terms.specs.Grown.{forest_of, node_count}
use Rattle.report_text.specs.Actions.{tree_lines}
use Rattle.report_text.proofs.actions.+put_trees.Given as goal

abbrev pub invariant-loop-node : goal.invariant-loop-node
invariant-loop-node l =
    string_bytes l.out ++ tree_lines l.level (forest_of (drop l.node-index l.node-items)) ≡ string_bytes l.fn.out ++ tree_lines l.level l.trees

abbrev pub decreases-put_trees : goal.decreases-put_trees
decreases-put_trees l = node_count l.trees.now
