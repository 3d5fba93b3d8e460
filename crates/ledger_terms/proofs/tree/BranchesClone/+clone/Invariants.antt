use Rattle.std.proofs.Common.{◌≡◌, drop}
use Rattle.ledger_terms.specs.Forest.{join}
use Rattle.ledger_terms.specs.Grown.{forest_of, node_count}
use Rattle.ledger_terms.proofs.tree.BranchesClone.+clone.Given as goal

abbrev pub invariant-loop-tree : goal.invariant-loop-tree
invariant-loop-tree g l = join l.copy (forest_of (drop l.tree-index l.tree-items)) ≡ l.self

abbrev pub decreases-clone : goal.decreases-clone
decreases-clone g l = node_count l.self.now
