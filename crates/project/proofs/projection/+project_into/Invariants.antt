use Rattle.std.proofs.Common.{◌≡◌, drop}
use Rattle.ledger_terms.specs.Grown.{forest_of, node_count}
use Rattle.ledger_terms.specs.Forest.{join}
use Rattle.project.specs.Informed.{projection}
use Rattle.project.proofs.projection.+project_into.Given as goal

abbrev pub invariant-loop-node : goal.invariant-loop-node
invariant-loop-node l =
    join l.out (projection l.checked l.parties (forest_of (drop l.node-index l.node-items))) ≡ join l.fn.out (projection l.checked l.parties l.roots)

abbrev pub decreases-project_into : goal.decreases-project_into
decreases-project_into l = node_count l.roots.now
