use Rattle.std.proofs.Common.{◌≡◌, ◌+◌, drop}
use Rattle.ledger_terms.specs.Forest.{join, number_from, size}
use Rattle.ledger_terms.specs.Grown.{forest_of}
use Rattle.confirm_reply.specs.Numbers.{numbered_trees}
use Rattle.confirm_reply.proofs.numbering.number_into.Given as goal

abbrev pub invariant-loop-node : goal.invariant-loop-node
invariant-loop-node l =
    (l.next + size (forest_of (drop l.node-index l.node-items)) ≡ l.first + size l.trees)
    × (join (numbered_trees l.out.items) (number_from l.next (forest_of (drop l.node-index l.node-items))) ≡ join (numbered_trees l.fn.out.items) (number_from l.first l.trees))
