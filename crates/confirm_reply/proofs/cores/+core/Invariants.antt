use Rattle.std.proofs.Common.{◌++◌, ◌+◌, ◌*◌, [], ◌∷◌}
use Rattle.ledger_terms.specs.Forest.{join}
use Rattle.view_split.specs.CoreLists.{children_of, core_weight}
use Rattle.view_split.specs.Numbered.{core_in, held_in}
use Rattle.confirm_reply.specs.Numbers.{numbered_trees, numbers_of}
use Rattle.confirm_reply.proofs.CoreSteps.{Keeps}
use Rattle.confirm_reply.proofs.cores.+core.Given as goal

abbrev pub decreases-put_core : goal.decreases-put_core
decreases-put_core l = 2 * core_weight l.children.now + 1

abbrev pub decreases-put_child : goal.decreases-put_child
decreases-put_child l = 2 * core_weight (children_of (l.child.now ∷ []))

abbrev pub invariant-put_core-loop-at : goal.invariant-put_core-loop-at
invariant-put_core-loop-at l =
    Keeps l.items l.trees l.at l.core.items (l.fn.core.items ++ numbers_of (core_in l.children (numbered_trees l.trees))) (numbered_trees l.held.items)
    (join (numbered_trees l.fn.held.items) (held_in l.children (numbered_trees l.trees)))
