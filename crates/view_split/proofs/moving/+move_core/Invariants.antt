use Rattle.ledger_terms.specs.Forest.{join}
use Rattle.view_split.specs.Holed.{fill, after_holes}
use Rattle.view_split.specs.CoreLists.{core_weight}
use Rattle.view_split.proofs.Moved.{Moves}
use Rattle.view_split.proofs.moving.+move_core.Given as goal

abbrev pub invariant-children : goal.invariant-children
invariant-children l =
    Moves l.child-iterator.rest.items l.out l.trees (join l.fn.out (fill l.fn.core l.fn.trees)) (after_holes l.fn.core l.fn.trees) l.fn.core

abbrev pub decreases-move_core : goal.decreases-move_core
decreases-move_core l = core_weight l.core
