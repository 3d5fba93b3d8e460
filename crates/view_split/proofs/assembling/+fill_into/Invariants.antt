use Rattle.ledger_terms.specs.Forest.{join}
use Rattle.view_split.specs.Holed.{fill, after_holes}
use Rattle.view_split.specs.CoreLists.{core_weight}
use Rattle.view_split.proofs.Filling.{Keeps}
use Rattle.view_split.proofs.assembling.+fill_into.Given as goal

abbrev pub invariant-loop-child : goal.invariant-loop-child
invariant-loop-child l =
    Keeps l.child-items l.child-index l.out l.trees (join l.fn.out (fill l.core l.fn.trees)) (after_holes l.core l.fn.trees)

abbrev pub decreases-fill_into : goal.decreases-fill_into
decreases-fill_into l = core_weight l.core.now
