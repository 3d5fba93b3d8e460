use Rattle.blind_tree.proofs.Fitting.{narrow_tree}
use Rattle.blind_tree.proofs.TreeLaws.{spellable_tree}
use Rattle.blind_tree.proofs.opening_for.opened_beside.Goals as goal

pub verify_beside-requires-clause-narrow : goal.verify_beside-requires-clause-narrow
verify_beside-requires-clause-narrow c = narrow_tree c.in-Ok.tree (spellable_tree c.in-Ok.tree c.in-Ok.ensures.found.0)

pub open_tree-requires : goal.open_tree-requires
open_tree-requires c = narrow_tree c.in-Ok.tree (spellable_tree c.in-Ok.tree c.in-Ok.ensures.found.0)
