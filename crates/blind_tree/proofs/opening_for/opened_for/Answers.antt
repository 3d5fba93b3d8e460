use Rattle.blind_tree.proofs.Fitting.{narrow_tree}
use Rattle.blind_tree.proofs.TreeLaws.{spellable_tree}
use Rattle.blind_tree.proofs.opening_for.opened_for.Goals as goal

pub verify-requires : goal.verify-requires
verify-requires c = narrow_tree c.in-Ok.tree (spellable_tree c.in-Ok.tree c.in-Ok.ensures.found.0)

pub open_tree-requires : goal.open_tree-requires
open_tree-requires c = narrow_tree c.in-Ok.tree (spellable_tree c.in-Ok.tree c.in-Ok.ensures.found.0)
