use Rattle.std.proofs.Common.{◌↔◌, ◌+◌, ◌*◌, [], ◌∷◌, drop}
use Rattle.view_split.specs.CoreLists.{children_of, core_weight}
use Rattle.blind_tree.specs.Cores.{AreSpellableChildren}
use Rattle.blind_tree.specs.ShownViews.{AreChildren}
use Rattle.blind_tree.proofs.Fitting.{AllChildren}
use Rattle.blind_tree.proofs.Ranged.{ChildrenInRange}
use Rattle.blind_tree.proofs.spellable.+cores.Given as goal

abbrev pub decreases-is_core : goal.decreases-is_core
decreases-is_core l = 3 * core_weight l.children.now + 3

abbrev pub decreases-are_children : goal.decreases-are_children
decreases-are_children l = 3 * core_weight l.children.now + 2

abbrev pub decreases-is_child : goal.decreases-is_child
decreases-is_child l = 3 * core_weight (children_of (l.child.now ∷ [])) + 1

-- all fit where those that are left do
abbrev pub invariant-are_children-loop-child : goal.invariant-are_children-loop-child
invariant-are_children-loop-child l =
    (AllChildren (drop l.child-index l.child-items) ↔ AreSpellableChildren l.children) × (ChildrenInRange (drop l.child-index l.child-items) → AreChildren l.children)
