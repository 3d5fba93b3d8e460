use Rattle.std.proofs.Common.{◌↔◌, ◌+◌, ◌*◌, ◌≤◌, [], ◌∷◌, drop}
use Rattle.view_split.specs.CoreLists.{children_of, core_weight}
use Rattle.blind_tree.specs.Cores.{levels}
use Rattle.blind_tree.proofs.spellable.+nested.Given as goal

abbrev pub decreases-is_nested : goal.decreases-is_nested
decreases-is_nested l = 2 * core_weight l.children.now + 1

abbrev pub decreases-is_nested_child : goal.decreases-is_nested_child
decreases-is_nested_child l = 2 * core_weight (children_of (l.child.now ∷ []))

-- all are nested so where those that are left are
abbrev pub invariant-is_nested-loop-child : goal.invariant-is_nested-loop-child
invariant-is_nested-loop-child l = (levels (children_of (drop l.child-index l.child-items)) ≤ l.most) ↔ (levels l.children ≤ l.most)
