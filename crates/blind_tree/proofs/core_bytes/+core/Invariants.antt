use Rattle.std.proofs.Common.{◌≡◌, ◌++◌, ◌+◌, ◌*◌, [], ◌∷◌, drop}
use Rattle.view_split.specs.CoreLists.{children_of, core_weight}
use Rattle.blind_tree.specs.Cores.{AreSpellableChildren, spell_children}
use Rattle.blind_tree.proofs.core_bytes.+core.Given as goal

abbrev pub decreases-encode_core : goal.decreases-encode_core
decreases-encode_core l = 3 * core_weight l.children.now + 3

abbrev pub decreases-encode_children : goal.decreases-encode_children
decreases-encode_children l = 3 * core_weight l.children.now + 2

abbrev pub decreases-encode_child : goal.decreases-encode_child
decreases-encode_child l = 3 * core_weight (children_of (l.child.now ∷ [])) + 1

-- what was written, and what is left, is the whole
abbrev pub invariant-encode_children-loop-child : goal.invariant-encode_children-loop-child
invariant-encode_children-loop-child l =
    AreSpellableChildren (children_of (drop l.child-index l.child-items))
    × (l.out ++ spell_children (children_of (drop l.child-index l.child-items)) ≡ l.fn.out ++ spell_children l.children)
