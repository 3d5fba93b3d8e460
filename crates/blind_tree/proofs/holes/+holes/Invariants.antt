use Rattle.std.proofs.Common.{◌≡◌, ◌≤◌, ◌+◌, ◌-◌, ◌*◌, ◌^◌, [], ◌∷◌, drop}
use Rattle.wire_form.specs.Lengths.{capped}
use Rattle.view_split.specs.Holed.{holes}
use Rattle.view_split.specs.CoreLists.{children_of, core_weight}
use Rattle.blind_tree.proofs.holes.+holes.Given as goal

abbrev pub decreases-hole_count : goal.decreases-hole_count
decreases-hole_count l = 2 * core_weight l.children.now + 1

abbrev pub decreases-child_holes : goal.decreases-child_holes
decreases-child_holes l = 2 * core_weight (children_of (l.child.now ∷ []))

-- those so far and those of what is left are all
abbrev pub invariant-hole_count-loop-child : goal.invariant-hole_count-loop-child
invariant-hole_count-loop-child l =
    (l.count ≤ 2 ^ 64 - 1) × (capped (l.count + holes (children_of (drop l.child-index l.child-items))) ≡ capped (holes l.children))
