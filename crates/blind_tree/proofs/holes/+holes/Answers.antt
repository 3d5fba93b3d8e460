use Rattle.std.proofs.Common.{◌≤◌, [], ◌∷◌, arith}
use Rattle.view_split.specs.CoreLists.{children_of, core_weight}
use Rattle.blind_tree.proofs.CoreGrow.{child_at, holes_end, holes_step}
use Rattle.blind_tree.proofs.holes.+holes.Goals as goal

pub hole_count-child_holes-requires : goal.hole_count-child_holes-requires
hole_count-child_holes-requires t c =
    let less : core_weight (children_of (c.child-item.result ∷ [])) ≤ core_weight c.args.children.now =
    rw (c.child-item.is, ← c.as_slice-child-items.ensures) (child_at _ _ _ c.loop-child-test.true) in
    (omega (arith, less, c.decreases), tt)

pub hole_count-loop-child-preserved : goal.hole_count-loop-child-preserved
hole_count-loop-child-preserved t c =
    rw c.saturating_add-count.ensures (omega arith, holes_step _ _ _ _ _ _ c.loop-child-test.true c.child-item.is c.child_holes.ensures c.loop-child.invariant.1)

pub hole_count-returns : goal.hole_count-returns
hole_count-returns t c = holes_end _ _ _ _ c.loop-child-test.false c.loop-child.invariant.0 c.loop-child.invariant.1
