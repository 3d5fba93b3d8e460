use Rattle.std.proofs.Common.{◌≤◌, [], ◌∷◌, arith}
use Rattle.view_split.specs.CoreLists.{children_of, core_weight}
use Rattle.blind_tree.proofs.CoreGrow.{child_at, spellable_child, child_step}
use Rattle.blind_tree.proofs.core_bytes.+core.Goals as goal

pub encode_children-encode_child-requires : goal.encode_children-encode_child-requires
encode_children-encode_child-requires t c =
    let less : core_weight (children_of (c.child-item.result ∷ [])) ≤ core_weight c.args.children.now =
    rw (c.child-item.is, ← c.as_slice-child-items.ensures) (child_at _ _ _ c.loop-child-test.true) in
    (omega (arith, less, c.decreases), (spellable_child _ _ _ c.loop-child-test.true c.child-item.is c.loop-child.invariant.0).0)

pub encode_children-loop-child-preserved : goal.encode_children-loop-child-preserved
encode_children-loop-child-preserved t c = (
  (spellable_child _ _ _ c.loop-child-test.true c.child-item.is c.loop-child.invariant.0).1,
  child_step _ _ _ _ _ _ c.loop-child-test.true c.child-item.is c.in_ok-encode_child.ensures c.loop-child.invariant.1,
)
