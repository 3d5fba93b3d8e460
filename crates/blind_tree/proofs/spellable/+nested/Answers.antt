use Rattle.std.proofs.Common.{◌≤◌, [], ◌∷◌, arith}
use Rattle.view_split.specs.CoreLists.{children_of, core_weight}
use Rattle.blind_tree.proofs.CoreGrow.{child_at}
use Rattle.blind_tree.proofs.spellable.+nested.Goals as goal

pub is_nested-is_nested_child-requires : goal.is_nested-is_nested_child-requires
is_nested-is_nested_child-requires t c =
    let less : core_weight (children_of (c.child-item.result ∷ [])) ≤ core_weight c.args.children.now =
    rw (c.child-item.is, ← c.as_slice-child-items.ensures) (child_at _ _ _ c.loop-child-test.true) in
    (omega (arith, less, c.decreases), tt)
