use Rattle.std.proofs.Common.{◌≤◌, arith}
use Rattle.ledger_terms.specs.Grown.{tree_of, node_count}
use Rattle.ledger_terms.proofs.Grow.{tree_within}
use Rattle.blind_tree.proofs.spellable.+views.Goals as goal

pub are_views-is_view-requires : goal.are_views-is_view-requires
are_views-is_view-requires t c =
    let less : node_count (tree_of c.view-item.result) ≤ node_count c.args.views.now =
    rw (c.view-item.is, ← c.as_slice-view-items.ensures) (tree_within _ _ _ c.loop-view-test.true) in
    (omega (arith, less, c.decreases), tt)
