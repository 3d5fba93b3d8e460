use Rattle.std.proofs.Common.{◌≡◌, ◌≤◌, ◌∙◌, arith}
use Rattle.std.specs.Prelude.{◌||◌}
use Rattle.std.specs.List.{list_any}
use Rattle.ledger_terms.specs.Hosting.{hosts_at}
use Rattle.ledger_terms.specs.Grown.{tree_of, node_count}
use Rattle.ledger_terms.proofs.Grow.{tree_within}
use Rattle.blind_tree.proofs.KeptGrow.{cut_step, cut_end}
use Rattle.blind_tree.proofs.cut.+cut.Goals as goal
use Rattle.blind_tree.proofs.cut.+cut.Goals.{cut_into-then-above, cut_into-else-above}

pub cut_into-cut_view-requires : goal.cut_into-cut_view-requires
cut_into-cut_view-requires t c =
    let less : node_count (tree_of c.view-item.result) ≤ node_count c.args.views.now =
    rw (c.view-item.is, ← c.as_slice-view-items.ensures) (tree_within _ _ _ c.loop-view-test.true) in
    (omega (arith, less, c.decreases), tt)

pub cut_into-loop-view-preserved : goal.cut_into-loop-view-preserved
cut_into-loop-view-preserved t c =
    let sees : c.if-above.sees ≡ (c.args.above || list_any (hosts_at c.args.topology.now.hosts c.args.at) c.view-item.result.root.informees) =
    elim c.if-above.branch [
      | cut_into-then-above w ↦ rw w.if-above.true (w.sees-is ∙ w.if-above.true)
      | cut_into-else-above w ↦ rw w.if-above.false (w.sees-is ∙ w.hosts_any-sees.ensures)
    ] in
    cut_step (hosts_at c.args.topology.now.hosts c.args.at) c.args.above _ _ _ _ _ _ _ _ c.loop-view-test.true c.view-item.is sees c.in_ok-vertex.ensures c.in_ok-push.ensures.ok c.loop-view.invariant

pub cut_into-returns : goal.cut_into-returns
cut_into-returns t c = cut_end (hosts_at c.args.topology.now.hosts c.args.at) c.args.above _ _ _ _ c.loop-view-test.false c.loop-view.invariant
