use Rattle.std.proofs.Common.{◌≡◌, ◌≤◌, ◌∙◌, arith}
use Rattle.std.specs.Prelude.{◌||◌}
use Rattle.std.specs.List.{list_any}
use Rattle.ledger_terms.specs.Hosting.{hosts_at}
use Rattle.ledger_terms.specs.Grown.{tree_of, node_count}
use Rattle.ledger_terms.proofs.Grow.{tree_within}
use Rattle.blind_tree.proofs.SpelledCut.{spell_cut_start, spell_cut_step}
use Rattle.blind_tree.proofs.spelled_cut.+views.Goals as goal
use Rattle.blind_tree.proofs.spelled_cut.+views.Goals.{spell_views-then-above, spell_views-else-above}

pub spell_views-spell_view-requires : goal.spell_views-spell_view-requires
spell_views-spell_view-requires t c =
    let less : node_count (tree_of c.view-item.result) ≤ node_count c.args.views.now =
    rw (c.view-item.is, ← c.as_slice-view-items.ensures) (tree_within _ _ _ c.loop-view-test.true) in
    (omega (arith, less, c.decreases), tt)

pub spell_views-loop-view-init : goal.spell_views-loop-view-init
spell_views-loop-view-init t c =
    spell_cut_start (hosts_at c.args.topology.now.hosts c.args.at) c.args.above _ _ _ _ _ c.len.ensures c.as_slice-view-items.ensures c.in_ok-spell_count.ensures

pub spell_views-loop-view-preserved : goal.spell_views-loop-view-preserved
spell_views-loop-view-preserved t c =
    let sees : c.if-above.sees ≡ (c.args.above || list_any (hosts_at c.args.topology.now.hosts c.args.at) c.view-item.result.root.informees) =
    elim c.if-above.branch [
      | spell_views-then-above w ↦ rw w.if-above.true (w.sees-is ∙ w.if-above.true)
      | spell_views-else-above w ↦ rw w.if-above.false (w.sees-is ∙ w.hosts_any-sees.ensures)
    ] in
    spell_cut_step (hosts_at c.args.topology.now.hosts c.args.at) c.args.above _ _ _ _ _ _ _ c.loop-view-test.true c.view-item.is sees c.in_ok-spell_view.ensures c.loop-view.invariant
