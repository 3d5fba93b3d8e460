use Rattle.std.proofs.Common.{◌<◌, ◌+◌, ◌*◌, arith}
use Rattle.ledger_terms.specs.Grown.{tree_of, node_count}
use Rattle.ledger_terms.proofs.Grow.{tree_within}
use Rattle.view_split.proofs.Filling.{step_view, views_end}
use Rattle.view_split.proofs.assembling.+assemble.Goals as goal

pub assemble_into-assemble-requires : goal.assemble_into-assemble-requires
assemble_into-assemble-requires t c =
    let below : 2 * node_count (tree_of c.view-item.result) < 2 * node_count c.args.views.now + 1 =
    rw (c.view-item.is, ← c.as_slice-view-items.ensures) (omega (arith, tree_within c.as_slice-view-items.result.now c.loop-view.view-index c.view-item.result c.loop-view-test.true)) in
    (rw (← c.decreases) below, tt)

pub assemble_into-loop-view-preserved : goal.assemble_into-loop-view-preserved
assemble_into-loop-view-preserved t c =
    step_view _ _ _ _ _ _ _ c.loop-view-test.true c.view-item.is c.in_ok-push.ensures.ok c.in_ok-assemble.ensures c.loop-view.invariant

pub assemble_into-returns : goal.assemble_into-returns
assemble_into-returns t c = views_end _ _ _ _ c.loop-view-test.false c.loop-view.invariant
