use Rattle.std.proofs.Common.{◌≤◌, arith}
use Rattle.ledger_terms.specs.Grown.{tree_of, node_count}
use Rattle.ledger_terms.proofs.Grow.{tree_within}
use Rattle.blind_tree.proofs.KeptGrow.{named_step, named_end}
use Rattle.blind_tree.proofs.cut.+informees.Goals as goal

pub informees_into-informees_vertex-requires : goal.informees_into-informees_vertex-requires
informees_into-informees_vertex-requires t c =
    let less : node_count (tree_of c.view-item.result) ≤ node_count c.args.views.now =
    rw (c.view-item.is, ← c.as_slice-view-items.ensures) (tree_within _ _ _ c.loop-view-test.true) in
    (omega (arith, less, c.decreases), tt)

pub informees_into-loop-view-preserved : goal.informees_into-loop-view-preserved
informees_into-loop-view-preserved t c = named_step _ _ _ _ _ _ _ c.loop-view-test.true c.view-item.is c.in_ok-vertex.ensures c.in_ok-push.ensures.ok c.loop-view.invariant

pub informees_into-returns : goal.informees_into-returns
informees_into-returns t c = named_end _ _ _ _ c.loop-view-test.false c.loop-view.invariant
