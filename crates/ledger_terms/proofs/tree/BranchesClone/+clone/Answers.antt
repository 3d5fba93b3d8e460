use Rattle.std.proofs.Common.{◌<◌, refl}
use Rattle.ledger_terms.specs.Grown.{node_count}
use Rattle.ledger_terms.proofs.Grow.{child_below, joined_step, joined_end}
use Rattle.ledger_terms.proofs.tree.BranchesClone.+clone.Goals as goal

pub clone-requires : goal.clone-requires
clone-requires g t c = λ κs inside.
    let below : node_count c.tree-item.result.below < node_count c.args.self.now =
    rw (c.tree-item.is, ← c.as_slice-tree-items.ensures) (child_below _ _ _ c.loop-tree-test.true) in
    (rw (← c.decreases) below, inside)

pub loop-tree-preserved : goal.loop-tree-preserved
loop-tree-preserved g t c =
    joined_step _ _ _ _ _ _ c.loop-tree-test.true c.tree-item.is (rw (c.in_ok-push.ensures.ok, c.in_ok-root.ensures, c.in_ok-below.ensures.cases) refl) c.loop-tree.invariant

pub returns : goal.returns
returns g t c = record { cases = joined_end _ _ _ _ c.loop-tree-test.false c.loop-tree.invariant }
