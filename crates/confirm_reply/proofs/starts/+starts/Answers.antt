use Rattle.std.proofs.Common.{◌+◌, ◌*◌, ◌<◌, arith, refl}
use Rattle.std.specs.Prelude.{option_copied}
use Rattle.ledger_terms.specs.Grown.{node_count, tree_of}
use Rattle.ledger_terms.proofs.Grow.{tree_within}
use Rattle.confirm_reply.proofs.StartSteps.{none_aside, short}
use Rattle.confirm_reply.proofs.starts.+starts.Goals as goal

pub starts_among-starts_below-requires : goal.starts_among-starts_below-requires
starts_among-starts_below-requires t c =
    let below : 2 * node_count (tree_of c.index-items-at.result) < 2 * node_count c.args.views.now + 1 =
    rw (c.index-items-at.is, ← c.as_slice-items.ensures) (omega (arith, tree_within c.as_slice-items.result.now c.loop-at.at c.index-items-at.result c.loop-at-test.true)) in
    (rw (← c.decreases) below, tt)

pub starts_among-returns-then-at-trees : goal.starts_among-returns-then-at-trees
starts_among-returns-then-at-trees t c = short _ _ _ _ _ _ c.loop-at.invariant c.if-at-trees.true

pub starts_below-returns-in_default : goal.starts_below-returns-in_default
starts_below-returns-in_default t c = none_aside (option_copied c.args.left) c.args.view.now c.args.tree.now c.args.starts.now.items (rw c.in_default.is refl)
