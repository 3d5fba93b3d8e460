use Rattle.std.proofs.Common.{◌+◌, ◌*◌, ◌<◌, arith, refl}
use Rattle.std.specs.Prelude.{option_copied}
use Rattle.ledger_terms.specs.Grown.{node_count, tree_of}
use Rattle.ledger_terms.proofs.Grow.{tree_within}
use Rattle.confirm_reply.proofs.FindSteps.{none_aside, short}
use Rattle.confirm_reply.proofs.cores.+find.Goals as goal

pub found_among-returns-then-at-trees : goal.found_among-returns-then-at-trees
found_among-returns-then-at-trees t c = short _ _ _ _ _ c.loop-at.invariant c.if-at-trees.true

pub found_of_view-returns-in_default : goal.found_of_view-returns-in_default
found_of_view-returns-in_default t c = none_aside (option_copied c.args.left) c.args.view.now c.args.tree.now (rw c.in_default.is refl)

pub found_among-found_of_view-requires : goal.found_among-found_of_view-requires
found_among-found_of_view-requires t c =
    let below : 2 * node_count (tree_of c.index-items-at.result) < 2 * node_count c.args.views.now + 1 =
    rw (c.index-items-at.is, ← c.as_slice-items.ensures) (omega (arith, tree_within c.as_slice-items.result.now c.loop-at.at c.index-items-at.result c.loop-at-test.true)) in
    (rw (← c.decreases) below, tt)
