use Rattle.std.proofs.Common.{◌<◌, ◌+◌, ◌*◌, arith}
use Rattle.ledger_terms.specs.Grown.{tree_of, node_count}
use Rattle.ledger_terms.proofs.Grow.{tree_within}
use Rattle.interpret.proofs.labels.+named.Goals as goal

pub are_drafts_named-is_draft_named-requires : goal.are_drafts_named-is_draft_named-requires
are_drafts_named-is_draft_named-requires g t c κs within =
    let below : 2 * node_count (tree_of c.draft-item.result) < 2 * node_count c.args.drafts.now + 1 =
    rw (c.draft-item.is, ← c.as_slice-draft-items.ensures)
    (omega (arith, tree_within c.as_slice-draft-items.result.now c.loop-draft.draft-index c.draft-item.result c.loop-draft-test.true)) in
    (rw (← c.decreases) below, within)
