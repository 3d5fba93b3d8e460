use Rattle.std.proofs.Common.{◌≡◌, ◌+◌, ◌*◌, drop}
use Rattle.ledger_terms.specs.Grown.{forest_of, tree_of, node_count}
use Rattle.interpret.specs.Filled.{all_named}
use Rattle.interpret.proofs.labels.+named.Given as goal

abbrev pub decreases-is_draft_named : goal.decreases-is_draft_named
decreases-is_draft_named g l = 2 * node_count (tree_of l.draft.now)

abbrev pub decreases-are_drafts_named : goal.decreases-are_drafts_named
decreases-are_drafts_named g l = 2 * node_count l.drafts.now + 1

abbrev pub invariant-are_drafts_named-loop-draft : goal.invariant-are_drafts_named-loop-draft
invariant-are_drafts_named-loop-draft g l =
    all_named (g.K.KnownContracts.rows l.known) (forest_of (drop l.draft-index l.draft-items)) ≡ all_named (g.K.KnownContracts.rows l.known) l.drafts
