use Rattle.std.proofs.Common.{◌≡◌, ◌+◌, ◌-◌, ◌*◌, ◌≤◌, drop}
use Rattle.ledger_terms.specs.Grown.{forest_of, tree_of, node_count}
use Rattle.interpret.specs.Filled.{behind, fill_all}
use Rattle.interpret.proofs.filler.Filler.+fill.Given as goal

abbrev pub decreases-fill_draft : goal.decreases-fill_draft
decreases-fill_draft g l = 2 * node_count (tree_of l.draft.now)

abbrev pub decreases-fill_list : goal.decreases-fill_list
decreases-fill_list g l = 2 * node_count l.drafts.now + 1

abbrev pub invariant-fill_list-loop-index : goal.invariant-fill_list-loop-index
invariant-fill_list-loop-index g l =
    (l.index ≤ l.count) × (l.count ≤ 64) × (l.fn.count ≤ l.count)
    × (behind l.filled (fill_all (g.K.KnownContracts.rows l.self.known.now) (l.place.left - 1) l.place.seed l.place.path l.index l.count
    (forest_of (drop l.index l.items)))
    ≡ fill_all (g.K.KnownContracts.rows l.self.known.now) (l.place.left - 1) l.place.seed l.place.path 0 l.fn.count l.drafts)
