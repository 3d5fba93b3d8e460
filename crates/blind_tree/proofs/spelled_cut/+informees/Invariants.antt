use Rattle.std.proofs.Common.{◌≡◌, ◌++◌, ◌+◌, ◌*◌, drop}
use Rattle.ledger_terms.specs.Grown.{forest_of, tree_of, node_count}
use Rattle.blind_tree.specs.Kept.{cut_for_mediator}
use Rattle.blind_tree.specs.Spelling.{spell_each, spell_vertices}
use Rattle.blind_tree.proofs.spelled_cut.+informees.Given as goal

abbrev pub decreases-spell_informees_of : goal.decreases-spell_informees_of
decreases-spell_informees_of l = 2 * node_count (tree_of l.view.now)

abbrev pub decreases-spell_informees : goal.decreases-spell_informees
decreases-spell_informees l = 2 * node_count l.views.now + 1

-- what was written, and what is cut of those that are left, is the whole
abbrev pub invariant-spell_informees-loop-view : goal.invariant-spell_informees-loop-view
invariant-spell_informees-loop-view l =
    l.out ++ spell_each (cut_for_mediator (forest_of (drop l.view-index l.view-items))) ≡ l.fn.out ++ spell_vertices (cut_for_mediator l.views)
