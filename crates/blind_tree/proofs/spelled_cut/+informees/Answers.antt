use Rattle.std.proofs.Common.{◌≤◌, arith}
use Rattle.ledger_terms.specs.Grown.{tree_of, node_count}
use Rattle.ledger_terms.proofs.Grow.{tree_within}
use Rattle.blind_tree.proofs.SpelledCut.{spell_named_start, spell_named_step}
use Rattle.blind_tree.proofs.spelled_cut.+informees.Goals as goal

pub spell_informees-spell_informees_of-requires : goal.spell_informees-spell_informees_of-requires
spell_informees-spell_informees_of-requires t c =
    let less : node_count (tree_of c.view-item.result) ≤ node_count c.args.views.now =
    rw (c.view-item.is, ← c.as_slice-view-items.ensures) (tree_within _ _ _ c.loop-view-test.true) in
    (omega (arith, less, c.decreases), tt)

pub spell_informees-loop-view-init : goal.spell_informees-loop-view-init
spell_informees-loop-view-init t c = spell_named_start _ _ _ _ _ c.len.ensures c.as_slice-view-items.ensures c.in_ok-spell_count.ensures

pub spell_informees-loop-view-preserved : goal.spell_informees-loop-view-preserved
spell_informees-loop-view-preserved t c =
    spell_named_step _ _ _ _ _ _ c.loop-view-test.true c.view-item.is c.in_ok-spell_informees_of.ensures c.loop-view.invariant
