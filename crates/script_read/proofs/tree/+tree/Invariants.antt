use Rattle.std.proofs.Common.{◌≡◌, ◌≤◌, ◌+◌, ◌*◌, drop}
use Rattle.serde_json.specs.Data.{depth, items_depth}
use Rattle.serde_json.specs.View.{view, items_view}
use Rattle.ledger_terms.specs.Forest.{NoRoots}
use Rattle.json_walk.specs.declared.limits.TheConstants.{DRAFTS}
use Rattle.script_read.specs.Drafts.{drafts_from}
use Rattle.script_read.proofs.tree.+tree.Given as goal

abbrev pub decreases-read_draft : goal.decreases-read_draft
decreases-read_draft l = 2 * depth (view l.value.now)

abbrev pub decreases-read_node : goal.decreases-read_node
decreases-read_node l = 2 * depth (view l.value.now)

abbrev pub decreases-read_tree : goal.decreases-read_tree
decreases-read_tree l = 2 * depth (view l.value.now)

abbrev pub decreases-read_drafts : goal.decreases-read_drafts
decreases-read_drafts l = 2 * items_depth (items_view l.items.now.items) + 1

abbrev pub invariant-read_drafts-drafts : goal.invariant-read_drafts-drafts
invariant-read_drafts-drafts l = record {
  walk : drafts_from l.topology.hosts l.at l.depth l.i (l.drafts, l.count) (items_view (drop l.i l.items.items)) ≡ drafts_from l.topology.hosts l.at l.depth 0 (NoRoots, l.before) (items_view l.items.items);
  within : l.count ≤ DRAFTS.most;
}
