use Rattle.std.proofs.Common.{◌≡◌, drop}
use Rattle.ledger_terms.specs.Hosting.{hosts_at}
use Rattle.ledger_terms.specs.Grown.{forest_of, node_count}
use Rattle.blind_tree.specs.Kept.{has_kept_sight}
use Rattle.blind_tree.proofs.cut.+is_seen.Given as goal

abbrev pub decreases-is_seen : goal.decreases-is_seen
decreases-is_seen l = node_count l.views.now

abbrev pub invariant-loop-view : goal.invariant-loop-view
invariant-loop-view l = has_kept_sight (hosts_at l.topology.hosts l.at) (forest_of (drop l.view-index l.view-items)) ≡ has_kept_sight (hosts_at l.topology.hosts l.at) l.views
