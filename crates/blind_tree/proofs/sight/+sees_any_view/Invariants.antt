use Rattle.std.proofs.Common.{◌≡◌, drop}
use Rattle.ledger_terms.specs.Hosting.{hosts_at}
use Rattle.ledger_terms.specs.Grown.{node_count, forest_of}
use Rattle.blind_tree.specs.Blind.{has_sight}
use Rattle.blind_tree.proofs.sight.+sees_any_view.Given as goal

abbrev pub decreases-sees_any_view : goal.decreases-sees_any_view
decreases-sees_any_view l = node_count l.views.now

abbrev pub invariant-loop-view : goal.invariant-loop-view
invariant-loop-view l = has_sight (hosts_at l.topology.hosts l.at) (forest_of (drop l.view-index l.view-items)) ≡ has_sight (hosts_at l.topology.hosts l.at) l.views
