use Rattle.std.proofs.Common.{◌≡◌, drop}
use Rattle.ledger_terms.specs.Hosting.{hosts_at}
use Rattle.ledger_terms.specs.Grown.{forest_of}
use Rattle.blind_tree.specs.Kept.{sees_kept_root}
use Rattle.blind_tree.proofs.cut.sees_root.Given as goal

abbrev pub invariant-loop-view : goal.invariant-loop-view
invariant-loop-view l = sees_kept_root (hosts_at l.topology.hosts l.at) (forest_of (drop l.view-index l.view-items)) ≡ sees_kept_root (hosts_at l.topology.hosts l.at) l.views
