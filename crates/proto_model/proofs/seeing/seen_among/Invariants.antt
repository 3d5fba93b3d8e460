use Rattle.std.proofs.Common.{◌≡◌, ◌++◌, None, drop}
use Rattle.ledger_terms.specs.Hosting.{hosts_at}
use Rattle.proto_model.proofs.Seen.{seen_after}
use Rattle.proto_model.proofs.seeing.seen_among.Given as goal

abbrev pub invariant-loop-view : goal.invariant-loop-view
invariant-loop-view l =
    l.seen ++ seen_after (hosts_at l.topology.hosts l.me) l.top (drop l.view-index l.view-items) ≡ seen_after (hosts_at l.topology.hosts l.me) None l.views
