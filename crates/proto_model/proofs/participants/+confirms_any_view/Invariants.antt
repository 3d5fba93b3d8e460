use Rattle.std.proofs.Common.{◌≡◌, drop}
use Rattle.ledger_terms.specs.Grown.{node_count, forest_of}
use Rattle.ledger_terms.specs.Hosting.{confirms_at}
use Rattle.proto_model.specs.Made.{confirms_any_view}
use Rattle.proto_model.proofs.participants.+confirms_any_view.Given as goal

abbrev pub decreases-confirms_any_view : goal.decreases-confirms_any_view
decreases-confirms_any_view l = node_count l.views.now

abbrev pub invariant-loop-view : goal.invariant-loop-view
invariant-loop-view l =
    confirms_any_view (confirms_at l.topology.hosts l.at) (forest_of (drop l.view-index l.view-items))
    ≡ confirms_any_view (confirms_at l.topology.hosts l.at) l.views
