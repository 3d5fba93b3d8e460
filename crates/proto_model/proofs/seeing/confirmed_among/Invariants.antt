use Rattle.std.proofs.Common.{◌≡◌, ◌++◌, drop}
use Rattle.ledger_terms.specs.Hosting.{confirms_at}
use Rattle.proto_model.specs.Notices.{confirmed_among}
use Rattle.proto_model.proofs.seeing.confirmed_among.Given as goal

abbrev pub invariant-loop-view : goal.invariant-loop-view
invariant-loop-view l =
    l.confirmed ++ confirmed_among (confirms_at l.topology.hosts l.me) (drop l.view-index l.view-items) ≡ confirmed_among (confirms_at l.topology.hosts l.me) l.views
