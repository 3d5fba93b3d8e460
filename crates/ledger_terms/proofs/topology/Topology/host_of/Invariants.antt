use Rattle.std.proofs.Common.{◌≡◌, ◌+◌, drop, option_map}
use Rattle.ledger_terms.specs.Hosting.{host_of}
use Rattle.ledger_terms.proofs.topology.Topology.host_of.Given as goal

abbrev pub invariant-loop-host : goal.invariant-loop-host
invariant-loop-host l =
    (l.at ≡ l.host-index) × (host_of (l.self).hosts l.party ≡ option_map (λ n. l.at + n) (host_of (drop l.host-index l.host-items) l.party))
