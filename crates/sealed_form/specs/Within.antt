-- The participants and parties of a topology.
use Rattle.std.specs.Prelude.{Bool, List, is_some, length}
use Rattle.std.specs.List.{range_with_len}
use Rattle.ledger_terms.specs.Hosting.{host_of}
use Rattle.ledger_terms.specs.declared.topology.Topology.{Topology}
use Rattle.ledger_model.specs.Terms.{Name, ParticipantId}

-- the participants of a topology, by their indices
abbrev pub participants_of : Topology → List ParticipantId
participants_of topology = range_with_len 0 (length topology.hosts)

-- it is a party of the topology: some participant confirms for it
abbrev pub is_hosted : Topology → Name → Bool
is_hosted topology party = is_some (host_of topology.hosts party)
