-- Participants that have read nothing.
use Rattle.std.specs.Prelude.{◌≡◌, ℕ, List, Some, length, slice_get}
use Rattle.ledger_terms.specs.declared.topology.Topology.{Topology}
use Rattle.lang_eval.specs.Found.{Packages}
use Rattle.node_core.specs.Participant.{Participant as NodeValue, begun}

-- The nodes are `count` participants, in the order of the topology, each of which has read nothing: what `World::new` begins with.
pub record AreNewNodes (topology : Topology) (packages : Packages) (count : ℕ) (nodes : List NodeValue) : Type 0 where
  pub many : length nodes ≡ count
  pub each : (p : ℕ) (node : NodeValue) → slice_get nodes p ≡ Some node → node ≡ begun topology packages p
