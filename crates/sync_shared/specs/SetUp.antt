-- What all parts of a shared synchroniser have in common.
use Rattle.std.specs.Prelude.{◌≡◌}
use Rattle.ledger_terms.specs.Topologies.{IsValid}
use Rattle.ledger_terms.specs.declared.topology.Topology.{Topology}
use Rattle.lang_eval.specs.Found.{Packages}
use Rattle.lang_eval.specs.Named.{AreKnown, parties_in_packages}
use Rattle.sealed_form.specs.Within.{is_hosted}
use Rattle.world_model.specs.Machine.{Machine}
use Rattle.world_model.specs.Rounds.{Why}
use Rattle.prepare_request.specs.declared.submit_fault.SubmitFault.{SubmitFault}
use Rattle.node_core.specs.Machines.{machine_of, why_of}

-- The machine m is that of the topology and the packages, `why` tells why a submission to it wants no request, the topology is valid, and the packages
-- name only parties of it.
pub record IsSetUp (topology : Topology) (packages : Packages) (m : Machine) (why : Why SubmitFault) : Type 0 where
  pub machine_is : m ≡ machine_of topology packages m.capacity
  pub why_is : why ≡ why_of topology packages
  pub valid : IsValid topology
  pub named : AreKnown (is_hosted topology) (parties_in_packages packages)
