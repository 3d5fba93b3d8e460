-- What a submission wants of its participant.
use Rattle.std.specs.Prelude.{◌≡◌, ℕ, List, Option, Some, None, length, slice_get, if◌then◌else◌}
use Rattle.ledger_terms.specs.Topologies.{IsValid}
use Rattle.ledger_terms.specs.declared.submission.Submission.{Submission}
use Rattle.ledger_terms.specs.declared.topology.Topology.{Topology}
use Rattle.ledger_model.specs.Terms.{ParticipantId}
use Rattle.lang_eval.specs.Found.{Packages}
use Rattle.lang_eval.specs.Named.{AreKnown, parties_in_packages}
use Rattle.sealed_form.specs.Within.{is_hosted}
use Rattle.world_model.specs.Messages.{Entry, Request}
use Rattle.prepare_request.specs.Within.{IsWithin, parties_in_what}
use Rattle.node_core.specs.Participant.{Participant as NodeValue}
use Rattle.node_core.specs.Preparing.{offered_by}
use Rattle.node_core.specs.Machines.{wanted_request}
use Rattle.node_core.specs.OverLog.{inbox_over}

-- The request that a submission wants of its participant at the time `now`, over what this has read of the log. None where there is no such participant,
-- it is paused, or the submission wants no request.
abbrev pub wanted_of : List Entry → Submission → (now : ℕ) → Option NodeValue → Option Request
wanted_of log what now None = None
wanted_of log what now (Some node) =
    if (node.state).is_paused then None else wanted_request node.topology node.packages what (inbox_over log node) now

-- The submission is this participant's, which is one of the topology, the topology is valid, and the packages, the contracts that the participant
-- offers and the submission name only parties of the topology. Under this `Node::prepare` may be called, and gives the request that is wanted, if one
-- is.
pub record CanPrepare (node : NodeValue) (what : Submission) : Type 0 where
  pub own : what.participant ≡ node.me
  pub valid : IsValid node.topology
  pub within : IsWithin node.topology node.packages node.me (offered_by node) what

-- there is one node for each host of the topology, and each has this topology and these packages
pub record AreSetUp (topology : Topology) (packages : Packages) (nodes : List NodeValue) : Type 0 where
  pub many : length nodes ≡ length topology.hosts
  pub each : (p : ParticipantId) (node : NodeValue) → slice_get nodes p ≡ Some node → (node.topology ≡ topology) × (node.packages ≡ packages)

-- the topology is valid, and the packages and the submission name only parties of it
pub record CanSubmit (topology : Topology) (packages : Packages) (what : Submission) : Type 0 where
  pub valid : IsValid topology
  pub named_by_packages : AreKnown (is_hosted topology) (parties_in_packages packages)
  pub named_by_input : AreKnown (is_hosted topology) (parties_in_what what.what)
