-- The machine of a synchroniser, and its participants.
use Rattle.std.specs.Prelude.{◌≡◌, ℕ, List, Option}
use Rattle.ledger_terms.specs.declared.submission.Submission.{Submission}
use Rattle.ledger_terms.specs.declared.topology.Topology.{Topology}
use Rattle.ledger_model.specs.Terms.{ParticipantId}
use Rattle.lang_eval.specs.Found.{Packages}
use Rattle.canton_model.specs.Inbox.{Item}
use Rattle.world_model.specs.Messages.{Request}
use Rattle.world_model.specs.Machine.{Machine}
use Rattle.framed_form.specs.FramedReading.{framed_reading}
use Rattle.prepare_request.specs.Machine.{Offered, machine_over, prepare_over, why_over}
use Rattle.prepare_request.specs.declared.submit_fault.SubmitFault.{SubmitFault}
use Rattle.world_model.specs.Rounds.{Why}
use Rattle.node_core.specs.Participant.{Participant as NodeValue, reading_of}
use Rattle.node_core.specs.Preparing.{offered}

-- The contracts that participant p offers with these items, if it has forgotten nothing: its active contracts at its cursor. An `Offered` is a function
-- of p and its items.
abbrev pub offered_in : Topology → Packages → Offered
offered_in topology packages p items = offered (framed_reading topology packages) p items

-- The request that a submission wants at the time `now`, in microseconds, over the items of its participant, and None where it wants none.
abbrev pub wanted_request : Topology → Packages → Submission → List Item → (now : ℕ) → Option Request
wanted_request topology packages = prepare_over topology packages (offered_in topology packages)

-- The machine of a synchroniser with this topology, these packages and this capacity of its log. It reads framed requests, prepares submissions over
-- what participants offer, and has a participant for each host.
abbrev pub machine_of : Topology → Packages → (capacity : ℕ) → Machine
machine_of topology packages capacity = machine_over topology packages capacity (offered_in topology packages)

-- Why a submission wants no request: a function from the submission, the items of its participant and the time to the fault. Where the submission wants
-- a request it gives Memory, which says nothing.
abbrev pub why_of : Topology → Packages → Why SubmitFault
why_of topology packages = why_over topology packages (offered_in topology packages)

-- The node is participant p of the machine: it reads requests, has the times and prepares submissions as the machine does.
pub record IsNodeOf (m : Machine) (p : ParticipantId) (node : NodeValue) : Type 0 where
  pub reading : reading_of node ≡ m.reading
  pub params : (node.topology).params ≡ m.params
  pub me : node.me ≡ p
  pub prepares : m.prepare ≡ wanted_request node.topology node.packages
