-- What a submission wants over its participant's inbox, as a machine has it.
use Rattle.std.specs.Prelude.{ℕ, Bool, false, ◌&&◌, if◌then◌else◌, nat_lt, length, List, Option, Some, None, Result, Ok, Err}
use Rattle.std.specs.List.{list_all}
use Rattle.ledger_terms.specs.declared.known.Known.{Known}
use Rattle.ledger_terms.specs.declared.submission.Submission.{Submission}
use Rattle.ledger_terms.specs.declared.topology.Topology.{Topology}
use Rattle.ledger_terms.specs.declared.tx.Tx.{Tx}
use Rattle.ledger_model.specs.Terms.{ParticipantId}
use Rattle.canton_model.specs.Inbox.{Item}
use Rattle.canton_model.specs.declared.request.Request.{Request}
use Rattle.world_model.specs.Machine.{Machine}
use Rattle.lang_eval.specs.Found.{Packages}
use Rattle.lang_eval.specs.Named.{parties_in_packages}
use Rattle.sealed_form.specs.SealedTest.{can_be_sealed}
use Rattle.sealed_form.specs.Within.{is_hosted}
use Rattle.framed_form.specs.Framed.{is_framed}
use Rattle.framed_form.specs.FramedReading.{framed_reading}
use Rattle.prepare_request.specs.Prepared.{prepared, wanted_tx, whole_for}
use Rattle.prepare_request.specs.Within.{parties_in_what}
use Rattle.prepare_request.specs.declared.submit_fault.SubmitFault.{SubmitFault}
use Rattle.prepare_request.specs.declared.submit_fault.SubmitFault.TheVariants.{Memory}

-- the contracts that a participant offers to its submissions, by the items that it has read
abbrev pub Offered : Type 0
Offered = ParticipantId → List Item → List Known

-- whether the submission's participant is one of the topology, and the submission and the packages name only parties of that
abbrev pub is_within : Topology → Packages → Submission → Bool
is_within topology packages what =
    nat_lt what.participant (length topology.hosts)
    && (list_all (is_hosted topology) (parties_in_packages packages) && list_all (is_hosted topology) (parties_in_what what.what))

-- whether the transaction that participant `me` wants, where there is one, can be made a request by the rules; false of a fault
abbrev pub can_seal : Topology → Packages → (me : ℕ) → Result Tx SubmitFault → Bool
can_seal topology packages me (Ok tx) = can_be_sealed topology packages me (whole_for topology me tx)
can_seal topology packages me (Err fault) = false

-- a request where it is framed, and None where it isn't or there is a fault
abbrev pub if_framed : Topology → Result Request SubmitFault → Option Request
if_framed topology (Ok request) = if is_framed topology request then Some request else None
if_framed topology (Err fault) = None

-- Whether a submission is within the topology and wants a transaction, over these known contracts, that can be made a request by the rules. `now` is
-- its ledger time where it states none.
abbrev pub is_sealable : Topology → Packages → List Known → Submission → (now : ℕ) → Bool
is_sealable topology packages known what now =
    is_within topology packages what && can_seal topology packages what.participant (wanted_tx topology packages what.participant known what now)

-- The request that a submission wants over its participant's inbox (`items`). None where it wants none or isn't within the topology; and where it can't
-- be sealed and framed, which is never so of what a client's types can hold. `now` is its ledger time where it states none.
abbrev pub prepare_over : Topology → Packages → Offered → Submission → List Item → (now : ℕ) → Option Request
prepare_over topology packages offered what items now =
    if is_sealable topology packages (offered what.participant items) what now
    then if_framed topology (prepared topology packages what.participant (offered what.participant items) what now)
    else None

-- the fault for which a submission wants no request; Memory where it wants one, of which nobody asks this
abbrev pub fault_in : Result Request SubmitFault → SubmitFault
fault_in (Ok request) = Memory
fault_in (Err fault) = fault

-- The fault for which a submission wants no request over these items of its participant's inbox; Memory where it wants one, of which nobody asks this.
-- `now` is its ledger time where it states none.
abbrev pub why_over : Topology → Packages → Offered → Submission → List Item → (now : ℕ) → SubmitFault
why_over topology packages offered what items now =
    fault_in (prepared topology packages what.participant (offered what.participant items) what now)

-- the machine of a synchroniser, that is what its world rests on, with this topology, these packages, `capacity` places for requests in its log, and
-- what participants offer
abbrev pub machine_over : Topology → Packages → (capacity : ℕ) → Offered → Machine
machine_over topology packages capacity offered =
    record {
      reading = framed_reading topology packages;
      params = topology.params;
      capacity = capacity;
      hosts = length topology.hosts;
      prepare = prepare_over topology packages offered;
    }
