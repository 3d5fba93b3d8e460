-- What a participant answers to a submission.
use Rattle.std.specs.Prelude.{ℕ, List, Result, Err, if◌then◌else◌, length}
use Rattle.ledger_terms.specs.declared.known.Known.{Known}
use Rattle.ledger_terms.specs.declared.submission.Submission.{Submission}
use Rattle.ledger_model.specs.Terms.{ParticipantId}
use Rattle.canton_model.specs.Inbox.{Item, node_active}
use Rattle.canton_model.specs.Reading.{Reading}
use Rattle.canton_model.specs.declared.request.Request.{Request}
use Rattle.contract_store.specs.Active.{knowns}
use Rattle.pruned_inbox.specs.Start.{Start, active_kept}
use Rattle.prepare_request.specs.Prepared.{prepared}
use Rattle.prepare_request.specs.declared.submit_fault.SubmitFault.{SubmitFault}
use Rattle.prepare_request.specs.declared.submit_fault.SubmitFault.TheVariants.{Paused}
use Rattle.node_core.specs.Participant.{Participant, items_of, reading_of}

-- The contracts that participant p offers to its submissions with these items, where it has forgotten nothing: the active ones with a hosted
-- stakeholder at its cursor, in order of creation.
abbrev pub offered : Reading → ParticipantId → List Item → List Known
offered reading p items = knowns (node_active reading p items (length items))

-- The contracts that participant p offers with these items, where its inbox left the start at its base.
abbrev pub offered_kept : Reading → ParticipantId → Start → List Item → List Known
offered_kept reading p start items = knowns (active_kept reading p start items (length items))

-- The contracts that a participant offers to its submissions.
abbrev pub offered_by : Participant → List Known
offered_by p = offered_kept (reading_of p) p.me p.start (items_of p)

-- What a participant answers to a submission at the time `now`, in microseconds: the request that the submission wants, or the first fault, which is
-- Paused while the participant is paused.
abbrev pub prepare_answer : Participant → Submission → (now : ℕ) → Result Request SubmitFault
prepare_answer p what now = if p.state.is_paused then Err Paused else prepared p.topology p.packages p.me (offered_by p) what now
