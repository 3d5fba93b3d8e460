-- What a submission is answered, by its participant's active contracts at what it had read.
use Rattle.std.specs.Prelude.{◌≡◌, ◌≢◌, ℕ, ◌+◌, List, Some, length, map, take}
use Rattle.ledger_terms.specs.declared.active_row.ActiveRow.{ActiveRow}
use Rattle.ledger_terms.specs.declared.known.Known.{Known}
use Rattle.ledger_terms.specs.declared.submission.Submission.{Submission}
use Rattle.ledger_terms.specs.declared.topology.Topology.{Topology}
use Rattle.ledger_model.specs.Terms.{ParticipantId}
use Rattle.lang_eval.specs.Found.{Packages}
use Rattle.canton_model.specs.Inbox.{inbox, node_active}
use Rattle.canton_model.specs.Log.{request_at}
use Rattle.framed_form.specs.FramedReading.{framed_reading}
use Rattle.world_model.specs.Messages.{Entry, Request}
use Rattle.world_model.specs.Rounds.{SubmitResult, Sent, Refused, Paused, Unwanted, Duplicate, LogFull}
use Rattle.prepare_request.specs.Causes.{HasCause, IsRequestOf}
use Rattle.prepare_request.specs.declared.submit_fault.SubmitFault.{SubmitFault}
use Rattle.prepare_request.specs.declared.submit_fault.SubmitFault.TheVariants.{Memory}

-- the active contracts of participant p that has read the first n entries of the log, at its cursor n, in order of creation
abbrev pub active_at : Topology → Packages → List Entry → ParticipantId → (n : ℕ) → List Known
active_at topology packages log p n =
    map (λ (a : ActiveRow). a.known) (node_active (framed_reading topology packages) p (inbox (framed_reading topology packages) p (take n log)) n)

-- `now` is the time in microseconds at which the submission `what` is prepared, and `read_to` how many entries of the log its participant had read then.
module _ (topology : Topology) (packages : Packages) (now : ℕ) (log : List Entry) (what : Submission) where
  -- The request is of the transaction that the submission wants over the contracts that are active at its participant at `read_to`.
  abbrev pub Wants : (read_to : ℕ) → Request → Type 0
  Wants read_to request = IsRequestOf topology packages what.participant (active_at topology packages log what.participant read_to) what now request

  -- the request that the submission wants stands in the log at the place
  abbrev pub IsSent : (place read_to : ℕ) → Type 0
  IsSent place read_to = (request : Request) × (request_at log place ≡ Some request) × Wants read_to request

  -- another or the same request with the sender and the command of the one that the submission wants stands in the log at the place
  abbrev pub StandsThere : (place read_to : ℕ) → Type 0
  StandsThere place read_to =
      (request : Request) × Wants read_to request × (first : Request) × (request_at log place ≡ Some first) × (first.sender ≡ request.sender)
      × (first.command ≡ request.command)

  -- The request that the submission wants needs `need` places of the log: its own, one for the response of each participant that is asked, and one for
  -- the verdict.
  abbrev pub Needs : (need read_to : ℕ) → Type 0
  Needs need read_to = (request : Request) × Wants read_to request × (need ≡ 2 + length request.confirming)

  -- What a result says of the submission is so, by `IsSent`, a cause of the fault (`HasCause`), `StandsThere` and `Needs`: of LogFull only the need is
  -- judged, and of Paused nothing is said. Nothing is said of want of memory either, which no result has.
  abbrev pub IsAnsweredBy : SubmitResult SubmitFault → Type 0
  IsAnsweredBy (Sent place read_to) = IsSent place read_to
  IsAnsweredBy (Refused Paused read_to) = Unit {0}
  IsAnsweredBy (Refused (Unwanted fault) read_to) =
      fault ≢ Memory → HasCause topology packages what.participant (active_at topology packages log what.participant read_to) what now fault
  IsAnsweredBy (Refused (Duplicate place) read_to) = StandsThere place read_to
  IsAnsweredBy (Refused (LogFull amount need) read_to) = Needs need read_to
