-- Results of submissions, in the words of the world model.
use Rattle.std.specs.Prelude.{◌≢◌, ◌<◌, List, length, map}
use Rattle.std.specs.List.{zip}
use Rattle.ledger_terms.specs.declared.submission.Submission.{Submission}
use Rattle.canton_model.specs.declared.entry.Entry.{Entry}
use Rattle.prepare_request.specs.Causes.{HoldsNoMemory}
use Rattle.prepare_request.specs.declared.submit_fault.SubmitFault.{SubmitFault}
use Rattle.prepare_request.specs.declared.submit_fault.SubmitFault.TheVariants.{Paused, NotHosted, Command, Split, Duplicate, LogFull, Memory}
use Rattle.node_core.specs.declared.submit_result.SubmitResult.{SubmitResult}
use Rattle.node_core.specs.declared.submit_result.SubmitResult.TheVariants.{Sent, Refused}
use Rattle.world_model.specs.Rounds as w

-- A fault of the code as one of the world model. NotHosted, Command, Split and Memory say that the submission wants no request: there they are Unwanted,
-- with the fault inside.
abbrev pub fault_of : SubmitFault → w.SubmitFault SubmitFault
fault_of Paused = w.Paused
fault_of (NotHosted party) = w.Unwanted (NotHosted party)
fault_of (Command fault) = w.Unwanted (Command fault)
fault_of (Split fault) = w.Unwanted (Split fault)
fault_of (Duplicate place) = w.Duplicate place
fault_of (LogFull reserved need) = w.LogFull reserved need
fault_of Memory = w.Unwanted Memory

-- a result of the code as one of the world model
abbrev pub result_of : SubmitResult → w.SubmitResult SubmitFault
result_of (Sent place read_to) = w.Sent place read_to
result_of (Refused fault read_to) = w.Refused (fault_of fault) read_to

-- submissions paired with their results, the first with the first, as the world model has them
abbrev pub results_of : List Submission → List SubmitResult → w.Results SubmitFault
results_of submits results = zip submits (map result_of results)

-- Where the result says that a request was sent, the log reaches beyond the request's place, so that the slip of its entry can be taken. Of a refusal
-- this says nothing.
abbrev pub IsPlaced : List Entry → SubmitResult → Type 0
IsPlaced log (Sent place read_to) = place < length log
IsPlaced log (Refused fault read_to) = Unit {0}

-- the result is neither a refusal for want of memory nor one whose fault holds want of memory
abbrev pub IsPlainResult : SubmitResult → Type 0
IsPlainResult (Sent place read_to) = Unit {0}
IsPlainResult (Refused fault read_to) = (fault ≢ Memory) × HoldsNoMemory fault
