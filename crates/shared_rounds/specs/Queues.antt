-- Results that wait in queues, one for each participant.
use Rattle.std.specs.Prelude.{◌≡◌, ◌<◌, All, List, [], length, slice_index_or}
use Rattle.ledger_terms.specs.declared.submission.Submission.{Submission}
use Rattle.ledger_model.specs.Terms.{ParticipantId}
use Rattle.node_core.specs.declared.submit_result.SubmitResult.{SubmitResult}
use Rattle.prepare_request.specs.declared.submit_fault.SubmitFault.{SubmitFault}
use Rattle.threads_model.specs.Inputs.{submissions_of}
use Rattle.world_model.specs.Rounds.{Results}
use Rattle.world_play.specs.Results.{IsPlainResult, results_of}

-- the queue of participant p among the queues, which stand in the order of the topology; an empty one where there is none for it
abbrev pub queue_at : List (List SubmitResult) → ParticipantId → List SubmitResult
queue_at queues p = slice_index_or queues p []

-- participant p's submissions among these, each paired with its result in p's queue
abbrev pub queued : List Submission → List (List SubmitResult) → ParticipantId → Results SubmitFault
queued submits queues p = results_of (submissions_of p submits) (queue_at queues p)

-- The queue of each participant has as many results as the participant has submissions, and none of them is or holds want of memory.
pub record AreQueuesOf (submits : List Submission) (queues : List (List SubmitResult)) : Type 0 where
  pub many : (p : ParticipantId) → p < length queues → length (queue_at queues p) ≡ length (submissions_of p submits)
  pub plain : (p : ParticipantId) → p < length queues → All IsPlainResult (queue_at queues p)
