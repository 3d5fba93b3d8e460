-- What a client knows of its own submissions.
use Rattle.std.specs.Prelude.{◌≡◌, ℕ, All, List, length}
use Rattle.ledger_terms.specs.declared.submission.Submission.{Submission}
use Rattle.ledger_model.specs.Terms.{ParticipantId}
use Rattle.node_core.specs.declared.submit_result.SubmitResult.{SubmitResult}
use Rattle.prepare_request.specs.declared.submit_fault.SubmitFault.{SubmitFault}
use Rattle.threads_model.specs.Inputs as inputs
use Rattle.threads_model.specs.Inputs.{submissions_of}
use Rattle.threads_model.specs.Clients.{ClientAnswers}
use Rattle.world_model.specs.Messages.{Entry}
use Rattle.world_model.specs.Machine.{Machine}
use Rattle.world_model.specs.Rounds.{Why}
use Rattle.world_play.specs.Results.{IsPlainResult, results_of}
use Rattle.sync_shared.specs.Clients.{Seen}

-- What participant p's client, which had seen the entries `first` when it began, has come back with: a result for each submission among `submits` that
-- is its participant's, in order, each true by what the client had seen. `now` is the round's time, `paused` are those paused in it, and `why` tells
-- why a submission wants no request.
pub record IsServed (m : Machine) (why : Why SubmitFault) (now : ℕ) (paused : List ParticipantId) (first : List Entry) (submits : List Submission)
    (p : ParticipantId) (client : Seen) (results : List SubmitResult) : Type 0 where
  -- the client is that of participant p
  pub mine : client.me ≡ p
  -- each of its submissions has a result
  pub many : length results ≡ length (submissions_of p submits)
  -- no result is or holds want of memory
  pub plain : All IsPlainResult results
  -- what each result says is true, by what the client had seen when it was answered
  pub answers : ClientAnswers m why now paused first (results_of (submissions_of p submits) results) client.list
  -- it was given a ticket for each request that was sent
  pub counted : client.tickets ≡ inputs.tickets (results_of (submissions_of p submits) results)
