-- What is known once all clients of a round are retired.
use Rattle.std.specs.Prelude.{◌≡◌, ℕ, ◌+◌, ◌≤◌, ◌<◌, List, length}
use mathlib.Core.List.{IsPrefix}
use Rattle.ledger_terms.specs.declared.submission.Submission.{Submission}
use Rattle.ledger_model.specs.Terms.{ParticipantId}
use Rattle.node_core.specs.declared.submit_result.SubmitResult.{SubmitResult}
use Rattle.prepare_request.specs.declared.submit_fault.SubmitFault.{SubmitFault}
use Rattle.threads_model.specs.Inputs.{inputs, tickets}
use Rattle.threads_model.specs.Shared.{ClientHas}
use Rattle.world_model.specs.Messages.{Entry}
use Rattle.world_model.specs.Machine.{Machine, GenuineLog}
use Rattle.world_model.specs.Rounds.{Why}
use Rattle.world_model.specs.Sequencing.{reserved}
use Rattle.world_model.specs.Settled.{sum_below}
use Rattle.shared_rounds.specs.Queues.{AreQueuesOf, queued}

-- What holds once the submissions `submits` of a round are answered: of the log `log`, which was `first` when they began, and of the queues of results,
-- one for each participant, in the order of the topology. `now` is the round's time, `paused` are those paused in it, and `why` tells why a submission
-- wants no request.
pub record AreAnswered (m : Machine) (why : Why SubmitFault) (now : ℕ) (paused : List ParticipantId) (first : List Entry) (submits : List Submission)
    (log : List Entry) (queues : List (List SubmitResult)) : Type 0 where
  -- the log is genuine, within its capacity, and goes on from `first`
  pub genuine : GenuineLog m log
  pub within_capacity : reserved log ≤ m.capacity
  pub begins : IsPrefix first log
  -- each participant has a queue, with one result for each of its submissions
  pub hosts : length queues ≡ m.hosts
  pub queues_of : AreQueuesOf submits queues
  -- what the results in each queue say is true of the log
  pub clients : (p : ParticipantId) → p < m.hosts → ClientHas m why now paused first log (queued submits queues p)
  -- as many requests and Ticks came into the log behind `first` as the clients were given tickets
  pub count : inputs log ≡ inputs first + sum_below (λ (p : ParticipantId). tickets (queued submits queues p)) m.hosts
