-- What comes of one submission.
use Rattle.std.specs.Prelude.{◌⊎◌, ℕ, ◌<◌, List, length}
use Rattle.ledger_terms.specs.declared.submission.Submission.{Submission}
use Rattle.ledger_terms.specs.declared.topology.Topology.{Topology}
use Rattle.lang_eval.specs.Found.{Packages}
use Rattle.world_model.specs.Messages.{Entry}
use Rattle.world_model.specs.Machine.{Machine}
use Rattle.world_model.specs.Rounds.{Round, read_at, wanted_at}
use Rattle.world_model.specs.Plain.{AnswersWanted, IsAwakeAnswer, IsPausedAnswer}
use Rattle.seq_log.specs.Sequenced.{Sequenced}
use Rattle.node_core.specs.Participant.{Participant as NodeValue}
use Rattle.node_core.specs.declared.submit_result.SubmitResult.{SubmitResult}
use Rattle.node_core.specs.Machines.{why_of}
use Rattle.world_play.specs.Results.{result_of}
use Rattle.world_play.specs.Parts.{IsParticipant}
use Rattle.world_play.specs.Submitting.{CanSubmit}

-- What `answer` asks: the node is the participant of the submission `what` and one of the topology, it has read a beginning of the sequencer's log,
-- which is genuine, the topology is valid, and the packages and the submission name only parties of it.
pub record CanAnswer (m : Machine) (node : NodeValue) (what : Submission) (sequencer : Sequenced) : Type 0 where
  pub is : IsParticipant m what.participant node sequencer
  pub is_host : what.participant < length (node.topology).hosts
  pub can : CanSubmit node.topology node.packages what

-- What a participant that isn't paused and has read all of the log `before` answers to the submission at the time `now`; `after` is the log with what it
-- handed in.
abbrev pub AnswersAwake : Machine → Topology → Packages → (now : ℕ) → (before : List Entry) → Submission → SubmitResult → (after : List Entry)
    → Type 0
AnswersAwake m topology packages now before what answer after =
    AnswersWanted m (why_of topology packages what (read_at m before what (length before)) now) now before (wanted_at m now before what (length before))
    (result_of answer) after

-- What a participant, paused or not, answers to the submission in a round whose time is `now`; `before` is the log before the answer, and `after` the log
-- after it.
abbrev pub IsAnswer : Machine → Topology → Packages → (now : ℕ) → Round → (before : List Entry) → Submission → SubmitResult
    → (after : List Entry) → Type 0
IsAnswer m topology packages now round before what answer after =
    IsPausedAnswer round before what (result_of answer) after
    ⊎ IsAwakeAnswer m (why_of topology packages) now round before what (result_of answer) after
