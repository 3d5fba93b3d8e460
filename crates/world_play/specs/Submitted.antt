-- What a synchroniser answers to a submission, with the slip of its request.
use Rattle.std.specs.Prelude.{◌≡◌, ◌+◌, Result, Ok, Err}
use Rattle.ledger_terms.specs.declared.submission.Submission.{Submission}
use Rattle.ledger_terms.specs.declared.topology.Topology.{Topology}
use Rattle.log_row.specs.LogPrefix.{LogPrefix}
use Rattle.lang_eval.specs.Found.{Packages}
use Rattle.world_model.specs.Lawful.{Lawful}
use Rattle.world_model.specs.Machine.{Machine}
use Rattle.world_model.specs.Mediator.{MediatorState}
use Rattle.world_model.specs.Rounds.{Round}
use Rattle.prepare_request.specs.declared.submit_fault.SubmitFault.TheVariants.{Memory}
use Rattle.seq_log.specs.Sequenced.{Sequenced, prefix_of}
use Rattle.seq_log.specs.Slips.{prefix_to}
use Rattle.node_core.specs.declared.submit_refusal.SubmitRefusal.{SubmitRefusal}
use Rattle.node_core.specs.declared.submit_result.SubmitResult.{SubmitResult}
use Rattle.node_core.specs.declared.submit_result.SubmitResult.TheVariants.{Refused, Sent}
use Rattle.world_play.specs.Answering.{IsAnswer}
use Rattle.world_play.specs.Flags.{ArePaused}
use Rattle.world_play.specs.Submitting.{AreSetUp}
use Rattle.world_play.specs.WorldOf.{IsWorldOf, world_of}
use Rattle.world_play.specs.declared.world.World.{World}

-- What `World::submit` returns for an answer, with the sequencer after it: for Sent the slip of the request's entry, which ties the log up to that entry;
-- for Refused an Err with the same fault and the same number of entries read.
abbrev pub IsSlipOf : SubmitResult → Sequenced → Result LogPrefix SubmitRefusal → Type 0
IsSlipOf (Sent place read_to) log (Ok slip) = slip ≡ prefix_to (prefix_of log) (place + 1)
IsSlipOf (Sent place read_to) log (Err refusal) = ⊥
IsSlipOf (Refused fault read_to) log (Ok slip) = ⊥
IsSlipOf (Refused fault read_to) log (Err refusal) = refusal ≡ record { fault = fault; read_to = read_to }

-- the result is an Err for want of memory
abbrev pub IsOutOfMemory : Result LogPrefix SubmitRefusal → Type 0
IsOutOfMemory (Ok slip) = ⊥
IsOutOfMemory (Err refusal) = refusal.fault ≡ Memory

-- The submission `what`, made to the lawful world `before`, has this answer and makes the world `after`: the answer and the log after it are those of
-- the submission's participant, in whatever round pauses just the participants that are paused in `before`.
abbrev pub IsAnsweredBy : SubmitResult → World → Submission → World → Type 0
IsAnsweredBy answer before what after =
    (m : Machine) (state : MediatorState) (topology : Topology) (packages : Packages) (round : Round) → IsWorldOf m state before
    → Lawful m (world_of state before) → AreSetUp topology packages (before.nodes).items → ArePaused round.paused (before.nodes).items
    → IsAnswer m topology packages before.now round (before.sequencer).list what answer (after.sequencer).list
