-- What a lane holds outside every lock.
use Rattle.std.specs.Prelude.{◌≡◌, ◌<◌, ◌≤◌}
use Rattle.ledger_model.specs.Terms.{ParticipantId}
use Rattle.canton_model.specs.Inbox.{inbox}
use Rattle.world_model.specs.Machine.{Machine}
use Rattle.world_model.specs.Locks.{Claimed}
use Rattle.world_model.specs.Fits.{IsOwed}
use Rattle.world_model.specs.Node.{owed_at}
use Rattle.log_row.specs.LogPrefix.{RowName}
use Rattle.validate_job.specs.Owed.{owed_on_each}
use Rattle.node_core.specs.Bases.{Bases}
use Rattle.sync_shared.specs.Slips.{read_to, InRow}
use Rattle.sync_shared.specs.declared.node_step.ClaimedJob.{ClaimedJob}
use Rattle.sync_shared.specs.declared.node_step.CopiedResponse.{CopiedResponse}
use Rattle.sync_shared.specs.declared.node_step.NodeStep.{NodeStep}
use Rattle.sync_shared.specs.declared.node_step.NodeStep.TheVariants.{Done, Check, Send}

-- Participant p has claimed the job, which has a view left to check and whose place isn't below p's base, when it had read what the slip `known` ties;
-- and the verdicts on the job's views are those that p owes there.
pub record IsClaimed (row : RowName) (m : Machine) (bases : Bases) (p : ParticipantId) (c : ClaimedJob) : Type 0 where
  pub in_row : InRow row c.known
  pub left : 0 < c.job.left
  pub claimed : Claimed m p (read_to c.known) c.job.given.place
  pub base : bases p ≤ c.job.given.place
  pub verdicts : owed_on_each c.job.given.input c.job.given.views ≡ owed_at m.reading m.params p (inbox m.reading p (read_to c.known)) c.job.given.place

-- the response is owed by what its participant had read when the response was copied, that is what the slip `known` ties
pub record IsCopied (row : RowName) (m : Machine) (c : CopiedResponse) : Type 0 where
  pub in_row : InRow row c.known
  pub owed : IsOwed m.reading m.params (read_to c.known) c.response

-- What holds of a step of participant p, which is what its turn leaves to be done outside its lock: nothing, the check of a job that it has claimed
-- (`IsClaimed`), or the sending of a response that it owes (`IsCopied`).
abbrev pub IsStep : RowName → Machine → Bases → ParticipantId → NodeStep → Type 0
IsStep row m bases p Done = Unit {0}
IsStep row m bases p (Check claimed) = IsClaimed row m bases p claimed
IsStep row m bases p (Send copied) = IsCopied row m copied
