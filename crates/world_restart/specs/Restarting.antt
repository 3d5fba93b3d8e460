-- Participants of a synchroniser that restart.
use Rattle.std.specs.Prelude.{◌≡◌, ℕ, true, false, List, [], Some, length, slice_get, if◌then◌else◌}
use Rattle.canton_model.specs.Inbox.{inbox}
use Rattle.canton_model.specs.Log.{Params}
use Rattle.canton_model.specs.Reading.{Reading}
use Rattle.ledger_model.specs.Terms.{ParticipantId}
use Rattle.pruned_inbox.specs.Base
use Rattle.world_model.specs.Machine.{Machine}
use Rattle.world_model.specs.Messages.{Entry}
use Rattle.world_model.specs.Places.{has_place}
use Rattle.seq_log.specs.Sequenced.{Sequenced}
use Rattle.node_core.specs.Bases.{Bases}
use Rattle.node_core.specs.OverLog.{HasInbox}
use Rattle.node_core.specs.Participant.{Participant as NodeValue, items_of, params_of, reading_of}
use Rattle.node_core.specs.States.{is_done_from, responses_from}
use Rattle.world_play.specs.Parts.{IsParticipant}

-- `after` is the participant that `before` was, restarted: it has read to the end of the log, and forgotten what is below the base of its inbox there. It is
-- paused as it was. From its base on it knows which jobs it did and keeps the responses that wait, and no job is unfinished.
pub record IsRestarted (log : List Entry) (before after : NodeValue) : Type 0 where
  pub topology : after.topology ≡ before.topology
  pub packages : after.packages ≡ before.packages
  pub me : after.me ≡ before.me
  pub cursor : length (items_of after) ≡ length log
  pub base : after.base ≡ Base.base (params_of before) (inbox (reading_of before) before.me log)
  pub inbox : HasInbox (inbox (reading_of before) before.me log) after
  pub paused : (after.state).is_paused ≡ (before.state).is_paused
  pub claimed : (k : ℕ) → has_place (after.state).claimed k ≡ is_done_from after.base before.state k
  pub unfinished : (after.state).unfinished ≡ []
  pub outbox : (after.state).outbox ≡ responses_from after.base (before.state).outbox

-- Of all participants of a synchroniser, in order of the topology, before and after: each that is among `participants` has restarted at the end of
-- the log, and each other is as it was.
pub record AreRestarted (participants : List ParticipantId) (log : List Entry) (before after : List NodeValue) : Type 0 where
  pub many : length after ≡ length before
  pub each : (p : ParticipantId) (x y : NodeValue) → slice_get before p ≡ Some x → slice_get after p ≡ Some y → has_place participants p ≡ true
      → IsRestarted log x y
  pub others : (p : ParticipantId) (x y : NodeValue) → slice_get before p ≡ Some x → slice_get after p ≡ Some y → has_place participants p ≡ false
      → y ≡ x

-- The bases once these participants have restarted at the end of the log: of each of them the greatest place at which every request that it
-- received below is decided, and of each other the one that it had.
abbrev pub bases_after : Reading → Params → List Entry → List ParticipantId → Bases → Bases
bases_after reading params log participants bases p = if has_place participants p then Base.base params (inbox reading p log) else bases p

-- `after` is the same participant as `before`: with the sequencer's log it is one of each machine of which `before` is one. It has the same topology
-- and packages, and is paused or not as before. It may have read more, or have restarted.
pub record StaysParticipant (sequencer : Sequenced) (before after : NodeValue) : Type 0 where
  pub topology : after.topology ≡ before.topology
  pub packages : after.packages ≡ before.packages
  pub paused : (after.state).is_paused ≡ (before.state).is_paused
  pub is : (m : Machine) (p : ParticipantId) → IsParticipant m p before sequencer → IsParticipant m p after sequencer

-- Of all participants of a synchroniser, in order of the topology, before and after: each is the same as before, with the same topology and packages,
-- and paused or not as before. It may have read more, or have restarted.
pub record AllStay (sequencer : Sequenced) (before after : List NodeValue) : Type 0 where
  pub many : length after ≡ length before
  pub each : (p : ParticipantId) (x y : NodeValue) → slice_get before p ≡ Some x → slice_get after p ≡ Some y → StaysParticipant sequencer x y
