-- A participant that restarts.
use Rattle.std.specs.Prelude.{◌≡◌, ℕ, ◌<◌, ◌≤◌, ◌^◌, [], List, length}
use Rattle.canton_model.specs.Inbox.{inbox}
use Rattle.world_model.specs.Machine.{GenuineLog, Machine}
use Rattle.world_model.specs.Messages.{Entry}
use Rattle.world_model.specs.Places.{has_place}
use Rattle.ledger_terms.specs.declared.topology.Topology.{Topology}
use Rattle.lang_eval.specs.Found.{Packages}
use Rattle.framed_form.specs.FramedReading.{framed_reading}
use Rattle.pruned_inbox.specs.Base
use Rattle.pruned_inbox.specs.Start.{GoesOn}
use Rattle.node_state.specs.declared.node_state.NodeState.{NodeState as State}
use Rattle.node_core.specs.Answers.{IsOf}
use Rattle.node_core.specs.OverLog.{HasInbox}
use Rattle.node_core.specs.Participant.{HasRead, Participant, params_of, pruned_at, reading_of}
use Rattle.node_core.specs.States.{IsStateOf, is_done_from, items_in, owner_of, responses_from, start_in}

-- The participant p of the machine may restart, so that its state has a spelling: it has read all of the log, which is genuine and has fewer than
-- 2^15 entries, of at most 255 participants.
pub record CanRestart (m : Machine) (log : List Entry) (p : Participant) : Type 0 where
  pub is_of : IsOf m p
  pub hosts : length (p.topology).hosts ≤ 255
  pub genuine : GenuineLog m log
  pub short : length log < 2 ^ 15
  pub read : HasRead m log p

-- `pruned` is `state`, pruned to the base of its inbox: the state that the participant of `state` would have, had it been pruned there.
pub record IsPrunedFrom (topology : Topology) (packages : Packages) (state pruned : State) : Type 0 where
  pub base : pruned.base ≡ Base.base topology.params (items_in topology state)
  pub start : GoesOn (framed_reading topology packages) (items_in topology state) pruned.base (start_in state) (start_in pruned)
  pub is : IsStateOf (pruned_at pruned.base (start_in pruned) (owner_of topology packages state)) pruned

-- `after` is the participant `before` of the machine, restarted when it had read the log. It has read the same log, and forgotten what is below the
-- base of its inbox, with the jobs and responses to requests there. Nothing is unfinished: what wasn't finished is claimed again.
pub record HasRestarted (m : Machine) (log : List Entry) (before after : Participant) : Type 0 where
  pub topology : after.topology ≡ before.topology
  pub packages : after.packages ≡ before.packages
  pub me : after.me ≡ before.me
  pub base : after.base ≡ Base.base (params_of before) (inbox (reading_of before) before.me log)
  pub paused : (after.state).is_paused ≡ (before.state).is_paused
  pub claimed : (k : ℕ) → has_place (after.state).claimed k ≡ is_done_from after.base before.state k
  pub unfinished : (after.state).unfinished ≡ []
  pub outbox : (after.state).outbox ≡ responses_from after.base (before.state).outbox
  pub read : HasRead m log after
  pub inbox : HasInbox (inbox (reading_of before) before.me log) after
