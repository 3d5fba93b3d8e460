-- Participants that have read short logs.
use Rattle.std.specs.Prelude.{◌≡◌, ℕ, ◌<◌, ◌≤◌, ◌^◌, true, Contains, List, length}
use Rattle.canton_model.specs.Genuine.{Genuine}
use Rattle.canton_model.specs.Inbox.{inbox}
use Rattle.canton_model.specs.declared.response.Response.{Response}
use Rattle.world_model.specs.Messages.{Entry}
use Rattle.world_model.specs.Node.{owed_at}
use Rattle.world_model.specs.Places.{has_place}
use Rattle.node_state.specs.declared.node_state.NodeState.{NodeState as State}
use Rattle.node_core.specs.Participant.{IsPrunedTo, Participant, params_of, reading_of}
use Rattle.node_core.specs.States.{IsStateOf}

-- What a participant p needs so that its state has a spelling. It has read a genuine log of fewer than 2^15 entries, of at most 255 participants, and
-- keeps the inbox of it from its base on. It has claimed places of the log alone, and each response that waits is to a place of the log, with the
-- verdicts that it owes there. `state` is the state of p.
pub record HasReadShort (p : Participant) (log : List Entry) (state : State) : Type 0 where
  pub hosts : length (p.topology).hosts ≤ 255
  pub genuine : Genuine (reading_of p) (params_of p) log
  pub short : length log < 2 ^ 15
  pub pruned : IsPrunedTo (inbox (reading_of p) p.me log) p
  pub claims : (k : ℕ) → has_place (p.state).claimed k ≡ true → k < length log
  pub answers : (response : Response) → Contains (p.state).outbox response → response.request < length log
  pub owed : (response : Response) → Contains (p.state).outbox response
      → response.verdicts ≡ owed_at (reading_of p) (params_of p) p.me (inbox (reading_of p) p.me log) response.request
  pub state_is : IsStateOf p state
