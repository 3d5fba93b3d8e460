-- What a participant's duties are to its inbox.
use Rattle.std.specs.Prelude.{◌≡◌, ℕ, true, false, List, length}
use Rattle.ledger_model.specs.Terms.{ParticipantId}
use Rattle.canton_model.specs.Log.{Params}
use Rattle.canton_model.specs.Reading.{Reading}
use Rattle.canton_model.specs.Inbox.{Item}
use Rattle.world_model.specs.Places.{has_place}
use Rattle.world_model.specs.Node.{owes_at, waits_at}
use Rattle.node_core.specs.Duties.{AreToDistinct, Kept, IsPassed}
use Rattle.node_core.specs.Participant.{is_received_decided, places_where}

-- The duties (`kept`) of participant p fit its inbox. The owed places are those of all requests to which it owes verdicts, and the passed ones among
-- them are decided or claimed. Each claimed place is an owed one. Each unfinished place is claimed, and so is each to which a response waits. No
-- response waits to an unfinished place, and no two wait to one place.
pub record IsKept (reading : Reading) (params : Params) (p : ParticipantId) (items : List Item) (kept : Kept) : Type 0 where
  pub owed : kept.owed ≡ places_where (owes_at reading p items) 0 (length items)
  pub passed : IsPassed (is_received_decided params items) kept
  pub claimed : (k : ℕ) → has_place kept.claimed k ≡ true → owes_at reading p items k ≡ true
  pub unfinished : (k : ℕ) → has_place kept.unfinished k ≡ true → has_place kept.claimed k ≡ true
  pub outbox : (k : ℕ) → waits_at kept.outbox k ≡ true → has_place kept.claimed k ≡ true
  pub finished : (k : ℕ) → waits_at kept.outbox k ≡ true → has_place kept.unfinished k ≡ false
  pub once : AreToDistinct kept.outbox
