-- Requests whose logs have a spelling.
use Rattle.std.specs.Prelude.{◌≤◌, Contains, length}
use Rattle.ledger_terms.specs.declared.limits.TheConstants.{MOST_ACTION_DEPTH}
use Rattle.ledger_model.specs.Terms.{ParticipantId, Path}
use Rattle.canton_model.specs.declared.request.Request.{Request}
use Rattle.canton_model.specs.Reading.{Reading, paths_confirmed}
use Rattle.message_bytes.specs.Reading.{MOST_OF_TWO_BYTES}
use Rattle.log_dump.specs.Spellable.{IsSpellableRequest}

-- The request has room in a spelling, and so has each response to it: each participant confirms at most 65,535 of its views, as `reading` tells them,
-- with paths of at most 16 steps.
pub record HasRoom (reading : Reading) (request : Request) : Type 0 where
  pub spellable : IsSpellableRequest request
  pub few : (p : ParticipantId) → length (paths_confirmed reading p request) ≤ MOST_OF_TWO_BYTES
  pub short : (p : ParticipantId) (path : Path) → Contains (paths_confirmed reading p request) path → length path ≤ MOST_ACTION_DEPTH
