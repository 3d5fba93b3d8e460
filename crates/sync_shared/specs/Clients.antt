-- What contracts see of a client and of a ticket.
use Rattle.std.specs.Prelude.{◌≡◌, ℕ, ◌+◌, List, Some, length}
use Rattle.ledger_model.specs.Terms.{ParticipantId}
use Rattle.canton_model.specs.Log.{request_at}
use Rattle.world_model.specs.Messages.{Entry, Request}
use Rattle.log_row.specs.LogPrefix.{RowName}

-- what contracts see of a client: the entries of the log that it has seen, how many tickets it was given, and whose client it is
pub record Seen : Type 0 where
  pub list : List Entry
  pub tickets : ℕ
  pub me : ParticipantId

-- What contracts see of a ticket: the log's history, the entries up to the request and with it, the request's place, how many entries its participant had
-- read when it prepared the request, and which participant that is.
pub record TicketValue : Type 0 where
  pub row : RowName
  pub list : List Entry
  pub place : ℕ
  pub read_to : ℕ
  pub me : ParticipantId

-- a request of the participant `me` is the last entry of the list, and stands at this place
pub record IsRequestBy (me : ParticipantId) (place : ℕ) (list : List Entry) : Type 0 where
  pub last : length list ≡ place + 1
  pub request : Request
  pub there : request_at list place ≡ Some request
  pub sender : request.sender ≡ me
