-- What one entry of the log tells of a request.
use Rattle.std.specs.Prelude.{ℕ, Bool, false, Option, Some, None, find, nat_eq}
use Rattle.ledger_model.specs.Terms.{ParticipantId}
use Rattle.world_model.specs.Messages.{Request}
use Rattle.world_model.specs.Places.{has_place}

-- whether the request asks participant p for a response; false where there is no request (None)
abbrev pub asks : (p : ℕ) → Option Request → Bool
asks p None = false
asks p (Some request) = has_place request.confirming p

-- p, where the request asks participant p; None where it doesn't, or there is no request
abbrev pub asked : (p : ℕ) → Option Request → Option ParticipantId
asked p None = None
asked p (Some request) = find (nat_eq p) request.confirming
