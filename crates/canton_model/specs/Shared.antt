-- What participants know of the contracts in which both have a part.
use Rattle.std.specs.Prelude.{List, filter}
use Rattle.ledger_model.specs.Terms.{ActiveRow, ParticipantId}
use Rattle.canton_model.specs.Inbox.{is_stakeholder_hosted}
use Rattle.canton_model.specs.Reading.{Reading}

-- those of a participant's active contracts that it shares with the participant `other`: `other` hosts a stakeholder of them
abbrev pub shared_with : Reading → ParticipantId → List ActiveRow → List ActiveRow
shared_with reading other rows = filter (λ (row : ActiveRow). is_stakeholder_hosted reading other row.known.instance) rows
