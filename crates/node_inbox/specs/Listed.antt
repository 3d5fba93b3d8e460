-- The active contracts among rows, in the order of the rows.
use Rattle.std.specs.Prelude.{ℕ, Bool, List, [], ◌∷◌, Option, Some, None}
use Rattle.ledger_model.specs.Terms.{ParticipantId}
use Rattle.ledger_terms.specs.declared.active_row.ActiveRow.{ActiveRow}
use Rattle.ledger_terms.specs.declared.known.Known.{Known}
use Rattle.canton_model.specs.Inbox.{is_stakeholder_hosted}
use Rattle.contract_store.specs.Active.{active}
use Rattle.contract_store.specs.declared.row.StoreRow.{StoreRow}
use Rattle.canton_model.specs.Reading.{Reading}

-- The place of creation of a contract that is active, and None otherwise. The arguments are the places where it was created and where it was
-- consumed, each None where it wasn't.
abbrev pub since_of : Option ℕ → Option ℕ → Option ℕ
since_of created None = created
since_of created (Some consumed) = None

-- The place of creation of a row's contract where it is active, and None where it was consumed or nothing created it.
abbrev pub active_since : StoreRow → Option ℕ
active_since row = since_of row.created_at row.consumed_at

-- The row of an active contract that was created at a place.
abbrev pub active_row_of : ℕ → Known → ActiveRow
active_row_of place known = record { created_at = place; known = known }

-- The rows with one more in front of them, where there is one.
abbrev pub listed_if : Option ActiveRow → List ActiveRow → List ActiveRow
listed_if None rows = rows
listed_if (Some row) rows = row ∷ rows

-- The active contracts among a store's rows, in the order of the rows.
abbrev pub listed : List StoreRow → List ActiveRow
listed [] = []
listed (row ∷ rows) = listed_if (active row) (listed rows)

-- The active contract of a row, as a list of one, where there is a row and its contract is active, and else an empty list: what the row at one index
-- adds to a list of active contracts.
abbrev pub listed_at : Option StoreRow → List ActiveRow
listed_at None = []
listed_at (Some row) = listed (row ∷ [])

-- Whether participant p hosts a stakeholder of the contract of a row.
abbrev pub is_offered : Reading → ParticipantId → ActiveRow → Bool
is_offered reading p row = is_stakeholder_hosted reading p row.known.instance
