-- What an inbox leaves at a place, by the rows of its contracts.
use Rattle.std.specs.Prelude.{Bool, not, List, [], ◌∷◌, Option, Some, None, if◌then◌else◌, is_some}
use Rattle.ledger_terms.specs.declared.active_row.ActiveRow.{ActiveRow}
use Rattle.ledger_model.specs.Terms.{Hash}
use Rattle.contract_store.specs.declared.row.StoreRow.{StoreRow}
use Rattle.pruned_inbox.specs.Start.{Start, is_gone}

-- Whether the contract of a row isn't gone by the start.
abbrev pub stays : Start → ActiveRow → Bool
stays start row = not (is_gone start row.known.id)

-- The ids of the consumed contracts among a store's rows, in order.
abbrev pub consumed_in : List StoreRow → List Hash
consumed_in [] = []
consumed_in (row ∷ rows) = if is_some row.consumed_at then row.known.id ∷ consumed_in rows else consumed_in rows

-- The id of a row's contract, as a list of one, where there is a row and its contract was consumed, and else no id: what the row at one index adds in
-- `gone_in`.
abbrev pub consumed_at : Option StoreRow → List Hash
consumed_at None = []
consumed_at (Some row) = consumed_in (row ∷ [])
