-- The rows of contracts that changes make, each behind its contract's id.
use Rattle.std.specs.Prelude.{◌≡◌, ℕ, Bool, false, List, [], ◌∷◌, Option, Some, None, if◌then◌else◌, is_some, unwrap_or}
use Rattle.ledger_terms.specs.declared.known.Known.{Known}
use Rattle.ledger_model.specs.Terms.{Hash}
use Rattle.contract_store.specs.Rows.{with_created, with_consumed}
use Rattle.contract_store.specs.declared.row.StoreRow.{StoreRow}
use Rattle.inbox_registry.specs.declared.change.Change.{Change}

-- The row of a contract as long as nothing has created or consumed it.
abbrev pub new_row : Known → StoreRow
new_row known = record { known = known; created_at = None; consumed_at = None }

-- A contract's row after the request at a place created the contract (`is_create`), or else consumed it. Of two places of one kind the smaller stays.
abbrev pub changed_row : ℕ → (is_create : Bool) → StoreRow → StoreRow
changed_row place is_create row = if is_create then with_created place row else with_consumed place row

-- A contract's row after a change by the request at a place, where `before` is the row that there was, or None.
abbrev pub row_after : ℕ → Change → Option StoreRow → StoreRow
row_after place change before = changed_row place change.is_create (unwrap_or before (new_row change.known))

-- In each of these pairs the id is that of the row's contract, as it always is in `LiveRows`.
abbrev pub AreById : List (Hash × StoreRow) → Type 0
AreById [] = Unit {0}
AreById (entry ∷ entries) = (entry.0 ≡ entry.1.known.id) × AreById entries

-- Whether there is a row and its contract was consumed, as `LiveRows::is_consumed` asks of an id's row.
abbrev pub has_consumed_row : Option StoreRow → Bool
has_consumed_row None = false
has_consumed_row (Some row) = is_some row.consumed_at
