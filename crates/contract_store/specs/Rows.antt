-- The rows of a store: one for each contract, in the order in which they came.
use Rattle.std.specs.Prelude.{◌≡◌, ℕ, suc, Bool, false, List, [], ◌∷◌, Option, Some, None, option_map, is_some, if◌then◌else◌, map, min, find}
use Rattle.std.specs.Str.{bytes_eq}
use Rattle.std.specs.List.{list_any}
use Rattle.ledger_model.specs.Terms.{Hash}
use Rattle.ledger_terms.specs.declared.known.Known.{Known}
use Rattle.ledger_model.specs.declared.status.Status.{Status}
use Rattle.ledger_model.specs.declared.status.Status.TheVariants.{Unknown, Active, Consumed}
use Rattle.contract_store.specs.declared.row.StoreRow.{StoreRow}

-- whether the row is that of the contract with this id
abbrev pub is_of : Hash → StoreRow → Bool
is_of c row = bytes_eq row.known.id c

-- the row of the contract with this id, and None where it has none
abbrev pub row_of : Hash → List StoreRow → Option StoreRow
row_of c rows = find (is_of c) rows

-- the smaller of two places, and the second where the first isn't there
abbrev pub smaller : Option ℕ → ℕ → ℕ
smaller None place = place
smaller (Some before) place = min before place

-- the row after its contract is created by the request at this place; of several such places it keeps the least
abbrev pub with_created : ℕ → StoreRow → StoreRow
with_created place row = record row { created_at = Some (smaller row.created_at place) }

-- the row after its contract is consumed by the request at this place; of several such places it keeps the least
abbrev pub with_consumed : ℕ → StoreRow → StoreRow
with_consumed place row = record row { consumed_at = Some (smaller row.consumed_at place) }

-- the rows after the contract of the new row (second argument) has changed: its row as the first argument changes it, and where it has none the new
-- row comes last
abbrev pub put : (StoreRow → StoreRow) → StoreRow → List StoreRow → List StoreRow
put f new [] = new ∷ []
put f new (row ∷ rows) = if is_of new.known.id row then f row ∷ rows else row ∷ put f new rows

-- the rows after this contract is created by the request at a place
abbrev pub created : Known → ℕ → List StoreRow → List StoreRow
created known place rows = put (with_created place) (record { known = known; created_at = Some place; consumed_at = None }) rows

-- the rows after this contract is consumed by the request at a place
abbrev pub consumed : Known → ℕ → List StoreRow → List StoreRow
consumed known place rows = put (with_consumed place) (record { known = known; created_at = None; consumed_at = Some place }) rows

-- The status that a row says of its contract: consumed, else active where it was created. Unknown where there is no row.
abbrev pub status_of : Option StoreRow → Status
status_of None = Unknown
status_of (Some row) = if is_some row.consumed_at then Consumed else if is_some row.created_at then Active else Unknown

-- the status that these rows say of the contract with this id: Unknown where it has none
abbrev pub status_in : List StoreRow → Hash → Status
status_in rows c = status_of (row_of c rows)

-- the id of a row's contract
abbrev pub row_id : StoreRow → Hash
row_id row = row.known.id

-- no two of the ids are the same
abbrev pub Distinct : List Hash → Type 0
Distinct [] = Unit {0}
Distinct (id ∷ ids) = (list_any (λ c. bytes_eq c id) ids ≡ false) × Distinct ids

-- no contract has two rows
abbrev pub OneRowEach : List StoreRow → Type 0
OneRowEach rows = Distinct (map row_id rows)

-- the index of the first item that passes the test, counted from 0, and None where none does
abbrev pub first_index : {X : Type 0} → (X → Bool) → List X → Option ℕ
first_index p [] = None
first_index p (x ∷ xs) = if p x then Some 0 else option_map suc (first_index p xs)
