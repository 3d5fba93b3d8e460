-- What a store is to its callers, and what it keeps.
use Rattle.std.specs.Prelude.{◌≡◌, ℕ, Bool, List, Option, IsSome}
use Rattle.std.specs.Str.{bytes_eq}
use Rattle.std.specs.List.{list_any}
use Rattle.ledger_model.specs.Terms.{Hash}
use Rattle.indexmap.specs.IndexMap.{IndexMap, spare as map_spare}
use Rattle.contract_store.specs.declared.hold.Hold.{Hold}
use Rattle.contract_store.specs.declared.hold.KeptHold.{KeptHold}
use Rattle.contract_store.specs.declared.row.StoreRow.{StoreRow}
use Rattle.contract_store.specs.declared.row.KeptRow.{KeptRow}
use Rattle.contract_store.specs.declared.contract_places.ContractPlaces.{ContractPlaces}
use Rattle.contract_store.specs.Leads.{row_behind, hold_behind}
use Rattle.contract_store.specs.Holds.{LeadsToHolds}
use Rattle.contract_store.specs.KeptRows.{LeadsToRows}

-- what contracts see of a store: its rows and holds, and the room that was made ahead
pub record Stored : Type 0 where
  -- one for each contract, in the order in which they came
  pub rows : List StoreRow
  -- those that were not released, in the order in which they came
  pub holds : List Hold
  -- the ids for which there is room
  pub ready : List Hash
  -- how many more changes and holds, counted together, take no memory
  pub spare : ℕ
  -- how many holds are kept, those that were released too
  pub kept : ℕ

-- whether a contract was made ready: a change of it and a hold on it take no memory for its id
abbrev pub is_ready : List Hash → Hash → Bool
is_ready ready c = list_any (bytes_eq c) ready

-- whether some request holds the contract with this id
abbrev pub is_held : List Hold → Hash → Bool
is_held holds c = list_any (λ (h : Hold). bytes_eq h.id c) holds

-- how many more entries a map takes without asking for memory: the kit's `spare` of a map, under a name that contracts of this and other crates use
abbrev pub map_room : {K X S : Type 0} → IndexMap K X S → ℕ
map_room m = map_spare m

-- The maps of a store lead to what it keeps: `ids` from each id to its contract's row and to the holds on it, `salts` from each salt to the rows with
-- it, and `places` from each place to the holds of its request.
pub record LeadsToAll (rows : List KeptRow) (holds : List KeptHold) (ids : List ℕ → Option ContractPlaces) (salts : List ℕ → Option ℕ)
    (places : ℕ → Option ℕ) : Type 0 where
  pub to_rows : LeadsToRows rows (λ c. row_behind (ids c)) salts
  pub to_holds : LeadsToHolds holds (λ c. hold_behind (ids c)) places

-- The second map has all keys of the first, which lead to what they led to, and what other keys it has lead to no row and no hold. So a map of ids
-- becomes where contracts are made ready.
pub record Grows (ids ids' : List ℕ → Option ContractPlaces) : Type 0 where
  pub by_row : (c : List ℕ) → row_behind (ids' c) ≡ row_behind (ids c)
  pub by_hold : (c : List ℕ) → hold_behind (ids' c) ≡ hold_behind (ids c)
  pub kept : (c : List ℕ) → IsSome (ids c) → IsSome (ids' c)
