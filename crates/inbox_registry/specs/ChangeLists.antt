-- Changes of contracts as they are handed to a store.
use Rattle.std.specs.Prelude.{ℕ, List, [], ◌∷◌, if◌then◌else◌, map, filter}
use Rattle.ledger_terms.specs.declared.act.Act.{Act}
use Rattle.ledger_model.specs.Terms.{Hash, is_create}
use Rattle.contract_store.specs.Rows.{created, consumed}
use Rattle.contract_store.specs.Written.{contract_of, is_change}
use Rattle.contract_store.specs.declared.hold.Hold.{Hold}
use Rattle.contract_store.specs.declared.row.StoreRow.{StoreRow}
use Rattle.inbox_registry.specs.declared.change.Change.{Change}

-- an action that is a Create or a consuming Exercise as the change that it makes of its contract
abbrev pub change_of : Act → Change
change_of act = record { known = contract_of act; is_create = is_create act.action }

-- the changes that these actions make: one for each Create and each consuming Exercise, in order
abbrev pub changes_of : List Act → List Change
changes_of actions = map change_of (filter is_change actions)

-- the id of the contract that a change is of
abbrev pub id_in : Change → Hash
id_in change = change.known.id

-- the hold of the request at a place on the contract with this id
abbrev pub hold_on : ℕ → Hash → Hold
hold_on place id = record { id = id; place = place }

-- the rows of a store after this change by the request at a place: a creation or a consumption
abbrev pub write_change : ℕ → Change → List StoreRow → List StoreRow
write_change place change rows =
    if change.is_create then created change.known place rows else consumed change.known place rows

-- the rows of a store after these changes by the request at a place, in order
abbrev pub write_changes : ℕ → List Change → List StoreRow → List StoreRow
write_changes place [] rows = rows
write_changes place (change ∷ changes) rows = write_changes place changes (write_change place change rows)
