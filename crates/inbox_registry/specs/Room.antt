-- Room in a store for changes.
use Rattle.std.specs.Prelude.{◌≡◌, ◌≤◌, ℕ, true, All, List, length}
use Rattle.ledger_model.specs.Terms.{Hash}
use Rattle.contract_store.specs.Stored.{is_ready}
use Rattle.inbox_registry.specs.declared.change.Change.{Change}

-- the contract of a change is among those that the store has made ready
abbrev pub IsPrepared : List Hash → Change → Type 0
IsPrepared ready change = is_ready ready (change.known).id ≡ true

-- A store with these ready ids and room for `spare` changes can take these changes without memory.
pub record HasRoom (ready : List Hash) (spare : ℕ) (changes : List Change) : Type 0 where
  pub room : length changes ≤ spare
  pub each : All (IsPrepared ready) changes
