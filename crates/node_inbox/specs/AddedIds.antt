-- The contracts with a hosted stakeholder that changes bring into a store, and whether they are new to it.
use Rattle.std.specs.Prelude.{◌≡◌, Bool, true, false, List, [], ◌∷◌, ◌++◌, if◌then◌else◌, ◌&&◌, ◌||◌, not}
use Rattle.std.specs.List.{list_any}
use Rattle.std.specs.Str.{bytes_eq}
use Rattle.ledger_model.specs.Terms.{Hash, ParticipantId}
use Rattle.ledger_model.specs.declared.status.Status.{Status}
use Rattle.ledger_model.specs.declared.status.Status.TheVariants.{Unknown, Active, Consumed}
use Rattle.canton_model.specs.Inbox.{is_stakeholder_hosted}
use Rattle.canton_model.specs.Reading.{Reading}
use Rattle.pruned_inbox.specs.Start.{Start, is_gone}
use Rattle.contract_store.specs.Rows.{status_in}
use Rattle.contract_store.specs.declared.row.StoreRow.{StoreRow}
use Rattle.prepare_request.specs.Hosted.{is_among}
use Rattle.inbox_registry.specs.declared.change.Change.{Change}

-- Whether a status is Unknown: nothing that is known created or consumed the contract.
abbrev pub is_unknown : Status → Bool
is_unknown Unknown = true
is_unknown Active = false
is_unknown Consumed = false

-- Whether a contract with this id is new: it is unknown by the store's rows, and its id isn't among `changed`, those of the contracts that
-- earlier changes are on.
abbrev pub is_unheard : List StoreRow → (changed : List Hash) → Hash → Bool
is_unheard rows changed id = is_unknown (status_in rows id) && not (is_among changed id)

-- Whether a change is on the contract with this id. By it `added_ids` looks for earlier changes of a contract.
abbrev pub is_on : Hash → Change → Bool
is_on id change = bytes_eq id change.known.id

-- Whether a change creates a contract that is unknown by the store's rows and that no earlier change is on. `changed` has the ids that
-- earlier changes are on.
abbrev pub is_new : List StoreRow → (changed : List Hash) → Change → Bool
is_new rows changed change = change.is_create && is_unheard rows changed change.known.id

-- A list of the one id of a change's contract, where `is_new` is true and participant p hosts a stakeholder of the contract, and else no id.
abbrev pub added_if : Reading → ParticipantId → (is_new : Bool) → Change → List Hash
added_if reading p is_new change = if is_new && is_stakeholder_hosted reading p change.known.instance then change.known.id ∷ [] else []

-- A list of the one id of the contract that a change creates, where the contract is new to the store's rows and to `changed`, the ids that earlier
-- changes are on, and participant p hosts a stakeholder of it. Else no id.
abbrev pub added_by : Reading → ParticipantId → List StoreRow → (changed : List Hash) → Change → List Hash
added_by reading p rows changed change = added_if reading p (is_new rows changed change) change

-- The ids of the new contracts with a stakeholder hosted by participant p that these changes create, in order: what `added_ids` gives. `changed` has
-- the ids of the contracts that changes before these are on, none at first.
abbrev pub added_behind : Reading → ParticipantId → List StoreRow → (changed : List Hash) → List Change → List Hash
added_behind reading p rows changed [] = []
added_behind reading p rows changed (change ∷ rest) =
    added_by reading p rows changed change ++ added_behind reading p rows (change.known.id ∷ changed) rest

-- Whether each contract that one of these changes creates is unknown by the store's rows, and no change before is on it; true where none creates one.
-- `changed` has the ids of the contracts that changes before these are on.
abbrev pub are_new : List StoreRow → (changed : List Hash) → List Change → Bool
are_new rows changed [] = true
are_new rows changed (change ∷ rest) =
    (not change.is_create || is_unheard rows changed change.known.id) && are_new rows (change.known.id ∷ changed) rest

-- Whether a change creates a contract that is gone by the start.
abbrev pub creates_gone : Start → Change → Bool
creates_gone start change = change.is_create && is_gone start change.known.id

-- Each contract that one of these changes creates is new: the rows don't know it, no change before is on it, and it isn't gone. So where no contract
-- was created twice before (`AreOnce`), none is after these changes.
pub record AreNew (start : Start) (rows : List StoreRow) (changes : List Change) : Type 0 where
  pub unheard : are_new rows [] changes ≡ true
  pub not_gone : list_any (creates_gone start) changes ≡ false
