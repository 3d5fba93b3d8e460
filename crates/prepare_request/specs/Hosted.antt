-- The contracts of a store that have a hosted stakeholder, by ids that tell which ones do.
use Rattle.std.specs.Prelude.{◌≡◌, ℕ, Bool, false, List, Some, None, Contains, filter}
use Rattle.std.specs.List.{list_any}
use Rattle.std.specs.Str.{bytes_eq}
use Rattle.ledger_terms.specs.declared.active_row.ActiveRow.{ActiveRow}
use Rattle.ledger_terms.specs.declared.known.Known.{Known}
use Rattle.ledger_model.specs.Terms.{Hash, ParticipantId}
use Rattle.canton_model.specs.Inbox.{is_stakeholder_hosted}
use Rattle.canton_model.specs.Reading.{Reading}
use Rattle.contract_store.specs.Active.{active, active_rows, knowns}
use Rattle.contract_store.specs.Rows.{row_of}
use Rattle.contract_store.specs.declared.row.StoreRow.{StoreRow}

-- what contracts see of a set of ids: the ids in it, and the room that was made ahead
pub record IdSet : Type 0 where
  pub ids : List Hash
  -- how many more ids take no memory
  pub spare : ℕ

-- whether this id is one of the ids
abbrev pub is_among : List Hash → Hash → Bool
is_among ids c = list_any (bytes_eq c) ids

-- whether a contract's id is one of these, which are those of contracts with a stakeholder that the participant hosts
abbrev pub has_hosted_id : List Hash → Known → Bool
has_hosted_id ids known = is_among ids known.id

-- the active contracts of a store whose id is one of these, in order of creation: what a participant offers to its submissions
abbrev pub hosted_rows : List Hash → List StoreRow → List Known
hosted_rows ids rows = filter (has_hosted_id ids) (knowns (active_rows rows))

-- The ids tell of each active contract of a store whether it has a stakeholder that the participant hosts: its id is one of them just where it does.
abbrev pub TellHosted : Reading → ParticipantId → List Hash → List StoreRow → Type 0
TellHosted reading p ids rows =
    (row : StoreRow) (a : ActiveRow) → Contains rows row → active row ≡ Some a
    → is_among ids a.known.id ≡ is_stakeholder_hosted reading p a.known.instance

-- The ids tell of each contract of a store that isn't consumed whether it has a stakeholder that the participant hosts, and none of them is that of a
-- contract without a row. So they still tell after the next change.
pub record AreTold (reading : Reading) (p : ParticipantId) (ids : List Hash) (rows : List StoreRow) : Type 0 where
  pub tell : (row : StoreRow) → Contains rows row → row.consumed_at ≡ None
      → is_among ids row.known.id ≡ is_stakeholder_hosted reading p row.known.instance
  pub of_rows : (c : Hash) → row_of c rows ≡ None → is_among ids c ≡ false
