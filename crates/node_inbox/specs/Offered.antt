-- The contracts that a participant offers.
use Rattle.std.specs.Prelude.{◌≡◌, Bool, true, List, filter}
use Rattle.ledger_terms.specs.declared.active_row.ActiveRow.{ActiveRow}
use Rattle.ledger_model.specs.Terms.{ParticipantId}
use Rattle.canton_model.specs.Inbox.{Item}
use Rattle.canton_model.specs.Reading.{Reading}
use Rattle.contract_store.specs.Active.{active_rows}
use Rattle.contract_store.specs.declared.row.StoreRow.{StoreRow}
use Rattle.pruned_inbox.specs.Start.{Start}
use Rattle.inbox_registry.specs.Changes.{NoneGone, changes_since}
use Rattle.inbox_registry.specs.Offered.{CreatedOnce}
use Rattle.node_inbox.specs.Listed.{is_offered}

-- The active contracts among a store's rows of which participant p hosts a stakeholder, in order of creation.
abbrev pub offered : Reading → ParticipantId → List StoreRow → List ActiveRow
offered reading p rows = filter (is_offered reading p) (active_rows rows)

-- No contract is created twice by the approved requests of these items, where those that the start left active count as created once, and none that is
-- gone is created.
pub record AreOnce (reading : Reading) (start : Start) (items : List Item) : Type 0 where
  pub once : CreatedOnce (changes_since reading start items)
  pub none_gone : NoneGone start (changes_since reading start items)

-- What an inbox's flag `is_once` stands for: where it is true, no contract is created twice and none that is gone is created (`AreOnce`), so that the
-- participant may offer its contracts straight from the store. Where it is false nothing is said, and they are made into a list.
abbrev pub AreOnceIf : Bool → Reading → Start → List Item → Type 0
AreOnceIf once reading start items = once ≡ true → AreOnce reading start items
