-- What is kept beside an inbox.
use Rattle.std.specs.Prelude.{◌≡◌, List, [], length, if◌then◌else◌}
use Rattle.canton_model.specs.Log.{Params}
use Rattle.canton_model.specs.Reading.{Reading}
use Rattle.canton_model.specs.Inbox.{Item}
use Rattle.ledger_model.specs.Terms.{Hash}
use Rattle.ledger_model.specs.declared.status.Status.{Status}
use Rattle.ledger_model.specs.declared.status.Status.TheVariants.{Consumed}
use Rattle.contract_store.specs.Rows.{status_in}
use Rattle.contract_store.specs.Stored.{Stored}
use Rattle.contract_store.specs.declared.row.StoreRow.{StoreRow}
use Rattle.contract_store.specs.Written.{written, holding}
use Rattle.request_track.specs.Tracking.{Tracking}
use Rattle.pruned_inbox.specs.Start.{Start, is_gone}
use Rattle.inbox_registry.specs.Changes.{changes_since, pending_changes}
use Rattle.inbox_registry.specs.Requests.{pairs_in}

-- what contracts see of a registry: its store, its tracker and its start
pub record Registered : Type 0 where
  pub store : Stored
  pub tracking : Tracking
  -- what the inbox left at its base
  pub start : Start

-- the status that the rows of a store say of a contract, where one that is gone by the start counts as consumed
abbrev pub known_status : Start → List StoreRow → Hash → Status
known_status start rows c = if is_gone start c then Consumed else status_in rows c

-- A registry follows an inbox: its store has the contracts of the start and the changes of the approved requests, and holds for those that aren't
-- decided, and its tracker has the requests that were received, with what became of them.
pub record Follows (reading : Reading) (params : Params) (start : Start) (items : List Item) (stands : Registered) : Type 0 where
  pub rows : (stands.store).rows ≡ written (changes_since reading start items) []
  pub holds : (stands.store).holds ≡ holding (pending_changes reading params items)
  pub pairs : (stands.tracking).pairs ≡ pairs_in params items
  pub cursor : (stands.tracking).cursor ≡ length items
