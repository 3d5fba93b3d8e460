-- What is known of an inbox that has forgotten nothing is what its items say.
use Rattle.std.proofs.Common.{◌≡◌, ℕ, suc, List, [], take, ap, ◌∙◌, subst}
use Rattle.ledger_model.specs.Terms.{Hash, ParticipantId}
use Rattle.canton_model.specs.Inbox.{Item, node_active, status_in_inbox}
use Rattle.canton_model.specs.Log.{Params}
use Rattle.canton_model.specs.Reading.{Reading}
use Rattle.world_model.specs.Node.{owed_at}
use Rattle.contract_store.specs.Rows.{status_in}
use Rattle.contract_store.specs.Written.{written}
use Rattle.contract_store.specs.declared.row.StoreRow.{StoreRow}
use Rattle.pruned_inbox.specs.Start.{Start, active_kept, no_start, status_kept}
use Rattle.pruned_inbox.proofs.Pruned.{owed_at_first}
use Rattle.inbox_registry.specs.Changes.{changes_in, changes_since}
use Rattle.inbox_registry.specs.Registry.{known_status}
use Rattle.node_inbox.specs.InboxState.{owed_kept}

module _ (reading : Reading) (start : Start) (items : List Item) (none : start ≡ no_start) where
  pub rows_whole : written (changes_since reading start items) [] ≡ written (changes_in reading items) []
  rows_whole = ap (λ (s : Start). written (changes_since reading s items) []) none

  pub status_whole : (rows : List StoreRow) (n : ℕ) (c : Hash) → known_status start rows c ≡ status_kept reading start items n c
      → status_in rows c ≡ status_in_inbox reading items n c
  status_whole rows n c is = subst (λ (s : Start). known_status s rows c ≡ status_kept reading s items n c) none is

  pub active_whole : (p : ParticipantId) (n : ℕ) → active_kept reading p start items n ≡ node_active reading p items n
  active_whole p n = ap (λ (s : Start). active_kept reading p s items n) none

  pub owed_whole : (params : Params) (p : ParticipantId) (k : ℕ) → owed_kept reading params p start items k ≡ owed_at reading params p items k
  owed_whole params p k =
      ap (λ (s : Start). owed_kept reading params p s items k) none ∙ owed_at_first reading params p (take (suc k) items) k
