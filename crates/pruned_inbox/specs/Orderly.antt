-- What every inbox of a genuine log keeps.
use Rattle.std.specs.Prelude.{◌≡◌, ◌≢◌, ℕ, ◌<◌, ◌≤◌, true, List, Some, slice_get}
use Rattle.ledger_terms.specs.declared.params.Params.{Params}
use Rattle.canton_model.specs.declared.verdict.Verdict.{Verdict}
use Rattle.canton_model.specs.Inbox.{Item, verdict_in, is_decided_in}
use Rattle.pruned_inbox.specs.Received.{is_received_at}

-- An inbox is orderly: its times don't fall. Each verdict is on a request that was received before it, and none stands at or after a place at which
-- its request is decided. Every inbox of a genuine log is so.
pub record IsOrderly (params : Params) (items : List Item) : Type 0 where
  pub rises : (i j : ℕ) (earlier later : Item) → i ≤ j → slice_get items i ≡ Some earlier → slice_get items j ≡ Some later → earlier.time ≤ later.time
  -- a verdict stands behind its request
  pub behind : (i : ℕ) (item : Item) (v : Verdict) → slice_get items i ≡ Some item → verdict_in item.content ≡ Some v → v.request < i
  -- a verdict is on a request that was received
  pub asked : (i : ℕ) (item : Item) (v : Verdict) → slice_get items i ≡ Some item → verdict_in item.content ≡ Some v → is_received_at items v.request ≡ true
  pub closed : (m k i : ℕ) (item : Item) (v : Verdict) → is_decided_in params items m k ≡ true → k ≤ i
      → slice_get items i ≡ Some item → verdict_in item.content ≡ Some v → v.request ≢ m
