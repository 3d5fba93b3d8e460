-- Where an inbox may begin.
use Rattle.std.specs.Prelude.{◌+◌, ◌<◌, ◌≤◌, ◌^◌, ℕ, All, map}
use Rattle.ledger_terms.specs.Parties.{IsRising}
use Rattle.ledger_terms.specs.declared.active_row.ActiveRow.{ActiveRow}
use Rattle.contract_store.specs.ActiveLaw.{InOrder}
use Rattle.pruned_inbox.specs.Start.{Start}
use Rattle.inbox_registry.specs.Changes.{NoneGone, creation_of}
use Rattle.inbox_registry.specs.Offered.{CreatedOnce}
use Rattle.node_inbox.specs.declared.beginning.Beginning.{Beginning}

-- The start that a beginning holds: the contracts that were active at its base, and the ids of those that are gone.
abbrev pub start_of : Beginning → Start
start_of beginning = record { active = beginning.active; gone = beginning.gone }

-- An inbox may begin at this base with this start. The base is below 2^63 and no later than times allow, since each entry is later than the one before.
-- The contracts active there were created below it, in this order, each once, and none is gone. The gone ids ascend.
pub record IsBeginning (base base_time : ℕ) (start : Start) : Type 0 where
  pub few : base < 2 ^ 63
  pub early : base ≤ base_time + 1
  pub order : InOrder (map creation_of start.active)
  pub below : All (λ (row : ActiveRow). row.created_at < base) start.active
  pub once : CreatedOnce (map creation_of start.active)
  pub none_gone : NoneGone start (map creation_of start.active)
  pub ascend : IsRising start.gone
