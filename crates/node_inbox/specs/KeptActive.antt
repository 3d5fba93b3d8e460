-- The active contracts at an earlier place, and what stands behind them.
use Rattle.std.specs.Prelude.{◌≡◌, ◌≤◌, ℕ, zero, suc, Bool, true, false, List, [], ◌∷◌, ◌++◌, Option, Some, None, if◌then◌else◌, length, map, nat_le, not}
use Rattle.ledger_terms.specs.declared.act.Act.{Act}
use Rattle.ledger_terms.specs.declared.active_row.ActiveRow.{ActiveRow}
use Rattle.ledger_model.specs.Status.{status_after}
use Rattle.ledger_model.specs.Terms.{Hash, ParticipantId, id_of, is_create}
use Rattle.ledger_model.specs.declared.status.Status.{Status}
use Rattle.ledger_model.specs.declared.status.Status.TheVariants.{Unknown, Active, Consumed}
use Rattle.canton_model.specs.Inbox.{Item}
use Rattle.canton_model.specs.Reading.{Reading}
use Rattle.pruned_inbox.specs.Start.{Start, active_kept}
use Rattle.contract_store.specs.Below.{at_place, placed_below, writes_of}
use Rattle.contract_store.specs.Rows.{status_in}
use Rattle.contract_store.specs.Written.{Placed, acts_of}
use Rattle.contract_store.specs.declared.row.StoreRow.{StoreRow}
use Rattle.inbox_registry.specs.Changes.{creation_of}
use Rattle.node_inbox.specs.AddedIds.{is_unknown}
use Rattle.node_inbox.specs.declared.kept_active.KeptActive.{KeptActive}

-- What the approved requests at the places from `start` on and below `end` do to contracts: their authentic opened actions, each with its place, in order.
abbrev pub placed_between : Reading → List Item → (start end : ℕ) → List Placed
placed_between reading items start zero = []
placed_between reading items start (suc k) =
    if nat_le start k then placed_between reading items start k ++ map (at_place k) (writes_of reading items k) else []

-- Whether a status is Consumed.
abbrev pub is_consumed : Status → Bool
is_consumed Unknown = false
is_consumed Active = false
is_consumed Consumed = true

-- Whether none of the store's rows tells that the contract of an active row was consumed. With the rows of what came since, it tells which of the kept
-- active contracts are active still.
abbrev pub is_unconsumed : List StoreRow → ActiveRow → Bool
is_unconsumed rows row = not (is_consumed (status_in rows row.known.id))

-- The test holds of the id of each contract that these actions create.
abbrev pub CreateOnly : (Hash → Bool) → List Act → Type 0
CreateOnly test [] = Unit {0}
CreateOnly test (act ∷ actions) = (is_create act.action ≡ true → test (id_of act.action) ≡ true) × CreateOnly test actions

-- All that is written into a store of what came below place n: the Creates of the contracts that a start left active, and behind them the authentic
-- opened actions of the approved requests below n, each with its request's place, in order.
abbrev pub begun_below : Reading → Start → List Item → ℕ → List Placed
begun_below reading start items n = map creation_of start.active ++ placed_below reading items n

-- The approved requests from place n on create only contracts of which nothing is known below n.
abbrev pub AreFresh : Reading → Start → List Item → ℕ → Type 0
AreFresh reading start items n =
    (k : ℕ) → n ≤ k → CreateOnly (λ c. is_unknown (status_after (acts_of (begun_below reading start items n)) c)) (writes_of reading items k)

-- The kept contracts are those that were active at their place, which isn't behind the end of the inbox, with a stakeholder that participant p hosts.
-- Approved requests from that place on create only new ones.
pub record AreActive (reading : Reading) (p : ParticipantId) (start : Start) (items : List Item) (kept : KeptActive) : Type 0 where
  pub within : kept.place ≤ length items
  pub rows : kept.rows ≡ active_kept reading p start items kept.place
  pub fresh : AreFresh reading start items kept.place

-- What is kept, if anything is, are active contracts as `AreActive` asks. Where nothing is kept (None) it holds.
abbrev pub AreActiveIf : Reading → ParticipantId → Start → List Item → Option KeptActive → Type 0
AreActiveIf reading p start items None = Unit {0}
AreActiveIf reading p start items (Some kept) = AreActive reading p start items kept

-- What becomes of the active contracts that an inbox keeps when it reads a verdict: `old` before it, `new` after it, None where none are kept. Where
-- the flag is true they stay: the verdict's request isn't below their place and creates no contract that was known. Else they are dropped.
abbrev pub IsKeptIf : Bool → (old new : Option KeptActive) → Type 0
IsKeptIf true old new = new ≡ old
IsKeptIf false old new = new ≡ None

-- Whether no active contracts are kept, or their place is at most the given one. So an approval of the request at that place changes nothing below
-- theirs.
abbrev pub are_at_most : Option KeptActive → ℕ → Bool
are_at_most None place = true
are_at_most (Some kept) place = nat_le kept.place place

-- The kept active contracts where their place is at most `end`, so that those at `end` can be made of them. None where none are kept or it is greater.
abbrev pub not_behind : Option KeptActive → ℕ → Option KeptActive
not_behind None end = None
not_behind (Some kept) end = if nat_le kept.place end then Some kept else None
