-- What has a spelling: counts and lengths that have room in it, ids and places that ascend, and ids that are computed.
use Rattle.std.specs.Prelude.{◌≡◌, ℕ, ◌<◌, ◌≤◌, ◌^◌, List, length, All, Option, Some, None}
use Rattle.std.specs.List.Sorted.{IsStrictlyIncreasing}
use Rattle.ledger_terms.specs.Parties.{IsRising}
use Rattle.ledger_terms.specs.declared.active_row.ActiveRow.{ActiveRow}
use Rattle.wire_form.specs.Spellable.{IsSpellableInstance}
use Rattle.message_bytes.specs.Reading.{MOST_OF_TWO_BYTES}
use Rattle.message_bytes.specs.Spellable.{IsSpellablePath, IsSpellableResponse, IsSpellableVerdict}
use Rattle.interpret.specs.Ids.{contract_id}
use Rattle.snapshot_store.specs.InRange.{AreCounted}
use Rattle.node_state.specs.declared.item.Item.{Item}
use Rattle.node_state.specs.declared.item_what.ItemWhat.{ItemWhat}
use Rattle.node_state.specs.declared.item_what.ItemWhat.TheVariants.{Nothing, Request, Verdict}
use Rattle.node_state.specs.declared.node_state.NodeState.{NodeState}

-- The row of an active contract has a spelling: its instance has one, and its id, which isn't spelled, is that of its salt and its instance.
pub record IsSpellableRow (row : ActiveRow) : Type 0 where
  pub instance : IsSpellableInstance row.known.instance
  pub id : row.known.id ≡ contract_id row.known.salt row.known.instance

-- A list of paths has a spelling: they are no more than two bytes count, each of which has a spelling.
pub record AreSpellablePaths (paths : List (List ℕ)) : Type 0 where
  pub few : length paths ≤ MOST_OF_TWO_BYTES
  pub each : All IsSpellablePath paths

-- An envelope has a spelling: its length, where there is one, has room in four bytes.
abbrev pub IsSpellableEnvelope : Option (List ℕ) → Type 0
IsSpellableEnvelope None = Unit {0}
IsSpellableEnvelope (Some bytes) = length bytes < 2 ^ 32

-- What an item brings has a spelling. A request needs it of its paths and its envelope, since its other parts always have one.
abbrev pub IsSpellableWhat : ItemWhat → Type 0
IsSpellableWhat Nothing = Unit {0}
IsSpellableWhat (Request sender command root seen confirmed envelope) =
    AreSpellablePaths seen × AreSpellablePaths confirmed × IsSpellableEnvelope envelope
IsSpellableWhat (Verdict verdict) = IsSpellableVerdict verdict

-- An item of an inbox has a spelling: what it brings has one, since its time always has.
abbrev pub IsSpellableItem : Item → Type 0
IsSpellableItem item = IsSpellableWhat item.what

-- A list of ids has a spelling: they ascend and are no more than four bytes count.
pub record AreSpellableIds (ids : List (List ℕ)) : Type 0 where
  pub few : length ids < 2 ^ 32
  pub ascend : IsRising ids

-- A list of places has a spelling: they ascend and are no more than four bytes count.
pub record AreSpellablePlaces (places : List ℕ) : Type 0 where
  pub few : length places < 2 ^ 32
  pub ascend : IsStrictlyIncreasing places

-- A state has a spelling: each of its parts has one.
pub record IsSpellableState (state : NodeState) : Type 0 where
  pub active : AreCounted IsSpellableRow state.active
  pub gone : AreSpellableIds state.gone
  pub items : AreCounted IsSpellableItem state.items
  pub outbox : AreCounted IsSpellableResponse state.outbox
  pub done : AreSpellablePlaces state.done
