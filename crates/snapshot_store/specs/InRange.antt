-- What is in range: the numbers and counts that the formats of a state have room for. What a spelling is read as is in range, and so is each value
-- that the program's types can hold and that has a spelling.
use Rattle.std.specs.Prelude.{◌≡◌, ℕ, ◌<◌, ◌≤◌, ◌^◌, List, length, All, Option, Some, None}
use Rattle.std.specs.List.Sorted.{IsStrictlyIncreasing}
use Rattle.ledger_terms.specs.Names.{IsName}
use Rattle.ledger_terms.specs.Parties.{IsRising}
use Rattle.ledger_terms.specs.declared.active_row.ActiveRow.{ActiveRow}
use Rattle.wire_form.specs.InRange.{IsHash, IsInstance}
use Rattle.message_bytes.specs.InRange.{IsPath, IsPlace, IsResponse, IsVerdict}
use Rattle.message_bytes.specs.Reading.{MOST_OF_BYTE, MOST_OF_TWO_BYTES}
use Rattle.interpret.specs.Ids.{contract_id}
use Rattle.node_state.specs.declared.item.Item.{Item}
use Rattle.node_state.specs.declared.item_what.ItemWhat.{ItemWhat}
use Rattle.node_state.specs.declared.item_what.ItemWhat.TheVariants.{Nothing, Request, Verdict}
use Rattle.node_state.specs.declared.node_state.NodeState.{NodeState}

-- The list has no more items than four bytes count, and `Is` holds of each item.
pub record AreCounted {A : Type 0} (Is : A → Type 0) (xs : List A) : Type 0 where
  pub few : length xs < 2 ^ 32
  pub each : All Is xs

-- The place, the salt and the instance of a row of an active contract are in range, and its id is that of its salt and its instance.
pub record IsRow (row : ActiveRow) : Type 0 where
  pub place : IsPlace row.created_at
  pub salt : IsHash row.known.salt
  pub instance : IsInstance row.known.instance
  pub id : row.known.id ≡ contract_id row.known.salt row.known.instance

-- The ids of the gone contracts are in range: no more than four bytes count, each a hash, and they ascend.
pub record AreIds (ids : List (List ℕ)) : Type 0 where
  pub counted : AreCounted IsHash ids
  pub ascend : IsRising ids

-- A list of paths of views is in range: no more than two bytes count, each of them in range.
pub record ArePaths (paths : List (List ℕ)) : Type 0 where
  pub few : length paths ≤ MOST_OF_TWO_BYTES
  pub each : All IsPath paths

-- A time in microseconds has room in eight bytes.
abbrev pub IsTime : ℕ → Type 0
IsTime time = time < 2 ^ 64

-- A number has room in one byte, as that of a participant has to.
abbrev pub IsByte : ℕ → Type 0
IsByte b = b < 2 ^ 8

-- The length of an envelope, where there is one, has room in four bytes.
abbrev pub IsEnvelope : Option (List ℕ) → Type 0
IsEnvelope None = Unit {0}
IsEnvelope (Some bytes) = length bytes < 2 ^ 32

-- What an item brings is in range, in each of its parts.
abbrev pub IsWhat : ItemWhat → Type 0
IsWhat Nothing = Unit {0}
IsWhat (Request sender command root seen confirmed envelope) =
    IsByte sender × IsName command × IsHash root × ArePaths seen × ArePaths confirmed × IsEnvelope envelope
IsWhat (Verdict verdict) = IsVerdict MOST_OF_BYTE verdict

-- An item of an inbox is in range: its time, and what it brings.
pub record IsItem (item : Item) : Type 0 where
  pub time : IsTime item.time
  pub what : IsWhat item.what

-- The places whose job is done are in range: no more than four bytes count, and they ascend.
pub record ArePlaces (places : List ℕ) : Type 0 where
  pub counted : AreCounted IsPlace places
  pub ascend : IsStrictlyIncreasing places

-- A state is in range, in each of its parts. So the reading of its spelling gives it again.
pub record IsState (state : NodeState) : Type 0 where
  pub me : IsByte state.me
  pub base : IsPlace state.base
  pub base_time : IsTime state.base_time
  pub active : AreCounted IsRow state.active
  pub gone : AreIds state.gone
  pub items : AreCounted IsItem state.items
  pub outbox : AreCounted (IsResponse MOST_OF_BYTE) state.outbox
  pub done : ArePlaces state.done
