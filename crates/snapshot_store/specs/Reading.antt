-- The reading of a state. A reading takes bytes and gives what stands at their front, with the bytes behind it; or an Err, which says how many bytes
-- are left where the first field begins that can't be read.
use Rattle.std.specs.Prelude.{ℕ, zero, suc, ◌+◌, Bool, List, [], ◌∷◌, Option, Some, None, Result, Ok, Err, length}
use Rattle.std.specs.Int.{w32, w64}
use Rattle.ledger_terms.specs.Parties.{stands_above}
use Rattle.ledger_terms.specs.declared.active_row.ActiveRow.{ActiveRow}
use Rattle.ledger_terms.specs.declared.instance.Instance.{Instance}
use Rattle.canton_model.specs.declared.response.Response.{Response}
use Rattle.wire_form.specs.Formats.{◌>>=◌, Reading, both_at, seen_at, counted_at, any_item}
use Rattle.wire_form.specs.Fields.{byte_at, bytes_at, number_at, count_at, hash_at, name_at, truth_at}
use Rattle.wire_form.specs.Reading.{instance_at}
use Rattle.message_bytes.specs.Reading.{MOST_OF_BYTE, MOST_OF_TWO_BYTES, is_past, path_at, response_at, verdict_at}
use Rattle.interpret.specs.Act.{created_known}
use Rattle.node_state.specs.declared.item.Item.{Item}
use Rattle.node_state.specs.declared.item_what.ItemWhat.{ItemWhat}
use Rattle.node_state.specs.declared.item_what.ItemWhat.TheVariants.{Nothing, Request, Verdict}
use Rattle.node_state.specs.declared.node_state.NodeState.{NodeState}

-- What is spelled of a row of an active contract, in order: the place of creation, the salt and the instance. The id is computed of the last two.
abbrev pub RowParts : Type 0
RowParts = (ℕ × List ℕ) × Instance

-- The row of an active contract that has these parts, with its id.
abbrev pub row_of : RowParts → ActiveRow
row_of parts = record { created_at = parts.0.0; known = created_known parts.0.1 parts.1 }

-- Reads the row of an active contract: eight bytes for the place of creation, the salt and the instance.
unfoldable pub row_at : Reading ActiveRow
row_at = seen_at row_of (both_at (both_at (number_at w64) hash_at) instance_at)

-- Reads a count in four bytes and so many rows of active contracts, in any order.
unfoldable pub rows_at : Reading (List ActiveRow)
rows_at = counted_at (number_at w32) any_item row_at

-- Reads a count in four bytes and so many ids, which ascend. One that doesn't stand above the one before it can't be read.
unfoldable pub ids_at : Reading (List (List ℕ))
ids_at = counted_at (number_at w32) stands_above hash_at

-- Reads a count in two bytes and so many paths, in any order.
unfoldable pub paths_at : Reading (List (List ℕ))
paths_at = counted_at (count_at MOST_OF_TWO_BYTES) any_item path_at

-- Reads four bytes of length, and that many bytes as one field.
unfoldable pub long_bytes_at : Reading (List ℕ)
long_bytes_at bytes = do
  len ← number_at w32 bytes
  bytes_at len.0 len.1

-- Reads an envelope behind its tag. The arguments are the tag, the bytes behind it, and how many bytes were left at the tag. The tag 0 says that there
-- is no envelope, 1 that it follows with its length; any other can't be read, and the Err is the last argument.
unfoldable pub tagged_envelope_at : ℕ → List ℕ → ℕ → Result (Option (List ℕ) × List ℕ) ℕ
tagged_envelope_at zero rest here = Ok (None, rest)
tagged_envelope_at (suc zero) rest here = seen_at Some long_bytes_at rest
tagged_envelope_at (suc (suc n)) rest here = Err here

-- Reads an envelope: a byte as its tag, 0 where there is none, and else 1 and its bytes behind their length.
unfoldable pub envelope_at : Reading (Option (List ℕ))
envelope_at bytes = do
  tag ← byte_at bytes
  tagged_envelope_at tag.0 tag.1 (length bytes)

-- The parts of a request of an inbox, in the order of its spelling: sender, command, the hash of the mediator's tree, the paths of the views seen,
-- those of the views confirmed, and the envelope.
abbrev pub RequestParts : Type 0
RequestParts = ((((ℕ × List ℕ) × List ℕ) × List (List ℕ)) × List (List ℕ)) × Option (List ℕ)

-- A request with these parts, as what an item brings.
abbrev pub request_of : RequestParts → ItemWhat
request_of parts = Request parts.0.0.0.0.0 parts.0.0.0.0.1 parts.0.0.0.1 parts.0.0.1 parts.0.1 parts.1

-- Reads a request of an inbox, behind its tag, part by part.
unfoldable pub request_at : Reading ItemWhat
request_at = seen_at request_of (both_at (both_at (both_at (both_at (both_at byte_at name_at) hash_at) paths_at) paths_at) envelope_at)

-- Reads what an item brings behind its tag. The arguments are the tag, the bytes behind it, and how many bytes were left at the tag. The tag 0 says
-- that it brings nothing, 1 a request, 2 a verdict; any other can't be read, and the Err is the last argument.
unfoldable pub tagged_what_at : ℕ → List ℕ → ℕ → Result (ItemWhat × List ℕ) ℕ
tagged_what_at zero rest here = Ok (Nothing, rest)
tagged_what_at (suc zero) rest here = request_at rest
tagged_what_at (suc (suc zero)) rest here = seen_at Verdict (verdict_at MOST_OF_BYTE) rest
tagged_what_at (suc (suc (suc n))) rest here = Err here

-- Reads what an item brings: a byte as its tag, 0 for nothing, 1 for a request and 2 for a verdict, and then the request or the verdict.
unfoldable pub what_at : Reading ItemWhat
what_at bytes = do
  tag ← byte_at bytes
  tagged_what_at tag.0 tag.1 (length bytes)

-- The parts of an item, in the order of its spelling: its time and what it brings.
abbrev pub ItemParts : Type 0
ItemParts = ℕ × ItemWhat

-- The item that has these parts.
abbrev pub item_of : ItemParts → Item
item_of parts = record { time = parts.0; what = parts.1 }

-- Reads an item of an inbox: eight bytes of time, and what it brings.
unfoldable pub item_at : Reading Item
item_at = seen_at item_of (both_at (number_at w64) what_at)

-- Reads a count in four bytes and so many items of an inbox, in any order.
unfoldable pub items_listed_at : Reading (List Item)
items_listed_at = counted_at (number_at w32) any_item item_at

-- Reads a count in four bytes and so many responses, in any order.
unfoldable pub responses_at : Reading (List Response)
responses_at = counted_at (number_at w32) any_item (response_at MOST_OF_BYTE)

-- Reads a count in four bytes and so many places, which ascend. One that isn't above the one before it can't be read.
unfoldable pub places_at : Reading (List ℕ)
places_at = counted_at (number_at w32) is_past (number_at w64)

-- Reads the byte of the version, which is 1, and gives nothing. Any other version can't be read, nor can a version where no byte is left.
unfoldable pub version_at : Reading (Unit {0})
version_at [] = Err 0
version_at (zero ∷ rest) = Err (length rest + 1)
version_at (suc zero ∷ rest) = Ok (tt, rest)
version_at (suc (suc n) ∷ rest) = Err (length rest + 1)

-- The first parts of a state, in order: the version, of which nothing is kept, the participant, the base, the time of the entry before that, and
-- whether the participant is paused.
abbrev pub HeadParts : Type 0
HeadParts = (((Unit {0} × ℕ) × ℕ) × ℕ) × Bool

-- Reads the first parts of a state.
unfoldable pub head_at : Reading HeadParts
head_at = both_at (both_at (both_at (both_at version_at byte_at) (number_at w64)) (number_at w64)) truth_at

-- The parts of a state, in order: the first ones, the active contracts, the ids of the gone ones, the items, the outbox, and the places whose job is done.
abbrev pub StateParts : Type 0
StateParts = ((((HeadParts × List ActiveRow) × List (List ℕ)) × List Item) × List Response) × List ℕ

-- The state that has these parts.
abbrev pub state_of : StateParts → NodeState
state_of parts =
    record {
      me = parts.0.0.0.0.0.0.0.0.1;
      base = parts.0.0.0.0.0.0.0.1;
      base_time = parts.0.0.0.0.0.0.1;
      paused = parts.0.0.0.0.0.1;
      active = parts.0.0.0.0.1;
      gone = parts.0.0.0.1;
      items = parts.0.0.1;
      outbox = parts.0.1;
      done = parts.1;
    }

-- Reads a state, part by part, at the front of bytes, and gives the bytes behind it too. `read_all` refuses those.
unfoldable pub state_at : Reading NodeState
state_at = seen_at state_of (both_at (both_at (both_at (both_at (both_at head_at rows_at) ids_at) items_listed_at) responses_at) places_at)
