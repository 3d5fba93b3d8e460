-- What a participant knows, by its inbox.
use Rattle.std.specs.Prelude.{◌≡◌, ℕ, zero, suc, List, [], ◌∷◌, ◌++◌, Option, Some, None, length, map, slice_get}
use Rattle.ledger_terms.specs.declared.active_row.ActiveRow.{ActiveRow}
use Rattle.ledger_model.specs.Terms.{Hash}
use Rattle.canton_model.specs.Inbox.{clean, clean_time, is_locked_in_inbox, node_active, status_in_inbox, withheld}
use Rattle.canton_model.specs.declared.outcome.Outcome.{Outcome}
use Rattle.world_model.specs.Node.{owes_at}
use Rattle.contract_store.specs.Written.{written}
use Rattle.contract_store.specs.declared.row.StoreRow.{StoreRow}
use Rattle.pruned_inbox.specs.Start.{no_start}
use Rattle.inbox_registry.specs.Changes.{changes_in}
use Rattle.inbox_registry.specs.Requests.{outcome_received}
use Rattle.node_inbox.specs.InboxState.{InboxState, params_of, reading_of}
use Rattle.page_data.specs.declared.contract_state.ContractState.{ContractState}
use Rattle.page_data.specs.declared.knowledge.Knowledge.{Knowledge}
use Rattle.page_data.specs.declared.request_state.RequestState.{RequestState}

-- The inbox's start is empty: it left no contracts and no ids at its base. So all that it knows of contracts comes of its items.
abbrev pub HasNoStart : InboxState → Type 0
HasNoStart inbox = inbox.start ≡ no_start

-- The contracts of which approved requests told the participant, in the order in which they came. Each has the place of the request that created it and
-- of the one that consumed it, and None for one of which the participant wasn't told.
abbrev pub store_rows : InboxState → List StoreRow
store_rows inbox = written (changes_in (reading_of inbox) inbox.items) []

-- What the participant knows of the contract with this id where it has read to: its status, and whether an undecided request holds it.
abbrev pub contract_state : InboxState → Hash → ContractState
contract_state inbox id =
    record {
      id = id;
      status = status_in_inbox (reading_of inbox) inbox.items (length inbox.items) id;
      is_locked = is_locked_in_inbox (reading_of inbox) (params_of inbox) inbox.items (length inbox.items) id;
    }

-- What the participant knows of each contract of which approved requests told it, in the order in which they came.
abbrev pub contract_states : InboxState → List ContractState
contract_states inbox = map (λ (row : StoreRow). contract_state inbox row.known.id) (store_rows inbox)

-- A list of what the participant knows of the one request at a place, by what became of it. It is empty for None, where no request was received.
abbrev pub with_outcome : InboxState → ℕ → Option Outcome → List RequestState
with_outcome inbox place None = []
with_outcome inbox place (Some outcome) =
    record { place = place; outcome = outcome; owes = owes_at (reading_of inbox) inbox.me inbox.items place } ∷ []

-- A list of what the participant knows of the one request at a place, and an empty one where none was received there.
abbrev pub request_states_at : InboxState → ℕ → List RequestState
request_states_at inbox place = with_outcome inbox place (outcome_received (params_of inbox) inbox.items place)

-- What the participant knows of the requests that it received below a place, in order of place.
abbrev pub request_states_below : InboxState → ℕ → List RequestState
request_states_below inbox zero = []
request_states_below inbox (suc place) = request_states_below inbox place ++ request_states_at inbox place

-- The ids of the participant's active contracts where it has read to, in order of creation.
abbrev pub active_ids : InboxState → List Hash
active_ids inbox = map (λ (row : ActiveRow). row.known.id) (node_active (reading_of inbox) inbox.me inbox.items (length inbox.items))

-- All that a page tells of what the participant knows, by its inbox.
abbrev pub knowledge_of : InboxState → Knowledge
knowledge_of inbox =
    record {
      clean = clean (params_of inbox) inbox.items;
      clean_time = clean_time (params_of inbox) inbox.items;
      active = active_ids inbox;
      withheld = withheld (params_of inbox) inbox.items;
      contracts = contract_states inbox;
      requests = request_states_below inbox (length inbox.items);
    }

-- A list of the one row, and an empty one where there is none; of `store_rows_at`.
abbrev pub rows_in : Option StoreRow → List StoreRow
rows_in None = []
rows_in (Some row) = row ∷ []

-- A list of the one row that stands at this index in `store_rows`, counted from 0, and an empty one where there is none. So contracts of code say what
-- one step puts behind the rows before.
abbrev pub store_rows_at : InboxState → ℕ → List StoreRow
store_rows_at inbox at = rows_in (slice_get (store_rows inbox) at)

-- A list of what the participant knows of the one contract at this index in `store_rows`, and an empty one where there is none. So contracts of code
-- say what one step puts behind the states before.
abbrev pub contract_states_at : InboxState → ℕ → List ContractState
contract_states_at inbox at = map (λ (row : StoreRow). contract_state inbox row.known.id) (store_rows_at inbox at)
