-- A store into which the approved requests of an inbox were written, place by place.
use Rattle.std.specs.Prelude.{◌≡◌, ℕ, zero, suc, List, [], ◌++◌, if◌then◌else◌, map, filter}
use Rattle.ledger_terms.specs.declared.act.Act.{Act}
use Rattle.ledger_terms.specs.declared.active_row.ActiveRow.{ActiveRow}
use Rattle.ledger_model.specs.Forest.{acts}
use Rattle.ledger_model.specs.Terms.{ParticipantId}
use Rattle.canton_model.specs.Reading.{Reading}
use Rattle.canton_model.specs.Timeline.{is_approved_in}
use Rattle.canton_model.specs.Inbox.{Item, moments, opened_at, is_stakeholder_hosted, node_active}
use Rattle.contract_store.specs.Active.{active_rows}
use Rattle.contract_store.specs.Written.{Placed, written}

-- an action of the request at place k, with that place
abbrev pub at_place : ℕ → Act → Placed
at_place k a = record { place = k; act = a }

-- the actions that the request at a place of the inbox writes into a store: the authentic ones that it opened, where it is approved, and else none
abbrev pub writes_of : Reading → List Item → ℕ → List Act
writes_of reading items k = if is_approved_in k (moments items) then filter reading.is_authentic (acts (opened_at items k)) else []

-- the actions that the requests below a place of the inbox write into a store, in order, each with its request's place
abbrev pub placed_below : Reading → List Item → ℕ → List Placed
placed_below reading items zero = []
placed_below reading items (suc k) = placed_below reading items k ++ map (at_place k) (writes_of reading items k)

-- Of a store into which the approved requests of an inbox below place n were written, the active contracts with a stakeholder that the participant
-- hosts are the model's active contracts there. It is the law `active_is_node_active`.
abbrev pub ActiveIsNodeActive : Type 0
ActiveIsNodeActive = (reading : Reading) (party : ParticipantId) (items : List Item) (n : ℕ)
    → filter (λ (a : ActiveRow). is_stakeholder_hosted reading party a.known.instance)
    (active_rows (written (placed_below reading items n) [])) ≡ node_active reading party items n
