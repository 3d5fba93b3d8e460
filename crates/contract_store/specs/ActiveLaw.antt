-- The active rows of a store are the contracts that the actions create and none of them consumes.
use Rattle.std.specs.Prelude.{◌≡◌, ℕ, ◌≤◌, Bool, List, [], ◌∷◌, not, map, filter}
use Rattle.std.specs.List.{list_any}
use Rattle.ledger_terms.specs.declared.act.Act.{Act}
use Rattle.ledger_terms.specs.declared.active_row.ActiveRow.{ActiveRow}
use Rattle.ledger_model.specs.Terms.{ParticipantId, is_create, consumes}
use Rattle.canton_model.specs.Reading.{Reading}
use Rattle.canton_model.specs.Inbox.{active_row, first_of_each, is_active_row, is_stakeholder_hosted}
use Rattle.contract_store.specs.Active.{active_rows}
use Rattle.contract_store.specs.Written.{Placed, written, acts_of}

-- none of these actions is of a request before place n
abbrev pub NoneBefore : ℕ → List Placed → Type 0
NoneBefore n [] = Unit {0}
NoneBefore n (p ∷ ps) = (n ≤ p.place) × NoneBefore n ps

-- the actions stand in the order of their requests' places, which may repeat
abbrev pub InOrder : List Placed → Type 0
InOrder [] = Unit {0}
InOrder (p ∷ ps) = NoneBefore p.place ps × InOrder ps

-- whether the action is a Create
abbrev pub is_creation : Placed → Bool
is_creation p = is_create p.act.action

-- the contract that the action is on, with the place of its request as that of the contract's creation
abbrev pub row_for : Placed → ActiveRow
row_for p = active_row p.place p.act

-- the contracts that these actions create, in order, each with the place of its request
abbrev pub created_rows : List Placed → List ActiveRow
created_rows ps = map row_for (filter is_creation ps)

-- whether none of these actions consumes the contract of this row
abbrev pub is_left : List Act → ActiveRow → Bool
is_left all row = not (list_any (consumes row.known.id) all)

-- The contracts that these actions create and none of them consumes, in order, each once, with the place of its first Create.
abbrev pub rows_left : List Placed → List ActiveRow
rows_left ps = filter (is_left (acts_of ps)) (first_of_each (created_rows ps))

-- Of a store into which actions were written in the order of their places, the active contracts are those that the actions create and none of them
-- consumes. It is the law `active_is_left`.
abbrev pub ActiveIsLeft : Type 0
ActiveIsLeft = (ps : List Placed) → InOrder ps → active_rows (written ps []) ≡ rows_left ps

-- Of a store into which actions were written in the order of their places, the active contracts with a stakeholder that the participant hosts are the
-- model's active contracts among these actions. It is the law `hosted_is_active`.
abbrev pub HostedIsActive : Type 0
HostedIsActive = (reading : Reading) (party : ParticipantId) (ps : List Placed) → InOrder ps
    → filter (λ (a : ActiveRow). is_stakeholder_hosted reading party a.known.instance) (active_rows (written ps []))
    ≡ filter (is_active_row reading party (acts_of ps)) (first_of_each (created_rows ps))
