-- What participants were asked for.
use Rattle.std.specs.Prelude.{◌≡◌, ℕ, List, [], ◌∷◌, All, Option, None, Some}
use Rattle.ledger_terms.specs.declared.host.Host.{Host}
use Rattle.ledger_model.specs.Terms.{ParticipantId}
use Rattle.node_core.specs.Participant.{Participant}
use Rattle.commitment_text.specs.Counterparties.{Counterparty}
use Rattle.commitment_text.specs.Knowledge.{knowledge_of}
use Rattle.commitment_text.specs.declared.active_at.ActiveAt.{ActiveAt}

-- a participant with its index in the topology and its name, as contracts see one that was asked for its active contracts
pub record NamedNode : Type 0 where
  pub number : ParticipantId
  pub name : List ℕ
  pub node : Participant

-- The participant as another one sees it: the same index and name, and what it knows of active contracts.
abbrev pub counterparty_of : NamedNode → Counterparty
counterparty_of named = record { number = named.number; name = named.name; knowledge = knowledge_of named.node }

-- Participant p as others see it, with the name of its host, in a list of one. The list is empty where there is no participant (None).
abbrev pub counterparty_at : ParticipantId → Host → Option Participant → List Counterparty
counterparty_at p host None = []
counterparty_at p host (Some node) = record { number = p; name = host.name; knowledge = knowledge_of node } ∷ []

-- The rows that were asked for are those of the participant's active contracts at their place.
abbrev pub IsActiveAt : Participant → ActiveAt → Type 0
IsActiveAt node at = at.rows ≡ (knowledge_of node).active_at at.place

-- All rows that were asked for are those of the participant's active contracts, each at its place. It always holds of a participant that was asked.
abbrev pub AreActiveAt : Participant → List ActiveAt → Type 0
AreActiveAt node asked = All (IsActiveAt node) asked
