-- The bases of participants.
use Rattle.std.specs.Prelude.{◌≡◌, ℕ, List, Option, Some, None, slice_get}
use Rattle.ledger_model.specs.Terms.{ParticipantId}
use Rattle.node_core.specs.Participant.{Participant}

-- A base for each participant.
abbrev pub Bases : Type 0
Bases = ParticipantId → ℕ

-- Of these nodes, which stand in the order of the topology, that of participant p has the base `bases p`.
abbrev pub AreBases : Bases → List Participant → Type 0
AreBases bases nodes = (p : ParticipantId) (node : Participant) → slice_get nodes p ≡ Some node → node.base ≡ bases p

-- The base of a participant, and 0 where there is none.
abbrev pub base_in : Option Participant → ℕ
base_in None = 0
base_in (Some node) = node.base

-- The base of each of these nodes, which stand in the order of the topology, and 0 for a participant that isn't there. `AreBases` always holds of
-- these.
abbrev pub bases_of : List Participant → Bases
bases_of nodes p = base_in (slice_get nodes p)
