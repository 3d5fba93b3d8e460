-- Which participants take no submissions.
use Rattle.std.specs.Prelude.{◌≡◌, false, List, Some, length, slice_get}
use Rattle.ledger_model.specs.Terms.{ParticipantId}
use Rattle.world_model.specs.Messages.{Entry}
use Rattle.world_model.specs.Places.{has_place}
use Rattle.node_core.specs.Participant.{Participant as NodeValue}

-- of the nodes, which stand in the order of the topology, just those of the participants in the list `paused` are paused
abbrev pub ArePaused : List ParticipantId → List NodeValue → Type 0
ArePaused paused nodes = (p : ParticipantId) (node : NodeValue) → slice_get nodes p ≡ Some node → (node.state).is_paused ≡ has_place paused p

-- each node that isn't paused has read the whole log
abbrev pub HaveAwakeRead : List Entry → List NodeValue → Type 0
HaveAwakeRead log nodes =
    (p : ParticipantId) (node : NodeValue) → slice_get nodes p ≡ Some node → (node.state).is_paused ≡ false → length (node.state).items ≡ length log
