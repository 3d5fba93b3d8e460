-- What the mediator does in an event.
use Rattle.std.specs.Prelude.{◌≡◌, ℕ, List}
use Rattle.world_model.specs.Machine.{Machine}
use Rattle.world_model.specs.Mediator.{MediatorState}
use Rattle.world_model.specs.Node.{NodeState}
use Rattle.world_model.specs.World.{Event, happens}
use Rattle.mediator.specs.KeptCases.{KeptMediator}
use Rattle.seq_log.specs.Sequenced.{Sequenced}
use Rattle.world_play.specs.Worlds.{IsMediatorOf}

-- What an event of the mediator does: of a mediator with the state `state` and the log `log` it makes mediator' and log', in a world with any time and
-- any participants, which stay as they are.
abbrev pub Decides : Machine → Event → (state : MediatorState) → (log : Sequenced) → (mediator' : KeptMediator) → (log' : Sequenced) → Type 0
Decides m event state log mediator' log' =
    (after : MediatorState) × IsMediatorOf m after mediator'
    × ((now : ℕ) (nodes : List NodeState) → record { log = log'.list; now = now; mediator = after; nodes = nodes }
    ≡ happens m (record { log = log.list; now = now; mediator = state; nodes = nodes }) event)
