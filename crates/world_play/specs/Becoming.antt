-- What an event makes of a synchroniser.
use Rattle.std.specs.Prelude.{◌≡◌}
use Rattle.world_model.specs.Machine.{Machine}
use Rattle.world_model.specs.Mediator.{MediatorState}
use Rattle.world_model.specs.World.{Event, happens}
use Rattle.world_play.specs.declared.world.World.{World}
use Rattle.world_play.specs.WorldOf.{IsWorldOf, world_of}

-- The synchroniser `after` stands for the world that the event makes of the one for which `before` stands. `state` is the mediator's state in the world
-- before; that in the world after is whichever fits.
abbrev pub Becomes : Machine → Event → MediatorState → (before after : World) → Type 0
Becomes m event state before after =
    (later : MediatorState) × IsWorldOf m later after × (world_of later after ≡ happens m (world_of state before) event)
