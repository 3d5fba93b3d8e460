-- The value of a synchroniser, as a world of its machine.
use Rattle.world_model.specs.Machine.{Machine}
use Rattle.world_model.specs.Mediator.{MediatorState}
use Rattle.world_model.specs.World.{World as WorldState}
use Rattle.world_play.specs.declared.world.World.{World}
use Rattle.world_play.specs.Worlds.{world_with, AreNodesOf, IsMediatorOf}

-- what the synchroniser is in the world model, where `state` is what its mediator's state is there
abbrev pub world_of : MediatorState → World → WorldState
world_of state world = world_with world.now state (world.nodes).items world.sequencer

-- The synchroniser stands for a world of this machine: each of its nodes is the machine's participant with its index and has read a beginning of the
-- log, and its mediator keeps what `state` has of requests without a verdict.
pub record IsWorldOf (m : Machine) (state : MediatorState) (world : World) : Type 0 where
  pub nodes : AreNodesOf m (world.nodes).items world.sequencer
  pub mediator : IsMediatorOf m state world.mediator
