-- The machine of a synchroniser at hand.
use Rattle.confirm_reply.specs.declared.setup.Setup.{Setup}
use Rattle.world_model.specs.Machine.{Machine}
use Rattle.node_core.specs.Machines.{machine_of}
use Rattle.world_play.specs.declared.world.World.{World}

-- the machine of a setup's topology and packages, with the capacity of the world's log: how many places its requests may need in all
abbrev pub machine_in : Setup → World → Machine
machine_in setup world = machine_of setup.topology setup.checked (world.sequencer).capacity
