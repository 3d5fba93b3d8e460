use Rattle.world_model.specs.Machine.{IsMachine}
use Rattle.node_core.specs.Machines.{machine_of}
use Rattle.world_play.specs.Submitting.{AreSetUp}
use Rattle.world_play.proofs.Plays.{IsPlayed}
use Rattle.world_play.proofs.playing.play.Given as goal

abbrev pub invariant-events : goal.invariant-events
invariant-events g l =
    IsMachine (machine_of ((l.setup).topology) ((l.setup).checked) l.capacity)
    × IsPlayed (machine_of ((l.setup).topology) ((l.setup).checked) l.capacity) l.events l.event-index l.world
    × AreSetUp ((l.setup).topology) ((l.setup).checked) (l.world.nodes).items
