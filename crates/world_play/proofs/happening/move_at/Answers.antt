use Rattle.std.proofs.Common.{◌≡◌, subst}
use Rattle.ledger_model.specs.Terms.{ParticipantId}
use Rattle.world_model.specs.World.{happens}
use Rattle.world_play.specs.Moves.{event_at}
use Rattle.world_play.specs.Worlds.{world_with}
use Rattle.world_play.specs.WorldOf.{world_of}
use Rattle.world_play.proofs.Answered.{both_ok}
use Rattle.world_play.proofs.happening.move_at.Goals as goal

pub move_node-requires : goal.move_node-requires
move_node-requires g c =
    (c.requires.0, c.args.world.now.now, c.requires.1, (c.requires.2).nodes, c.requires.3)

pub returns-clause-ok : goal.returns-clause-ok
returns-clause-ok g c =
    both_ok c.move_node.result _ _ _ c.move_node.ensures.nodes c.move_node.ensures.ok
    (λ nodes ok m state is l.
    let world = c.args.world.now in (
      state,
      record { nodes = nodes m is.nodes; mediator = is.mediator },
      subst
          (λ (p : ParticipantId). world_with world.now state (c.move_node.new.nodes).items c.move_node.new.sequencer
          ≡ happens m (world_of state world) (event_at c.args.action p)) c.node.view_is (ok m world.now state is.nodes l),
    ))
