use Rattle.std.proofs.Common.{List, map, ap, ◌∙◌}
use Rattle.world_model.specs.Node.{NodeState}
use Rattle.node_core.specs.OverLog.{state_over}
use Rattle.world_play.proofs.Answered.{on_ok}
use Rattle.world_play.proofs.Passed.{mediator_in, nodes_grown, states_grown}
use Rattle.world_play.proofs.happening.verdict_comes.Goals as goal

pub returns-clause-ok : goal.returns-clause-ok
returns-clause-ok c =
    on_ok c.give.result _ _ c.give.ensures.ok
    (λ ok m state is l.
    let world = c.args.world.now in
    let nodes = (world.nodes).items in
    let w = ok m state (l.mediator).0 (mediator_in m world.now nodes world.sequencer is.nodes state l world.mediator is.mediator) in (
      w.0,
      record { nodes = nodes_grown m world.now nodes world.sequencer is.nodes c.give.new.sequencer c.give.ensures.on; mediator = w.1 },
      ap (λ (states : List NodeState). record { log = (c.give.new.sequencer).list; now = world.now; mediator = w.0; nodes = states })
          (states_grown m world.now nodes world.sequencer is.nodes c.give.new.sequencer c.give.ensures.on)
          ∙ w.2 world.now (map (state_over (world.sequencer).list) nodes),
    ))
