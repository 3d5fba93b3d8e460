use Rattle.std.proofs.Common.{map}
use Rattle.node_core.specs.OverLog.{state_over}
use Rattle.world_play.proofs.Answered.{on_ok}
use Rattle.world_play.proofs.Passed.{mediator_in}
use Rattle.world_play.proofs.happening.verdict_is_lost.Goals as goal

pub returns-clause-ok : goal.returns-clause-ok
returns-clause-ok c =
    on_ok c.lose.result _ _ c.lose.ensures.ok
    (λ ok m state is l.
    let world = c.args.world.now in
    let nodes = (world.nodes).items in
    let w =
    ok m state (l.mediator).0 world.sequencer (mediator_in m world.now nodes world.sequencer is.nodes state l world.mediator is.mediator) in
    (w.0, record { nodes = is.nodes; mediator = w.1 }, w.2 world.now (map (state_over (world.sequencer).list) nodes)))
