use Rattle.std.proofs.Common.{List, ap, ◌∙◌}
use Rattle.world_model.specs.Node.{NodeState}
use Rattle.world_model.specs.Settling.{returned}
use Rattle.seq_log.specs.Sequenced.{Sequenced}
use Rattle.world_play.specs.Worlds.{world_with}
use Rattle.world_play.proofs.resuming.resume.Goals as goal

pub returns-clause-resumed : goal.returns-clause-resumed
returns-clause-resumed c = λ m state is l.
    let world = c.args.world.now in
    let s = world.sequencer in
    let mediator = returned m.params s.list state in
    ap (λ (q : Sequenced). world_with world.now mediator (c.resume_nodes.new.nodes).items q) c.resume_nodes.ensures.log
    ∙ ap (λ (ns : List NodeState). record { log = s.list; now = world.now; mediator = mediator; nodes = ns })
    (c.resume_nodes.ensures.resumed m world.now state is.nodes l)
