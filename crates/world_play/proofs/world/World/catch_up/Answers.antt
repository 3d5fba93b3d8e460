use Rattle.std.proofs.Common.{List, sym, ap, ◌∙◌, subst}
use Rattle.world_model.specs.Lawful.{Lawful}
use Rattle.world_model.specs.Node.{NodeState}
use Rattle.seq_log.specs.Sequenced.{Sequenced}
use Rattle.world_play.specs.Worlds.{world_with}
use Rattle.world_play.proofs.Answered.{on_ok}
use Rattle.world_play.proofs.world.World.catch_up.Goals as goal

pub returns-clause-lawful : goal.returns-clause-lawful
returns-clause-lawful c = λ m state is l.
    subst (λ (q : Sequenced). Lawful m (world_with c.args.self.now.now state (c.read_nodes.new.nodes).items q)) (sym c.read_nodes.ensures.log)
    (c.read_nodes.ensures.lawful m c.args.self.now.now state is.nodes l)

pub returns-clause-ok : goal.returns-clause-ok
returns-clause-ok c =
    on_ok c.read_nodes.result _ _ c.read_nodes.ensures.ok
    (λ ok m state is l.
    let world = c.args.self.now in
    ap (λ (q : Sequenced). world_with world.now state (c.read_nodes.new.nodes).items q) c.read_nodes.ensures.log
    ∙ ap (λ (ns : List NodeState). record { log = (world.sequencer).list; now = world.now; mediator = state; nodes = ns }) (ok m world.now state is.nodes l))
