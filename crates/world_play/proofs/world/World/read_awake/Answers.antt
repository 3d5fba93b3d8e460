use Rattle.std.proofs.Common.{sym, subst}
use Rattle.world_model.specs.Lawful.{Lawful}
use Rattle.seq_log.specs.Sequenced.{Sequenced}
use Rattle.world_play.specs.Worlds.{world_with}
use Rattle.world_play.proofs.world.World.read_awake.Goals as goal

pub returns-clause-lawful : goal.returns-clause-lawful
returns-clause-lawful c = λ m state is l.
    subst (λ (q : Sequenced). Lawful m (world_with c.args.self.now.now state (c.read_awake_list.new.nodes).items q)) (sym c.read_awake_list.ensures.log)
    (c.read_awake_list.ensures.lawful m c.args.self.now.now state is.nodes l)
