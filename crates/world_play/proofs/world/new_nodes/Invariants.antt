use Rattle.world_play.specs.Making.{AreNewNodes}
use Rattle.world_play.proofs.world.new_nodes.Given as goal

abbrev pub invariant-hosts : goal.invariant-hosts
invariant-hosts l = AreNewNodes ((l.setup).topology) ((l.setup).checked) l.at (l.nodes).items
