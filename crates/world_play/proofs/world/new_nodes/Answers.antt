use Rattle.std.proofs.Common.{◌+◌, List, sym, subst}
use Rattle.node_core.specs.Participant.{Participant as NodeValue}
use Rattle.world_play.specs.Making.{AreNewNodes}
use Rattle.world_play.proofs.Makes.{one_new}
use Rattle.world_play.proofs.world.new_nodes.Goals as goal

pub hosts-preserved : goal.hosts-preserved
hosts-preserved c =
    let t = c.args.setup.now.topology in
    let p = c.args.setup.now.checked in
    subst (λ (xs : List NodeValue). AreNewNodes t p (c.hosts.at + 1) xs) (sym c.in_ok-push.ensures.items)
    (one_new t p c.hosts.at (c.hosts.nodes).items c.new.result c.hosts.invariant c.new.ensures)
