use Rattle.shared_world.proofs.Worlds.{world_nodes, world_mediator, mediator_within}
use Rattle.shared_world.proofs.synchroniser.shared_of.Goals as goal

pub of-requires-clause-nodes : goal.of-requires-clause-nodes
of-requires-clause-nodes g c =
    let w = c.requires.world in
    world_nodes g.S.Session.topology g.S.Session.packages g.S.Session.machine g.S.Session.why g.S.Session.bases c.requires.set_up c.args.world c.requires.nodes c.requires.bases w.0 w.1 w.2

pub of-requires-clause-within : goal.of-requires-clause-within
of-requires-clause-within g c =
    let w = c.requires.world in
    mediator_within g.S.Session.topology g.S.Session.packages g.S.Session.machine g.S.Session.why g.S.Session.bases c.requires.set_up c.args.world c.requires.nodes c.requires.bases w.0 w.1 w.2

pub of-requires-clause-mediator : goal.of-requires-clause-mediator
of-requires-clause-mediator g c =
    let w = c.requires.world in
    world_mediator g.S.Session.topology g.S.Session.packages g.S.Session.machine g.S.Session.why g.S.Session.bases c.requires.set_up c.args.world c.requires.nodes c.requires.bases w.0 w.1 w.2
