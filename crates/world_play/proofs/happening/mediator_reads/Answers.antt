use Rattle.std.proofs.Common.{map, sym, ap, ◌∙◌, subst}
use Rattle.seq_log.specs.Sequenced.{Sequenced}
use Rattle.node_core.specs.OverLog.{state_over}
use Rattle.world_play.specs.Worlds.{AreNodesOf}
use Rattle.world_play.proofs.Answered.{on_ok}
use Rattle.world_play.proofs.Passed.{mediator_in}
use Rattle.world_play.proofs.happening.mediator_reads.Goals as goal

pub read_next-requires : goal.read_next-requires
read_next-requires c =
    let m = c.requires.0 in
    let state = c.requires.1 in
    let is = c.requires.2 in
    let world = c.args.world.now in
    (m, state, (c.requires.3).mediator.0, mediator_in m world.now (world.nodes).items world.sequencer is.nodes state c.requires.3 world.mediator is.mediator)

pub returns-clause-ok : goal.returns-clause-ok
returns-clause-ok c =
    on_ok c.read_next.result _ _ c.read_next.ensures.ok
    (λ ok m state is l.
    let world = c.args.world.now in
    let nodes = (world.nodes).items in
    let w = ok m state (l.mediator).0 (mediator_in m world.now nodes world.sequencer is.nodes state l world.mediator is.mediator) in (
      w.0,
      record { nodes = subst (λ (q : Sequenced). AreNodesOf m nodes q) (sym c.read_next.ensures.log) is.nodes; mediator = w.1 },
      ap (λ (q : Sequenced). record { log = q.list; now = world.now; mediator = w.0; nodes = map (state_over q.list) nodes }) c.read_next.ensures.log
          ∙ w.2 world.now (map (state_over (world.sequencer).list) nodes),
    ))
