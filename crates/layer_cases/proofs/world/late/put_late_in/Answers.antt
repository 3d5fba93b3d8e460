use Rattle.std.proofs.Common.{List, sym, subst}
use Rattle.world_model.specs.Lawful.{Lawful}
use Rattle.node_core.specs.Participant.{Participant as NodeValue}
use Rattle.world_play.specs.Worlds.{AreNodesOf, world_with}
use Rattle.layer_cases.proofs.world.late.put_late_in.Goals as goal

pub put_late_among-requires : goal.put_late_among-requires
put_late_among-requires c =
    let r = c.requires in
    let world = c.args.world.now in
    let at = sym c.as_mut_slice.ensures.value in (
      r.0,
      world.now,
      r.1,
      subst (λ (xs : List NodeValue). AreNodesOf r.0 xs world.sequencer) at (r.2).nodes,
      subst (λ (xs : List NodeValue). Lawful r.0 (world_with world.now r.1 xs world.sequencer)) at r.3,
    )
