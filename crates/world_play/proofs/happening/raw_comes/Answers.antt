use Rattle.std.proofs.Common.{◌∙◌, ap}
use Rattle.world_model.specs.Messages.{Request, RequestMessage}
use Rattle.world_model.specs.Sequencing.{sequenced}
use Rattle.world_play.proofs.Answered.{on_ok}
use Rattle.world_play.proofs.Raws.{raw_happens}
use Rattle.world_play.proofs.happening.raw_comes.Goals as goal

pub returns-clause-ok : goal.returns-clause-ok
returns-clause-ok c =
    on_ok c.hand_in_raw.result _ _ c.hand_in_raw.ensures.ok
    (λ ok m state is l.
    let world = c.args.world.now in
    let after = c.hand_in_raw.new.world in
    let kept = c.hand_in_raw.ensures.lawful m state is l in
    let list =
    ok m world.now (is.nodes).is_for
    ∙ ap (λ (request : Request). sequenced m world.now (world.sequencer).list (RequestMessage request)) c.in_ok-copy_of.ensures in (
      state,
      kept.0,
      rw (c.hand_in_raw.ensures.nodes, c.hand_in_raw.ensures.now)
          (raw_happens m world.now state (world.nodes).items world.sequencer after.sequencer c.args.request.now is.nodes
          c.hand_in_raw.ensures.on list),
    ))
