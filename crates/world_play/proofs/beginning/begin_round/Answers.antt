use Rattle.std.proofs.Common.{List, ap, ◌∙◌, subst}
use Rattle.ledger_model.specs.Terms.{ParticipantId}
use Rattle.world_model.specs.World.{World as WorldState}
use Rattle.world_play.specs.Flags.{ArePaused}
use Rattle.world_play.specs.Worlds.{world_with}
use Rattle.world_play.proofs.Answered.{on_ok}
use Rattle.world_play.proofs.Begins.{advanced_log, lawful_on}
use Rattle.world_play.proofs.beginning.begin_round.Goals as goal

pub returns-clause-lawful : goal.returns-clause-lawful
returns-clause-lawful c = λ m state is l.
    let world = c.args.world.now in
    let s = world.sequencer in
    let next = c.advance.new.world in (
      c.advance.ensures.is m state (record { nodes = c.set_paused.ensures.nodes m s is.nodes; mediator = is.mediator }),
      rw c.advance.ensures.nodes
          (lawful_on m world.now next.now state (c.set_paused.new.nodes).items s next.sequencer c.advance.ensures.on
          (c.advance.ensures.behind m (is.nodes).is_for (record { genuine = l.genuine; within_capacity = l.within_capacity }))
          (c.set_paused.ensures.nodes m s is.nodes) (c.set_paused.ensures.lawful m world.now state s l)),
    )

pub returns-clause-set_up : goal.returns-clause-set_up
returns-clause-set_up c = λ topology packages u. rw c.advance.ensures.nodes (c.set_paused.ensures.set_up topology packages u)

pub returns-clause-bases : goal.returns-clause-bases
returns-clause-bases c = λ bases u. rw c.advance.ensures.nodes (c.set_paused.ensures.bases bases u)

pub returns-clause-paused : goal.returns-clause-paused
returns-clause-paused c =
    rw c.advance.ensures.nodes
    (subst (λ (ps : List ParticipantId). ArePaused ps (c.set_paused.new.nodes).items) c.as_slice.ensures c.set_paused.ensures.paused)

pub returns-clause-log : goal.returns-clause-log
returns-clause-log c =
    on_ok c.advance.result _ _ c.advance.ensures.ok
    (λ ok m state round is e.
    let world = c.args.world.now in
    ap (λ (w : WorldState). w.log) (ok m state (record { nodes = c.set_paused.ensures.nodes m world.sequencer is.nodes; mediator = is.mediator }))
    ∙ advanced_log m (world_with world.now state (c.set_paused.new.nodes).items world.sequencer) c.args.advance round e)
