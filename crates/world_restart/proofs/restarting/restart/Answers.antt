use Rattle.std.proofs.Common.{List, subst}
use Rattle.ledger_model.specs.Terms.{ParticipantId}
use Rattle.world_play.proofs.Answered.{on_ok}
use Rattle.world_restart.specs.Restarting.{AreRestarted}
use Rattle.world_restart.proofs.Walks.{bases_then, paused_still, set_up_still, world_still}
use Rattle.world_restart.proofs.restarting.restart.Goals as goal

pub restart_nodes-requires-clause-lawful : goal.restart_nodes-requires-clause-lawful
restart_nodes-requires-clause-lawful c =
    let r = c.requires.lawful in (r.0, c.args.world.now.now, r.1, (r.2).nodes, r.3)

pub returns-clause-lawful : goal.returns-clause-lawful
returns-clause-lawful c = λ m state is l.
    let world = c.args.world.now in
    let w =
    world_still world.sequencer world.nodes.items c.restart_nodes.new.nodes.items c.restart_nodes.ensures.remain m world.now state is.nodes l
    c.restart_nodes.new.sequencer c.restart_nodes.ensures.log in
    (record { nodes = w.0; mediator = is.mediator }, w.1)

pub returns-clause-set_up : goal.returns-clause-set_up
returns-clause-set_up c =
    set_up_still c.args.world.now.sequencer c.args.world.now.nodes.items c.restart_nodes.new.nodes.items c.restart_nodes.ensures.remain

pub returns-clause-paused : goal.returns-clause-paused
returns-clause-paused c =
    paused_still c.args.world.now.sequencer c.args.world.now.nodes.items c.restart_nodes.new.nodes.items c.restart_nodes.ensures.remain

pub returns-clause-restarted : goal.returns-clause-restarted
returns-clause-restarted c =
    let world = c.args.world.now in
    on_ok c.restart_nodes.result _ _ c.restart_nodes.ensures.restarted
    (λ ok.
    subst (λ (ps : List ParticipantId). AreRestarted ps world.sequencer.list world.nodes.items c.restart_nodes.new.nodes.items) c.as_slice.ensures ok)

pub returns-clause-bases : goal.returns-clause-bases
returns-clause-bases c =
    let world = c.args.world.now in
    on_ok c.restart_nodes.result _ _ c.restart_nodes.ensures.restarted
    (λ ok m state bases is given.
    bases_then c.args.participants.now world.sequencer.list world.nodes.items c.restart_nodes.new.nodes.items
    (subst (λ (ps : List ParticipantId). AreRestarted ps world.sequencer.list world.nodes.items c.restart_nodes.new.nodes.items) c.as_slice.ensures ok)
    m world.sequencer is.nodes bases given)
