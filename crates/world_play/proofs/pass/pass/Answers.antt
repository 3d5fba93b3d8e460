use Rattle.std.proofs.Common.{refl}
use Rattle.world_play.proofs.Answered.{both_ok}
use Rattle.world_play.proofs.Passed.{nodes_grown, mediator_in, mediated, pass_done}
use Rattle.world_play.proofs.pass.pass.Goals as goal

pub returns-in_err-take_turns-clause-lawful : goal.returns-in_err-take_turns-clause-lawful
returns-in_err-take_turns-clause-lawful g c = λ m state is l.
    let world = c.args.world.now in (
      state,
      record { nodes = c.take_turns.ensures.nodes m is.nodes; mediator = is.mediator },
      c.take_turns.ensures.lawful m world.now state is.nodes l,
    )

pub mediate-requires : goal.mediate-requires
mediate-requires g c =
    let m = c.requires.0 in
    let state = c.requires.1 in
    let is = c.requires.2 in
    let world = c.args.world.now in
    let l = c.take_turns.ensures.lawful m world.now state is.nodes c.requires.3 in (
      m,
      state,
      (l.mediator).0,
      mediator_in m world.now (c.take_turns.new.nodes).items c.take_turns.new.sequencer (c.take_turns.ensures.nodes m is.nodes) state l world.mediator
          is.mediator,
    )

pub returns-clause-lawful : goal.returns-clause-lawful
returns-clause-lawful g c = λ m state is l0.
    let world = c.args.world.now in
    let nodes = (c.take_turns.new.nodes).items in
    let a = c.take_turns.ensures.nodes m is.nodes in
    let l = c.take_turns.ensures.lawful m world.now state is.nodes l0 in
    let i = mediator_in m world.now nodes c.take_turns.new.sequencer a state l world.mediator is.mediator in
    let w = c.mediate.ensures.keeps m state (l.mediator).0 i in (
      w.0,
      record {
        nodes = nodes_grown m world.now nodes c.take_turns.new.sequencer a c.mediate.new.sequencer c.mediate.ensures.on;
        mediator = record { params = (w.2).params; keeps = (w.2).keeps };
      },
      mediated m world.now nodes c.take_turns.new.sequencer a state l w.0 w.1 c.mediate.new.mediator c.mediate.new.sequencer c.mediate.ensures.on w.2,
    )

pub returns-clause-ok : goal.returns-clause-ok
returns-clause-ok g c =
    both_ok c.mediate.result _ _ _ c.mediate.ensures.held c.mediate.ensures.given
    (λ held given m state is ready.
    let world = c.args.world.now in
    let nodes = (c.take_turns.new.nodes).items in
    let began = (world.sequencer).list in
    let done = c.in_ok-take_turns.ensures.ok m world.now state began is.nodes (record { ready = ready; log = refl }) in
    let a = c.take_turns.ensures.nodes m is.nodes in
    let l = (done.ready).lawful in
    let i = mediator_in m world.now nodes c.take_turns.new.sequencer a state l world.mediator is.mediator in
    let w =
    pass_done m world.now nodes c.take_turns.new.sequencer a c.args.paused.now c.args.hold_verdicts state began c.mediate.new.mediator c.mediate.new.sequencer
    done c.mediate.ensures.on (λ h. held h m state (l.mediator).0 i) (λ h. given h m state (l.mediator).0 world.now i) in (
      w.0,
      record {
        nodes = nodes_grown m world.now nodes c.take_turns.new.sequencer a c.mediate.new.sequencer c.mediate.ensures.on;
        mediator = w.1;
      },
      w.2,
      w.3,
    ))
