use Rattle.std.proofs.Common.{◌≡◌, List, Some, map, sym, ap, ◌∙◌, subst}
use Rattle.std.specs.Prelude.{slice_get}
use Rattle.world_model.specs.Messages.{Entry}
use Rattle.world_model.specs.Node.{NodeState}
use Rattle.world_model.specs.World.{submit_wanted}
use Rattle.node_core.specs.OverLog.{state_over}
use Rattle.node_core.specs.Participant.{Participant as NodeValue}
use Rattle.world_play.specs.Submitting.{wanted_of}
use Rattle.world_play.specs.WorldOf.{world_of}
use Rattle.world_play.proofs.Passed.{nodes_grown, states_grown}
use Rattle.world_play.proofs.Submits.{can_prepare, submits}
use Rattle.world_play.proofs.submitting.submit.Goals as goal

pub returns-in_ok-hand_in_request-clause-ok : goal.returns-in_ok-hand_in_request-clause-ok
returns-in_ok-hand_in_request-clause-ok g c = λ m state is.
    let world = c.args.world.now in
    let what = c.args.what.now in
    let nodes = (world.nodes).items in
    let log = (world.sequencer).list in
    let ask =
    sym (c.in_ok-request.ensures log
    (λ node at. (is.nodes).inbox what.participant node
    (subst (λ (xs : List NodeValue). slice_get xs what.participant ≡ Some node) c.as_slice.ensures.value at))
    ∙ ap (λ (xs : List NodeValue). wanted_of log what world.now (slice_get xs what.participant)) c.as_slice.ensures.value) ∙ c.in-Some.is in
    let next = c.hand_in_request.new.sequencer in
    ap (λ (states : List NodeState). record { log = next.list; now = world.now; mediator = state; nodes = states })
    (states_grown m world.now nodes world.sequencer is.nodes next c.hand_in_request.ensures.on)
    ∙ (ap (λ (xs : List Entry). record { log = xs; now = world.now; mediator = state; nodes = map (state_over log) nodes })
    (c.in_ok-hand_in_request.ensures.ok m world.now (is.nodes).is_for)
    ∙ (ap (submit_wanted m (world_of state world)) (sym ask) ∙ submits m world.now state nodes world.sequencer what is.nodes))

pub returns-in_ok-hand_in_request-clause-is : goal.returns-in_ok-hand_in_request-clause-is
returns-in_ok-hand_in_request-clause-is g c = λ m state is.
    let world = c.args.world.now in
    record {
      nodes = nodes_grown m world.now (world.nodes).items world.sequencer is.nodes c.hand_in_request.new.sequencer c.hand_in_request.ensures.on;
      mediator = is.mediator;
    }

pub returns-in_default-clause-ok : goal.returns-in_default-clause-ok
returns-in_default-clause-ok g c = λ m state is.
    let world = c.args.world.now in
    let what = c.args.what.now in
    let nodes = (world.nodes).items in
    let log = (world.sequencer).list in
    let ask =
    sym (c.in_ok-request.ensures log
    (λ node at. (is.nodes).inbox what.participant node
    (subst (λ (xs : List NodeValue). slice_get xs what.participant ≡ Some node) c.as_slice.ensures.value at))
    ∙ ap (λ (xs : List NodeValue). wanted_of log what world.now (slice_get xs what.participant)) c.as_slice.ensures.value) ∙ c.in_default.is in
    ap (submit_wanted m (world_of state world)) (sym ask) ∙ submits m world.now state nodes world.sequencer what is.nodes

pub wanted-requires : goal.wanted-requires
wanted-requires g c = λ node at.
    let world = c.args.world.now in
    let w = c.requires.within in
    let r = c.requires.lawful in
    can_prepare r.0 world.now r.1 (world.nodes).items world.sequencer c.args.what.now (r.2).nodes r.3 w.0 w.1 w.2 w.3 node
    (subst (λ (xs : List NodeValue). slice_get xs c.args.what.now.participant ≡ Some node) c.as_slice.ensures.value at)
