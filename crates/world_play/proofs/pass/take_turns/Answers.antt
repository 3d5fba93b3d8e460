use Rattle.std.proofs.Common.{List, rules, sym, subst}
use Rattle.std.proofs.lemmas.List.{with_items_is, places}
use Rattle.world_model.specs.Lawful.{Lawful}
use Rattle.world_model.specs.Settling.{PassedTo}
use Rattle.node_core.specs.Participant.{Participant as NodeValue}
use Rattle.node_core.specs.Bases.{AreBases}
use Rattle.world_play.specs.Submitting.{AreSetUp}
use Rattle.world_play.specs.Worlds.{world_with, AreNodesOf}
use Rattle.world_play.proofs.Answered.{on_ok}
use Rattle.world_play.proofs.pass.take_turns.Goals as goal

pub take_turns_slice-requires : goal.take_turns_slice-requires
take_turns_slice-requires g c =
    let r = c.requires in
    let at = sym c.as_mut_slice.ensures.value in
    let s = c.args.sequencer.now in (
      r.0,
      r.1,
      r.2,
      subst (λ (xs : List NodeValue). AreNodesOf r.0 xs s) at r.3,
      subst (λ (xs : List NodeValue). Lawful r.0 (world_with r.1 r.2 xs s)) at r.4,
    )

pub returns-clause-nodes : goal.returns-clause-nodes
returns-clause-nodes g c = λ m a.
    let at = sym c.as_mut_slice.ensures.value in
    let s = c.args.sequencer.now in
    let all = with_items_is c.args.nodes.now c.take_turns_slice.new.nodes (search (rules, places)) in
    subst (λ (xs : List NodeValue). AreNodesOf m xs c.take_turns_slice.new.sequencer) (sym all)
    (c.take_turns_slice.ensures.nodes m (subst (λ (xs : List NodeValue). AreNodesOf m xs s) at a))

pub returns-clause-lawful : goal.returns-clause-lawful
returns-clause-lawful g c = λ m now state a l.
    let at = sym c.as_mut_slice.ensures.value in
    let s = c.args.sequencer.now in
    let all = with_items_is c.args.nodes.now c.take_turns_slice.new.nodes (search (rules, places)) in
    subst (λ (xs : List NodeValue). Lawful m (world_with now state xs c.take_turns_slice.new.sequencer)) (sym all)
    (c.take_turns_slice.ensures.lawful m now state (subst (λ (xs : List NodeValue). AreNodesOf m xs s) at a)
    (subst (λ (xs : List NodeValue). Lawful m (world_with now state xs s)) at l))

pub returns-clause-ok : goal.returns-clause-ok
returns-clause-ok g c =
    on_ok c.take_turns_slice.result _ _ c.take_turns_slice.ensures.ok
    (λ ok m now state began a h.
    let at = sym c.as_mut_slice.ensures.value in
    let s = c.args.sequencer.now in
    let all = with_items_is c.args.nodes.now c.take_turns_slice.new.nodes (search (rules, places)) in
    subst (λ (xs : List NodeValue). PassedTo m c.args.paused.now began m.hosts (world_with now state xs c.take_turns_slice.new.sequencer)) (sym all)
    (ok m now state began (subst (λ (xs : List NodeValue). AreNodesOf m xs s) at a)
    (subst (λ (xs : List NodeValue). PassedTo m c.args.paused.now began 0 (world_with now state xs s)) at h)))

pub returns-clause-set_up : goal.returns-clause-set_up
returns-clause-set_up g c = λ topology packages u.
    let all = with_items_is c.args.nodes.now c.take_turns_slice.new.nodes (search (rules, places)) in
    subst (λ (xs : List NodeValue). AreSetUp topology packages xs) (sym all)
    (c.take_turns_slice.ensures.set_up topology packages (subst (λ (xs : List NodeValue). AreSetUp topology packages xs) (sym c.as_mut_slice.ensures.value) u))

pub returns-clause-bases : goal.returns-clause-bases
returns-clause-bases g c = λ bases u.
    let all = with_items_is c.args.nodes.now c.take_turns_slice.new.nodes (search (rules, places)) in
    subst (λ (xs : List NodeValue). AreBases bases xs) (sym all)
    (c.take_turns_slice.ensures.bases bases (subst (λ (xs : List NodeValue). AreBases bases xs) (sym c.as_mut_slice.ensures.value) u))
