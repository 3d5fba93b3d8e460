use Rattle.std.proofs.Common.{List, rules, sym, subst}
use Rattle.std.proofs.lemmas.List.{with_items_is, places}
use Rattle.world_model.specs.Lawful.{Lawful}
use Rattle.node_core.specs.Participant.{Participant as NodeValue}
use Rattle.node_core.specs.Bases.{AreBases}
use Rattle.world_play.specs.Flags.{ArePaused}
use Rattle.world_play.specs.Submitting.{AreSetUp}
use Rattle.world_play.specs.Worlds.{world_with, AreNodesOf}
use Rattle.world_play.proofs.Submits.{if_ok}
use Rattle.world_play.proofs.submitting_each.answer_list.Goals as goal

pub answer_slice-requires-clause-lawful : goal.answer_slice-requires-clause-lawful
answer_slice-requires-clause-lawful g c =
    let r = c.requires.lawful in
    let at = sym c.as_mut_slice.ensures.value in
    let s = c.args.sequencer.now in (
      r.0,
      r.1,
      r.2,
      subst (λ (xs : List NodeValue). AreNodesOf r.0 xs s) at r.3,
      subst (λ (xs : List NodeValue). Lawful r.0 (world_with r.1 r.2 xs s)) at r.4,
    )

pub answer_slice-requires-clause-within : goal.answer_slice-requires-clause-within
answer_slice-requires-clause-within g c =
    let w = c.requires.within in
    (w.0, w.1, subst (λ (xs : List NodeValue). AreSetUp w.0 w.1 xs) (sym c.as_mut_slice.ensures.value) w.2, w.3)

pub returns-clause-nodes : goal.returns-clause-nodes
returns-clause-nodes g c = λ m a.
    let all = with_items_is c.args.nodes.now c.answer_slice.new.nodes (search (rules, places)) in
    let s = c.args.sequencer.now in
    subst (λ (xs : List NodeValue). AreNodesOf m xs c.answer_slice.new.sequencer) (sym all)
    (c.answer_slice.ensures.nodes m (subst (λ (xs : List NodeValue). AreNodesOf m xs s) (sym c.as_mut_slice.ensures.value) a))

pub returns-clause-lawful : goal.returns-clause-lawful
returns-clause-lawful g c = λ m time state a l.
    let at = sym c.as_mut_slice.ensures.value in
    let s = c.args.sequencer.now in
    let all = with_items_is c.args.nodes.now c.answer_slice.new.nodes (search (rules, places)) in
    subst (λ (xs : List NodeValue). Lawful m (world_with time state xs c.answer_slice.new.sequencer)) (sym all)
    (c.answer_slice.ensures.lawful m time state (subst (λ (xs : List NodeValue). AreNodesOf m xs s) at a)
    (subst (λ (xs : List NodeValue). Lawful m (world_with time state xs s)) at l))

pub returns-clause-set_up : goal.returns-clause-set_up
returns-clause-set_up g c = λ topology packages u.
    let all = with_items_is c.args.nodes.now c.answer_slice.new.nodes (search (rules, places)) in
    subst (λ (xs : List NodeValue). AreSetUp topology packages xs) (sym all)
    (c.answer_slice.ensures.set_up topology packages (subst (λ (xs : List NodeValue). AreSetUp topology packages xs) (sym c.as_mut_slice.ensures.value) u))

pub returns-clause-bases : goal.returns-clause-bases
returns-clause-bases g c = λ bases u.
    let all = with_items_is c.args.nodes.now c.answer_slice.new.nodes (search (rules, places)) in
    subst (λ (xs : List NodeValue). AreBases bases xs) (sym all)
    (c.answer_slice.ensures.bases bases (subst (λ (xs : List NodeValue). AreBases bases xs) (sym c.as_mut_slice.ensures.value) u))

pub returns-clause-paused : goal.returns-clause-paused
returns-clause-paused g c = λ paused p.
    let all = with_items_is c.args.nodes.now c.answer_slice.new.nodes (search (rules, places)) in
    subst (λ (xs : List NodeValue). ArePaused paused xs) (sym all)
    (c.answer_slice.ensures.paused paused (subst (λ (xs : List NodeValue). ArePaused paused xs) (sym c.as_mut_slice.ensures.value) p))

pub returns-clause-answers : goal.returns-clause-answers
returns-clause-answers g c =
    if_ok c.answer_slice.result _ _ c.answer_slice.ensures.answers
    (λ answer h m time state topology packages round a l u p.
    let at = sym c.as_mut_slice.ensures.value in
    let s = c.args.sequencer.now in
    h m time state topology packages round (subst (λ (xs : List NodeValue). AreNodesOf m xs s) at a)
    (subst (λ (xs : List NodeValue). Lawful m (world_with time state xs s)) at l) (subst (λ (xs : List NodeValue). AreSetUp topology packages xs) at u)
    (subst (λ (xs : List NodeValue). ArePaused round.paused xs) at p))
