use Rattle.std.proofs.Common.{List, rules, sym, subst}
use Rattle.std.proofs.lemmas.List.{with_items_is, places}
use Rattle.world_model.specs.Lawful.{Lawful}
use Rattle.node_core.specs.Participant.{Participant as NodeValue}
use Rattle.node_core.specs.Bases.{AreBases}
use Rattle.world_play.specs.Flags.{ArePaused}
use Rattle.world_play.specs.Submitting.{AreSetUp}
use Rattle.world_play.specs.Worlds.{world_with, AreNodesOf}
use Rattle.world_play.proofs.beginning.set_paused.Goals as goal

pub returns-clause-nodes : goal.returns-clause-nodes
returns-clause-nodes c = λ m s a.
    let all = with_items_is c.args.nodes.now c.set_paused_slice.new.nodes (search (rules, places)) in
    subst (λ (xs : List NodeValue). AreNodesOf m xs s) (sym all)
    (c.set_paused_slice.ensures.nodes m s (subst (λ (xs : List NodeValue). AreNodesOf m xs s) (sym c.as_mut_slice.ensures.value) a))

pub returns-clause-lawful : goal.returns-clause-lawful
returns-clause-lawful c = λ m now state s l.
    let all = with_items_is c.args.nodes.now c.set_paused_slice.new.nodes (search (rules, places)) in
    subst (λ (xs : List NodeValue). Lawful m (world_with now state xs s)) (sym all)
    (c.set_paused_slice.ensures.lawful m now state s
    (subst (λ (xs : List NodeValue). Lawful m (world_with now state xs s)) (sym c.as_mut_slice.ensures.value) l))

pub returns-clause-set_up : goal.returns-clause-set_up
returns-clause-set_up c = λ topology packages u.
    let all = with_items_is c.args.nodes.now c.set_paused_slice.new.nodes (search (rules, places)) in
    subst (λ (xs : List NodeValue). AreSetUp topology packages xs) (sym all)
    (c.set_paused_slice.ensures.set_up topology packages
    (subst (λ (xs : List NodeValue). AreSetUp topology packages xs) (sym c.as_mut_slice.ensures.value) u))

pub returns-clause-bases : goal.returns-clause-bases
returns-clause-bases c = λ bases u.
    let all = with_items_is c.args.nodes.now c.set_paused_slice.new.nodes (search (rules, places)) in
    subst (λ (xs : List NodeValue). AreBases bases xs) (sym all)
    (c.set_paused_slice.ensures.bases bases
    (subst (λ (xs : List NodeValue). AreBases bases xs) (sym c.as_mut_slice.ensures.value) u))

pub returns-clause-paused : goal.returns-clause-paused
returns-clause-paused c =
    let all = with_items_is c.args.nodes.now c.set_paused_slice.new.nodes (search (rules, places)) in
    subst (λ (xs : List NodeValue). ArePaused c.args.paused.now xs) (sym all) c.set_paused_slice.ensures.paused
