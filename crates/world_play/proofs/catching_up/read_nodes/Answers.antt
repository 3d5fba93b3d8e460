use Rattle.std.proofs.Common.{◌≡◌, List, map, rules, sym, subst}
use Rattle.std.proofs.lemmas.List.{with_items_is, places}
use Rattle.world_model.specs.Lawful.{Lawful}
use Rattle.world_model.specs.Settling.{catch_each}
use Rattle.node_core.specs.Participant.{Participant as NodeValue}
use Rattle.node_core.specs.Bases.{AreBases}
use Rattle.world_play.specs.Submitting.{AreSetUp}
use Rattle.node_core.specs.OverLog.{state_over}
use Rattle.world_play.specs.Worlds.{world_with, AreNodesOf}
use Rattle.world_play.proofs.Answered.{on_ok}
use Rattle.world_play.proofs.catching_up.read_nodes.Goals as goal

pub returns-clause-lawful : goal.returns-clause-lawful
returns-clause-lawful c = λ m now state a l.
    let at = sym c.as_mut_slice.ensures.value in
    let s = c.args.sequencer.now in
    let new = c.read_nodes_slice.new.nodes in
    let all = with_items_is c.args.nodes.now new (search (rules, places)) in
    subst (λ (xs : List NodeValue). Lawful m (world_with now state xs s)) (sym all)
    (c.read_nodes_slice.ensures.lawful m now state (subst (λ (xs : List NodeValue). AreNodesOf m xs s) at a)
    (subst (λ (xs : List NodeValue). Lawful m (world_with now state xs s)) at l))

pub returns-clause-ok : goal.returns-clause-ok
returns-clause-ok c =
    on_ok c.read_nodes_slice.result _ _ c.read_nodes_slice.ensures.ok
    (λ ok m now state a l.
    let at = sym c.as_mut_slice.ensures.value in
    let s = c.args.sequencer.now in
    let new = c.read_nodes_slice.new.nodes in
    let all = with_items_is c.args.nodes.now new (search (rules, places)) in
    subst (λ (xs : List NodeValue). map (state_over s.list) xs ≡ catch_each m s.list 0 (map (state_over s.list) (c.args.nodes.now).items)) (sym all)
    (subst (λ (xs : List NodeValue). map (state_over s.list) new ≡ catch_each m s.list 0 (map (state_over s.list) xs)) c.as_mut_slice.ensures.value
    (ok m now state (subst (λ (xs : List NodeValue). AreNodesOf m xs s) at a)
    (subst (λ (xs : List NodeValue). Lawful m (world_with now state xs s)) at l))))

pub returns-clause-set_up : goal.returns-clause-set_up
returns-clause-set_up c = λ topology packages u.
    let all = with_items_is c.args.nodes.now c.read_nodes_slice.new.nodes (search (rules, places)) in
    subst (λ (xs : List NodeValue). AreSetUp topology packages xs) (sym all)
    (c.read_nodes_slice.ensures.set_up topology packages (subst (λ (xs : List NodeValue). AreSetUp topology packages xs) (sym c.as_mut_slice.ensures.value) u))

pub returns-clause-bases : goal.returns-clause-bases
returns-clause-bases c = λ bases u.
    let all = with_items_is c.args.nodes.now c.read_nodes_slice.new.nodes (search (rules, places)) in
    subst (λ (xs : List NodeValue). AreBases bases xs) (sym all)
    (c.read_nodes_slice.ensures.bases bases (subst (λ (xs : List NodeValue). AreBases bases xs) (sym c.as_mut_slice.ensures.value) u))
