use Rattle.std.proofs.Common.{◌≡◌, List, rules, sym, subst}
use Rattle.std.proofs.lemmas.List.{with_items_is, places}
use Rattle.world_model.specs.Lawful.{Lawful}
use Rattle.world_model.specs.World.{happens}
use Rattle.node_core.specs.Participant.{Participant as NodeValue}
use Rattle.node_core.specs.Bases.{AreBases}
use Rattle.world_play.specs.Moves.{event_at}
use Rattle.world_play.specs.Submitting.{AreSetUp}
use Rattle.world_play.specs.Worlds.{world_with, AreNodesOf}
use Rattle.world_play.proofs.Answered.{on_ok}
use Rattle.world_play.proofs.moving.move_node.Goals as goal

pub returns-clause-nodes : goal.returns-clause-nodes
returns-clause-nodes g c =
    on_ok c.move_slice.result _ _ c.move_slice.ensures.nodes
    (λ ok m a.
    let s = c.args.sequencer.now in
    let new = c.move_slice.new.nodes in
    subst (λ (xs : List NodeValue). AreNodesOf m xs c.move_slice.new.sequencer) (sym (with_items_is c.args.nodes.now new (search (rules, places))))
    (ok m (subst (λ (xs : List NodeValue). AreNodesOf m xs s) (sym c.as_mut_slice.ensures.value) a)))

pub returns-clause-set_up : goal.returns-clause-set_up
returns-clause-set_up g c =
    on_ok c.move_slice.result _ _ c.move_slice.ensures.set_up
    (λ ok topology packages u.
    let new = c.move_slice.new.nodes in
    subst (λ (xs : List NodeValue). AreSetUp topology packages xs) (sym (with_items_is c.args.nodes.now new (search (rules, places))))
    (ok topology packages (subst (λ (xs : List NodeValue). AreSetUp topology packages xs) (sym c.as_mut_slice.ensures.value) u)))

pub returns-clause-bases : goal.returns-clause-bases
returns-clause-bases g c =
    on_ok c.move_slice.result _ _ c.move_slice.ensures.bases
    (λ ok bases u.
    let new = c.move_slice.new.nodes in
    subst (λ (xs : List NodeValue). AreBases bases xs) (sym (with_items_is c.args.nodes.now new (search (rules, places))))
    (ok bases (subst (λ (xs : List NodeValue). AreBases bases xs) (sym c.as_mut_slice.ensures.value) u)))

pub returns-clause-ok : goal.returns-clause-ok
returns-clause-ok g c =
    on_ok c.move_slice.result _ _ c.move_slice.ensures.ok
    (λ ok m now state a l.
    let s = c.args.sequencer.now in
    let new = c.move_slice.new.nodes in
    let s' = c.move_slice.new.sequencer in
    let event = event_at c.args.action c.args.at in
    let at = sym c.as_mut_slice.ensures.value in
    subst (λ (xs : List NodeValue). world_with now state xs s' ≡ happens m (world_with now state (c.args.nodes.now).items s) event)
    (sym (with_items_is c.args.nodes.now new (search (rules, places))))
    (subst (λ (xs : List NodeValue). world_with now state new s' ≡ happens m (world_with now state xs s) event) c.as_mut_slice.ensures.value
    (ok m now state (subst (λ (xs : List NodeValue). AreNodesOf m xs s) at a) (subst (λ (xs : List NodeValue). Lawful m (world_with now state xs s)) at l))))
