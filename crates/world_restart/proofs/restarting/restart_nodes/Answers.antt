use Rattle.std.proofs.Common.{List, rules, sym, subst}
use Rattle.std.proofs.lemmas.List.{with_items_is, places}
use Rattle.world_model.specs.Lawful.{Lawful}
use Rattle.node_core.specs.Participant.{Participant as NodeValue}
use Rattle.world_play.specs.Submitting.{AreSetUp}
use Rattle.world_play.specs.Worlds.{AreNodesOf, world_with}
use Rattle.world_play.proofs.Answered.{on_ok}
use Rattle.world_restart.specs.Restarting.{AllStay, AreRestarted}
use Rattle.world_restart.proofs.restarting.restart_nodes.Goals as goal

pub restart_slice-requires-clause-set_up : goal.restart_slice-requires-clause-set_up
restart_slice-requires-clause-set_up c =
    subst (λ (xs : List NodeValue). AreSetUp c.args.setup.now.topology c.args.setup.now.checked xs) (sym c.as_mut_slice.ensures.value) c.requires.set_up

pub restart_slice-requires-clause-lawful : goal.restart_slice-requires-clause-lawful
restart_slice-requires-clause-lawful c =
    let r = c.requires.lawful in
    let at = sym c.as_mut_slice.ensures.value in
    let s = c.args.sequencer.now in (
      r.0,
      r.1,
      r.2,
      subst (λ (xs : List NodeValue). AreNodesOf r.0 xs s) at r.3,
      subst (λ (xs : List NodeValue). Lawful r.0 (world_with r.1 r.2 xs s)) at r.4,
    )

pub returns-clause-remain : goal.returns-clause-remain
returns-clause-remain c =
    let s = c.args.sequencer.now in
    let new = c.restart_slice.new.nodes in
    let all = with_items_is c.args.nodes.now new (search (rules, places)) in
    subst (λ (xs : List NodeValue). AllStay s c.args.nodes.now.items xs) (sym all)
    (subst (λ (xs : List NodeValue). AllStay s xs new) c.as_mut_slice.ensures.value c.restart_slice.ensures.remain)

pub returns-clause-restarted : goal.returns-clause-restarted
returns-clause-restarted c =
    on_ok c.restart_slice.result _ _ c.restart_slice.ensures.restarted
    (λ ok.
    let log = c.args.sequencer.now.list in
    let ps = c.args.participants.now in
    let new = c.restart_slice.new.nodes in
    let all = with_items_is c.args.nodes.now new (search (rules, places)) in
    subst (λ (xs : List NodeValue). AreRestarted ps log c.args.nodes.now.items xs) (sym all)
    (subst (λ (xs : List NodeValue). AreRestarted ps log xs new) c.as_mut_slice.ensures.value ok))
