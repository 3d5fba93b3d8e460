use Rattle.std.proofs.Common.{◌≡◌, ◌<◌, true, refl}
use Rattle.ledger_terms.specs.Grown.{node_count}
use Rattle.ledger_terms.specs.declared.act.Act.{Act}
use Rattle.ledger_terms.proofs.Grow.{child_below}
use Rattle.lang_eval.specs.Language.{has_roles}
use Rattle.project.specs.Informed.{is_informed}
use Rattle.project.proofs.Kept.{kept_step, kept_end, kept_yes, kept_no, node_action, node_below}
use Rattle.project.proofs.projection.+project_into.Goals as goal
use Rattle.project.proofs.projection.+project_into.Goals.{then-informed+in_ok-whole+in_ok-push, else-informed+in_ok-project_into}

pub is_informed-requires : goal.is_informed-requires
is_informed-requires t c =
    node_action (λ (a : Act). has_roles c.args.checked.now a.action ≡ true) _ _ _ c.loop-node-test.true c.node-item.is (rw c.as_slice-node-items.ensures c.requires)

pub project_into-requires : goal.project_into-requires
project_into-requires t c =
    let below : node_count c.node-item.result.below < node_count c.args.roots.now =
    rw (c.node-item.is, ← c.as_slice-node-items.ensures) (child_below _ _ _ c.loop-node-test.true) in
    (rw (← c.decreases) below, node_below (λ (a : Act). has_roles c.args.checked.now a.action ≡ true) _ _ _ c.loop-node-test.true c.node-item.is (rw c.as_slice-node-items.ensures c.requires))

pub loop-node-preserved : goal.loop-node-preserved
loop-node-preserved t c =
    kept_step (is_informed c.args.checked.now c.args.parties.now) _ _ _ _ _ _ c.loop-node-test.true c.node-item.is
    (elim c.if-informed.branch [
      | then-informed+in_ok-whole+in_ok-push w ↦ rw (w.out-is, w.in_ok-push.ensures.ok, w.in_ok-whole.ensures.cases, kept_yes (is_informed c.args.checked.now c.args.parties.now) c.node-item.result c.in_ok-informed.informed c.in_ok-informed.ensures w.if-informed.true) refl
      | else-informed+in_ok-project_into w ↦ rw (w.out-is, w.in_ok-project_into.ensures, kept_no (is_informed c.args.checked.now c.args.parties.now) c.node-item.result c.in_ok-informed.informed c.in_ok-informed.ensures w.if-informed.false) refl
    ]) c.loop-node.invariant

pub returns : goal.returns
returns t c = kept_end (is_informed c.args.checked.now c.args.parties.now) _ _ _ _ c.loop-node-test.false c.loop-node.invariant
