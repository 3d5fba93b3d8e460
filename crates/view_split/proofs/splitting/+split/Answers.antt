use Rattle.std.proofs.Common.{◌<◌, ◌+◌, ◌*◌, refl, arith}
use Rattle.std.proofs.lemmas.Result.{err_from_is_err_and}
use Rattle.ledger_terms.specs.Grown.{tree_of, node_count}
use Rattle.ledger_terms.proofs.Grow.{tree_within}
use Rattle.lang_eval.specs.Language.{roles_in}
use Rattle.view_split.proofs.Walks.{walked_none, walked_more, walked_inner, walked_hole, started}
use Rattle.view_split.proofs.FaultFacts.{found_here, none_so_far}
use Rattle.view_split.proofs.splitting.+split.Goals as goal
use Rattle.view_split.proofs.splitting.+split.Goals.{split_node-then-stays_inside+in_ok-add_parties+in_ok-split_children+in_ok-core_node+in_ok-push+in-More-1, split_node-then-stays_inside+in_ok-add_parties+in_ok-split_children+in_ok-core_node+in_ok-push+in-Nothing-1, split_node-else-stays_inside+in_ok-below+in_ok-put_view}

pub split_children-loop-at-init : goal.split_children-loop-at-init
split_children-loop-at-init t c = (walked_none _ _ _, refl)

pub split_children-split_node-requires : goal.split_children-split_node-requires
split_children-split_node-requires t c =
    let below : 3 * node_count (tree_of c.index-nodes-at.result) < 3 * node_count c.args.nodes.now + 1 =
    rw (c.index-nodes-at.is, ← c.as_slice-nodes.ensures) (omega (arith, tree_within c.as_slice-nodes.result.now c.loop-at.at c.index-nodes-at.result c.loop-at-test.true)) in
    (rw (← c.decreases) below, tt)

pub split_children-returns-in_err-split_node-clause-fault :
    goal.split_children-returns-in_err-split_node-clause-fault
split_children-returns-in_err-split_node-clause-fault t c =
    let p = err_from_is_err_and c.from_residual-in_err-split_node.result c.from_residual-in_err-split_node.ensures.1 in
    rw (p.1, p.2, ← c.as_slice-nodes.ensures)
    (found_here c.args.checked.now _ _ _ _ _ _ c.loop-at-test.true c.index-nodes-at.is c.in_ok-path.ensures c.in_err-split_node.ensures.fault c.loop-at.invariant.1)

pub split_children-loop-at-preserved : goal.split_children-loop-at-preserved
split_children-loop-at-preserved t c = (
  walked_more (roles_in c.args.checked.now) _ _ _ _ _ _ _ _ _ c.loop-at-test.true c.index-nodes-at.is c.loop-at.invariant.0 c.in_ok-split_node.ensures.walked,
  none_so_far c.args.checked.now _ _ _ _ _ c.loop-at-test.true c.index-nodes-at.is c.in_ok-path.ensures c.in_ok-split_node.ensures.fault c.loop-at.invariant.1,
)

pub split_node-returns-clause-walked : goal.split_node-returns-clause-walked
split_node-returns-clause-walked t c =
    elim c.if-stays_inside.branch [
      | split_node-then-stays_inside+in_ok-add_parties+in_ok-split_children+in_ok-core_node+in_ok-push+in-More-1 w ↦ rw (w.view-is, w.children-is)
          (walked_inner (roles_in c.args.checked.now) c.args.node.now c.in_ok-roles.roles c.stays_inside.result c.args.view.now (record { informees = c.args.view.now.informees; confirmers = w.add_parties.new.set; subviews = c.args.view.now.subviews }) _ _ _ _ _ _
          c.in_ok-roles.ensures.1 c.stays_inside.ensures w.if-stays_inside.true refl w.in_ok-add_parties.ensures refl w.new-below.ensures w.in_ok-split_children.ensures.walked w.in_ok-core_node.ensures w.in_ok-push.ensures.ok)
      | split_node-then-stays_inside+in_ok-add_parties+in_ok-split_children+in_ok-core_node+in_ok-push+in-Nothing-1 w ↦ rw (w.view-is, w.children-is)
          (walked_inner (roles_in c.args.checked.now) c.args.node.now c.in_ok-roles.roles c.stays_inside.result c.args.view.now (record { informees = c.args.view.now.informees; confirmers = w.add_parties.new.set; subviews = c.args.view.now.subviews }) _ _ _ _ _ _
          c.in_ok-roles.ensures.1 c.stays_inside.ensures w.if-stays_inside.true refl w.in_ok-add_parties.ensures refl w.new-below.ensures w.in_ok-split_children.ensures.walked w.in_ok-core_node.ensures w.in_ok-push.ensures.ok)
      | split_node-else-stays_inside+in_ok-below+in_ok-put_view w ↦ rw (w.view-is, w.children-is)
          (walked_hole (roles_in c.args.checked.now) c.args.node.now c.in_ok-roles.roles c.stays_inside.result c.args.view.now _ _ _ _
          c.in_ok-roles.ensures.1 c.stays_inside.ensures w.if-stays_inside.false w.in_ok-put_view.ensures.same.0 w.in_ok-put_view.ensures.same.1 w.in_ok-below.ensures.view w.in_ok-put_view.ensures.put w.in_ok-put_view.ensures.hole)
    ]

pub start_view-returns-clause-view : goal.start_view-returns-clause-view
start_view-returns-clause-view t c =
    started (roles_in c.args.checked.now) c.args.node.now c.args.roles _
    (record { informees = c.args.roles.informees; confirmers = c.add_parties.new.set; subviews = c.new-2.result }) _ _ _ _
    c.requires c.new.ensures refl c.in_ok-add_parties.ensures c.new-2.ensures c.new-children.ensures c.in_ok-split_children.ensures.walked c.in_ok-copied.ensures
