use Rattle.std.proofs.Common.{◌<◌, ◌+◌, ◌++◌, ◌∷◌, [], sym, ◌∙◌, ap, arith}
use Rattle.ledger_terms.specs.Grown.{forest_of, tree_of}
use Rattle.ledger_terms.specs.declared.act.Act.{Act}
use Rattle.view_split.specs.CoreLists.{core_weight}
use Rattle.view_split.proofs.Filling.{child_below}
use Rattle.view_split.proofs.Preorders.{list_inner, list_hole, listed_end, view_within, views_weight}
use Rattle.view_split.proofs.listing.+list_acts.Goals as goal
use Rattle.view_split.proofs.listing.+list_acts.Goals.{list_core-in-Inner+in_ok-push-in-Inner+in_ok-list_core-in-Inner, list_core-in-Hole+in_ok-list_next-in-Hole}

pub acts_in_view-list_core-requires : goal.acts_in_view-list_core-requires
acts_in_view-list_core-requires t c =
    let below : 2 + core_weight c.args.view.now.root.below + views_weight (forest_of c.as_slice.result.now) < views_weight (tree_of c.args.view.now) =
    rw c.as_slice.ensures (omega arith) in
    (rw (← c.decreases) below, tt)

pub list_core-list_core-requires : goal.list_core-list_core-requires
list_core-list_core-requires t c =
    let child : core_weight c.in-Inner.node.children < core_weight c.args.core.now =
    rw (← c.as_slice-child-items.ensures) (child_below _ _ _ c.in-Inner.node c.loop-child-test.true (sym c.child-item.is ∙ c.in-Inner.is)) in
    let below : 2 + core_weight c.in-Inner.node.children + views_weight (forest_of c.args.views.now) < 2 + core_weight c.args.core.now + views_weight (forest_of c.args.views.now) =
    omega (arith, child) in
    (rw (← c.decreases) below, tt)

pub list_core-list_next-requires : goal.list_core-list_next-requires
list_core-list_next-requires t c =
    let below : 1 + views_weight (forest_of c.args.views.now) < 2 + core_weight c.args.core.now + views_weight (forest_of c.args.views.now) = omega arith in
    (rw (← c.decreases) below, tt)

pub list_next-acts_in_view-requires : goal.list_next-acts_in_view-requires
list_next-acts_in_view-requires t c =
    let below : views_weight (tree_of c.index-views-next.result) < 1 + views_weight (forest_of c.args.views.now) =
    rw c.index-views-next.is (omega (arith, view_within c.args.views.now c.args.next.now c.index-views-next.result c.if-next-views.true)) in
    (rw (← c.decreases) below, tt)

pub list_core-loop-child-preserved : goal.list_core-loop-child-preserved
list_core-loop-child-preserved t c =
    elim c.match-child.branch [
      | list_core-in-Inner+in_ok-push-in-Inner+in_ok-list_core-in-Inner w ↦ rw (w.found-is, w.next-is)
          (list_inner _ _ _ w.in-Inner.node _ _ _ _ _ _ _ c.loop-child-test.true c.child-item.is w.in-Inner.is
          (w.in_ok-push-in-Inner.ensures.items ∙ ap (λ (act : Act). c.loop-child.found.items ++ act ∷ []) w.new.ensures)
          w.in_ok-list_core-in-Inner.ensures.found w.in_ok-list_core-in-Inner.ensures.left c.loop-child.invariant)
      | list_core-in-Hole+in_ok-list_next-in-Hole w ↦ rw (w.found-is, w.next-is)
          (list_hole _ _ _ _ _ _ _ _ _ c.loop-child-test.true c.child-item.is w.in-Hole.is
          w.in_ok-list_next-in-Hole.ensures.found w.in_ok-list_next-in-Hole.ensures.left c.loop-child.invariant)
    ]

pub list_core-returns-clause-found : goal.list_core-returns-clause-found
list_core-returns-clause-found t c = (listed_end _ _ _ _ _ _ c.loop-child-test.false c.loop-child.invariant).0

pub list_core-returns-clause-left : goal.list_core-returns-clause-left
list_core-returns-clause-left t c = (listed_end _ _ _ _ _ _ c.loop-child-test.false c.loop-child.invariant).1
