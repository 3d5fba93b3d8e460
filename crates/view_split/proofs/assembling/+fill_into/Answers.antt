use Rattle.std.proofs.Common.{◌<◌, sym, ◌∙◌, ap}
use Rattle.ledger_terms.specs.Forest.{Root, NoRoots, join}
use Rattle.ledger_terms.specs.declared.action.Action.{Action}
use Rattle.ledger_terms.specs.Trees.{Actions}
use Rattle.view_split.specs.Holed.{fill}
use Rattle.view_split.specs.CoreLists.{core_weight}
use Rattle.view_split.proofs.Filling.{child_below, step_inner, step_next, filled_end}
use Rattle.view_split.proofs.assembling.+fill_into.Goals as goal
use Rattle.view_split.proofs.assembling.+fill_into.Goals.{in-Inner+in_ok-fill_into-in-Inner+in_ok-action-in-Inner+in_ok-push-in-Inner, in-Hole+in_ok-put_next-in-Hole}

pub fill_into-requires : goal.fill_into-requires
fill_into-requires t c =
    let below : core_weight c.in-Inner.node.children < core_weight c.args.core.now =
    rw (← c.as_slice-child-items.ensures) (child_below _ _ _ c.in-Inner.node c.loop-child-test.true (sym c.child-item.is ∙ c.in-Inner.is)) in
    (rw (← c.decreases) below, tt)

pub loop-child-preserved : goal.loop-child-preserved
loop-child-preserved t c =
    elim c.match-child.branch [
      | in-Inner+in_ok-fill_into-in-Inner+in_ok-action-in-Inner+in_ok-push-in-Inner w ↦ rw (w.out-is, w.trees-is)
          (step_inner _ _ _ w.in-Inner.node _ _ _ _ _ _ _ c.loop-child-test.true c.child-item.is w.in-Inner.is
          (w.in_ok-push-in-Inner.ensures.ok ∙ ap (λ (a : Action). join c.loop-child.out (Root (record { seed = w.in-Inner.node.seed; action = a }) w.fill_into.new.out NoRoots)) w.in_ok-action-in-Inner.ensures)
          (w.in_ok-fill_into-in-Inner.ensures.filled ∙ ap (λ (x : Actions). join x (fill w.in-Inner.node.children c.loop-child.trees)) w.new-children.ensures) w.in_ok-fill_into-in-Inner.ensures.left c.loop-child.invariant)
      | in-Hole+in_ok-put_next-in-Hole w ↦ rw (w.out-is, w.trees-is)
          (step_next _ _ _ _ _ _ _ _ _ c.loop-child-test.true c.child-item.is w.in-Hole.is w.in_ok-put_next-in-Hole.ensures.filled w.in_ok-put_next-in-Hole.ensures.left c.loop-child.invariant)
    ]

pub returns-clause-filled : goal.returns-clause-filled
returns-clause-filled t c = filled_end _ _ _ _ _ _ c.loop-child-test.false c.loop-child.invariant
