use Rattle.std.proofs.Common.{◌+◌, ◌*◌, ◌<◌, ◌∷◌, [], ◌∙◌, ap, arith}
use Rattle.std.proofs.lemmas.Result.{on_ok_weaker}
use Rattle.view_split.specs.CoreLists.{children_of, core_weight}
use Rattle.confirm_reply.specs.Numbers.{numbered_trees}
use Rattle.confirm_reply.proofs.CoreSteps.{child_within, core_end, core_short, core_step, inner_held}
use Rattle.confirm_reply.proofs.NumberSteps.{numbered_pushed}
use Rattle.confirm_reply.proofs.cores.+core.Goals as goal

pub put_child-returns-in_ok-below-in-Inner-clause-held : goal.put_child-returns-in_ok-below-in-Inner-clause-held
put_child-returns-in_ok-below-in-Inner-clause-held t c =
    on_ok_weaker c.put_core.result
    (inner_held c.args.child.now c.in-Inner.node c.args.tree.now c.as_slice.result.now _ _ c.in-Inner.is (ap numbered_trees c.as_slice.ensures.value ∙ c.in_ok-below-in-Inner.ensures))
    c.put_core.ensures.held

pub put_child-returns-in_ok-push-in-Hole-clause-held : goal.put_child-returns-in_ok-push-in-Hole-clause-held
put_child-returns-in_ok-push-in-Hole-clause-held t c =
    rw c.in-Hole.is (ap numbered_trees c.in_ok-push-in-Hole.ensures.items ∙ numbered_pushed c.args.held.now.items c.args.tree.now)

pub put_core-returns-then-at-trees-clause-core : goal.put_core-returns-then-at-trees-clause-core
put_core-returns-then-at-trees-clause-core t c = (core_short _ _ _ _ _ _ _ c.if-at-trees.true c.loop-at.invariant).0

pub put_core-returns-then-at-trees-clause-held : goal.put_core-returns-then-at-trees-clause-held
put_core-returns-then-at-trees-clause-held t c = (core_short _ _ _ _ _ _ _ c.if-at-trees.true c.loop-at.invariant).1

pub put_core-put_child-requires : goal.put_core-put_child-requires
put_core-put_child-requires t c =
    let below : 2 * core_weight (children_of (c.index-items-at.result ∷ [])) < 2 * core_weight c.args.children.now + 1 =
    rw (c.index-items-at.is, ← c.as_slice-items.ensures) (omega (arith, child_within c.as_slice-items.result.now c.loop-at.at c.index-items-at.result c.loop-at-test.true)) in
    (rw (← c.decreases) below, tt)

pub put_core-loop-at-preserved : goal.put_core-loop-at-preserved
put_core-loop-at-preserved t c =
    core_step _ _ _ _ _ _ _ _ _ _ _ c.loop-at-test.true c.index-items-at.is c.if-at-trees.false c.index-trees-at.is
    c.in_ok-put_child.ensures.core c.in_ok-put_child.ensures.held c.loop-at.invariant

pub put_core-returns-clause-held : goal.put_core-returns-clause-held
put_core-returns-clause-held t c = (core_end _ _ _ _ _ _ _ c.loop-at-test.false c.loop-at.invariant).1
