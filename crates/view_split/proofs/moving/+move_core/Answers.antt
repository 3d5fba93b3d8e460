use Rattle.std.proofs.Common.{◌≡◌, [], ◌∙◌, ap, arith}
use Rattle.std.proofs.lemmas.List.{nil_from_length}
use Rattle.ledger_terms.specs.Forest.{join}
use Rattle.ledger_terms.specs.Trees.{Actions}
use Rattle.view_split.specs.Holed.{fill}
use Rattle.view_split.proofs.Moved.{moved_inner, moved_hole, moved_end}
use Rattle.view_split.proofs.moving.+move_core.Goals as goal

pub children-preserved-in-Continue-branch-2 : goal.children-preserved-in-Continue-branch-2
children-preserved-in-Continue-branch-2 t c =
    moved_inner _ _ _ c.in-Inner.node _ _ _ _ _ _ _ _ c.in-Some.ensures.steps.0 c.in-Inner.is c.in_ok-push-in-Inner.ensures.ok
    (c.in_ok-move_core-in-Inner.ensures.filled ∙ ap (λ (x : Actions). join x (fill c.in-Inner.node.children c.children.trees)) c.new-below.ensures)
    c.in_ok-move_core-in-Inner.ensures.left c.children.invariant

pub children-preserved : goal.children-preserved
children-preserved t c =
    moved_hole _ _ _ _ _ _ _ _ _ _ c.in-Some.ensures.steps.0 c.in-Hole.is c.in_ok-put_next-in-Hole.ensures.filled c.in_ok-put_next-in-Hole.ensures.left
    c.children.invariant

pub returns-clause-filled : goal.returns-clause-filled
returns-clause-filled t c =
    let none : c.children.child-iterator.rest.items ≡ [] = nil_from_length _ (omega (arith, c.children.child-iterator.rest.ok.0, c.in-None.ensures.steps.0)) in
    moved_end _ _ _ _ _ _ none c.children.invariant
