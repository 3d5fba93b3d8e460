use Rattle.std.proofs.Common.{◌≡◌, [], arith}
use Rattle.std.proofs.lemmas.List.{nil_from_length}
use Rattle.view_split.proofs.Moved.{moved_view, moved_views}
use Rattle.view_split.proofs.moving.+into_assembled.Goals as goal

pub move_views-views-preserved : goal.move_views-views-preserved
move_views-views-preserved t c =
    moved_view _ _ _ _ _ _ _ _ c.in-Some.ensures.steps.0 c.in_ok-push.ensures.ok c.in_ok-into_assembled.ensures c.views.invariant

pub move_views-returns : goal.move_views-returns
move_views-returns t c =
    let none : c.views.view-iterator.rest.items ≡ [] = nil_from_length _ (omega (arith, c.views.view-iterator.rest.ok.0, c.in-None.ensures.steps.0)) in
    moved_views _ _ _ _ none c.views.invariant
