use Rattle.std.proofs.Common.{◌≡◌, [], arith}
use Rattle.std.proofs.lemmas.List.{nil_from_length}
use Rattle.whole_request.proofs.PutBack.{put_all, put_next}
use Rattle.whole_request.proofs.reading.actions_of.Goals as goal

pub views-preserved : goal.views-preserved
views-preserved c =
    put_next _ _ _ _ _ _ _ c.in-Some.ensures.steps.0 c.in_ok-push.ensures.ok c.in_ok-into_assembled.ensures c.views.invariant

pub returns : goal.returns
returns c =
    let none : c.views.view-iterator.rest.items ≡ [] = nil_from_length _ (omega (arith, c.views.view-iterator.rest.ok.0, c.in-None.ensures.steps.0)) in
    put_all _ _ _ none c.views.invariant
