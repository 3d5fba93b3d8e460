use Rattle.std.proofs.Common.{◌≡◌, [], arith}
use Rattle.std.proofs.lemmas.List.{nil_from_length}
use Rattle.node_inbox.proofs.Taken.{placed_front, placed_none}
use Rattle.node_inbox.proofs.taking.roots_out_of.Goals as goal

pub views-preserved : goal.views-preserved
views-preserved c =
    placed_front _ _ _ _ _ _ _ c.in-Some.ensures.steps.0 c.in_ok-push.ensures.ok c.in_ok-into_assembled.ensures c.views.invariant

pub returns : goal.returns
returns c =
    let none : c.views.placed-iterator.rest.items ≡ [] = nil_from_length _ (omega (arith, c.views.placed-iterator.rest.ok.0, c.in-None.ensures.steps.0)) in
    placed_none _ _ _ none c.views.invariant
