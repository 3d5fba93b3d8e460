use Rattle.std.proofs.Common.{◌≡◌, [], drop, sym, ◌∙◌}
use Rattle.std.proofs.Math.ListN.{drop_of_length-le}
use Rattle.lang_eval.proofs.Runs.{with_no_values}
use Rattle.lang_eval.proofs.body.bind_fields.Goals as goal

pub returns-else-at-values : goal.returns-else-at-values
returns-else-at-values c =
    let none : drop c.loop-at.at c.args.values.now ≡ [] = drop_of_length-le c.args.values.now c.if-at-values.false in
    sym (with_no_values _ _ _) ∙ (rw none at c.loop-at.invariant)
