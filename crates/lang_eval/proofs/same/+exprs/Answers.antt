use Rattle.std.proofs.Common.{◌<◌, ◌+◌, ◌*◌, arith}
use Rattle.ledger_terms.specs.ExprForms.{expr_form, list_form}
use Rattle.lang_eval.proofs.ExprSizes.{expr_size, exprs_size, item_size}
use Rattle.lang_eval.proofs.same.+exprs.Goals as goal

pub same_lists-same_exprs-requires : goal.same_lists-same_exprs-requires
same_lists-same_exprs-requires t c =
    let smaller = item_size c.as_slice-expr-items.result.now c.loop-expr.expr-index c.expr-item.result c.loop-expr-test.true c.expr-item.is in
    let below : 2 * expr_size (expr_form c.expr-item.result) < 2 * exprs_size (list_form c.args.a.now) + 1 =
    rw (← c.as_slice-expr-items.ensures) (omega (arith, smaller)) in
    (rw (← c.decreases) below, tt)
