use Rattle.std.proofs.Common.{◌<◌, ◌*◌, arith}
use Rattle.ledger_terms.specs.ExprForms.{expr_form, list_form}
use Rattle.lang_eval.proofs.ExprCopies.{taken_step, taken_end}
use Rattle.lang_eval.proofs.ExprSizes.{expr_size, exprs_size, item_size}
use Rattle.lang_eval.proofs.expr_copy.+copy.Goals as goal

pub copy_list-copy_expr-requires : goal.copy_list-copy_expr-requires
copy_list-copy_expr-requires t c =
    let smaller = item_size c.as_slice-expr-items.result.now c.loop-expr.expr-index c.expr-item.result c.loop-expr-test.true c.expr-item.is in
    let below : 3 * expr_size (expr_form c.expr-item.result) < 3 * exprs_size (list_form c.args.list.now) =
    rw (← c.as_slice-expr-items.ensures) (omega (arith, smaller)) in
    (rw (← c.decreases) below, tt)

pub copy_list-loop-expr-preserved : goal.copy_list-loop-expr-preserved
copy_list-loop-expr-preserved t c =
    taken_step _ _ _ _ _ _ _ c.loop-expr-test.true c.expr-item.is c.in_ok-push.ensures.ok c.in_ok-copy_expr.ensures c.loop-expr.invariant

pub copy_list-returns : goal.copy_list-returns
copy_list-returns t c = taken_end _ _ _ _ c.loop-expr-test.false c.loop-expr.invariant
