-- What an operator gives follows from what its first operand was evaluated to.
use Rattle.std.proofs.Common.{◌<◌, ◌+◌, ◌*◌, rules, arith}
use Rattle.ledger_terms.specs.ExprForms.{expr_form, list_form}
use Rattle.lang_eval.proofs.ExprSizes.{expr_size, exprs_size, item_size, operation_val}
use Rattle.lang_eval.proofs.evaluate.+eval.Goals as goal

pub eval_operation-returns : goal.eval_operation-returns
eval_operation-returns t c = let whole = c.applied.ensures _ c.hold_expr.ensures in search (rules, whole)

pub hold_operation-returns-in-Operation : goal.hold_operation-returns-in-Operation
hold_operation-returns-in-Operation t c = let whole = c.eval_operation.ensures _ c.hold_expr.ensures in search (rules, whole, operation_val)

pub hold_operation-returns-in-Both : goal.hold_operation-returns-in-Both
hold_operation-returns-in-Both t c = let whole = c.hold_both.ensures _ c.hold_expr-in-Both.ensures in search (rules, whole)

pub hold_operation-returns-in-Either : goal.hold_operation-returns-in-Either
hold_operation-returns-in-Either t c = let whole = c.hold_either.ensures _ c.hold_expr-in-Either.ensures in search (rules, whole)

pub eval_set-hold_expr-requires : goal.eval_set-hold_expr-requires
eval_set-hold_expr-requires t c =
    let smaller = item_size c.as_slice-expr-items.result.now c.loop-expr.expr-index c.expr-item.result c.loop-expr-test.true c.expr-item.is in
    let below : 3 * expr_size (expr_form c.expr-item.result) + 1 < 3 * exprs_size (list_form c.args.exprs.now) =
    rw (← c.as_slice-expr-items.ensures) (omega (arith, smaller)) in
    (rw (← c.decreases) below, tt)
