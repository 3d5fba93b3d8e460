use Rattle.std.proofs.Common.{◌≡◌, [], ◌+◌, ◌*◌, drop}
use Rattle.ledger_terms.specs.ExprForms.{expr_form, exprs_of, list_form}
use Rattle.lang_eval.specs.Value.{vals}
use Rattle.lang_eval.proofs.ExprSizes.{expr_size, exprs_size}
use Rattle.lang_eval.proofs.Values.{gathered}
use Rattle.lang_eval.proofs.evaluate.+eval.Given as goal

abbrev pub decreases-eval_set : goal.decreases-eval_set
decreases-eval_set l = 3 * exprs_size (list_form l.exprs.now)

abbrev pub decreases-eval_operation : goal.decreases-eval_operation
decreases-eval_operation l = 3 * expr_size (expr_form l.second.now) + 2

abbrev pub decreases-hold_both : goal.decreases-hold_both
decreases-hold_both l = 3 * expr_size (expr_form l.second.now) + 2

abbrev pub decreases-hold_either : goal.decreases-hold_either
decreases-hold_either l = 3 * expr_size (expr_form l.second.now) + 2

abbrev pub decreases-hold_operation : goal.decreases-hold_operation
decreases-hold_operation l = 3 * expr_size (expr_form l.expr.now)

abbrev pub decreases-hold_expr : goal.decreases-hold_expr
decreases-hold_expr l = 3 * expr_size (expr_form l.expr.now) + 1

abbrev pub invariant-eval_set-loop-expr : goal.invariant-eval_set-loop-expr
invariant-eval_set-loop-expr l = gathered l.set (vals (exprs_of (drop l.expr-index l.expr-items)) l.names) ≡ gathered [] (vals (list_form l.exprs) l.names)
