use Rattle.std.proofs.Common.{◌≡◌, ◌+◌, ◌*◌, drop}
use Rattle.ledger_terms.specs.ExprForms.{expr_form, exprs_of, list_form}
use Rattle.ledger_terms.specs.SyntaxLists.{exprs_join}
use Rattle.lang_eval.proofs.ExprSizes.{expr_size, exprs_size}
use Rattle.lang_eval.proofs.expr_copy.+copy.Given as goal

abbrev pub decreases-copy_boxed : goal.decreases-copy_boxed
decreases-copy_boxed l = 3 * expr_size (expr_form l.expr.now.value) + 1

abbrev pub decreases-copy_list : goal.decreases-copy_list
decreases-copy_list l = 3 * exprs_size (list_form l.list.now)

abbrev pub decreases-copy_expr : goal.decreases-copy_expr
decreases-copy_expr l = 3 * expr_size (expr_form l.expr.now)

abbrev pub invariant-copy_list-loop-expr : goal.invariant-copy_list-loop-expr
invariant-copy_list-loop-expr l = exprs_join (list_form l.copy) (exprs_of (drop l.expr-index l.expr-items)) ≡ list_form l.list
