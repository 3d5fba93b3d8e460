use Rattle.std.proofs.Common.{◌≡◌, ◌+◌, ◌*◌, drop}
use Rattle.ledger_terms.specs.ExprForms.{expr_form, exprs_of, list_form}
use Rattle.lang_eval.proofs.ExprSizes.{expr_size, exprs_size}
use Rattle.lang_eval.proofs.same.+exprs.Given as goal

abbrev pub decreases-same_lists : goal.decreases-same_lists
decreases-same_lists l = 2 * exprs_size (list_form l.a.now) + 1

abbrev pub decreases-same_exprs : goal.decreases-same_exprs
decreases-same_exprs l = 2 * expr_size (expr_form l.a.now)

abbrev pub invariant-same_lists-loop-expr : goal.invariant-same_lists-loop-expr
invariant-same_lists-loop-expr l = exprs_of (drop l.expr-index l.expr-items) ≡ exprs_of (drop l.at l.others) → list_form l.a ≡ list_form l.b
