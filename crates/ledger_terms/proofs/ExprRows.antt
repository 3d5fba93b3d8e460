-- The form of a set of expressions, at the row by which an expression holds them.
use Rattle.std.proofs.Common.{◌≡◌, List, refl, rules}
use mathlib.Core.Former.{Count}
use Rattle.ledger_terms.specs.declared.expr.Expr.{Expr, Row_of-Expr, end_of-Expr, more_of-Expr, items-the_row-Expr}
use Rattle.ledger_terms.specs.declared.expr.Expr.TheViews.{the_lemmas}
use Rattle.ledger_terms.specs.declared.expr.Expr.TheVariants.{SetOf as SetOfExpr}
use Rattle.ledger_terms.specs.Syntax.{SetOf, MoreExprs}
use Rattle.ledger_terms.specs.ExprForms.{expr_form, row_form, exprs_of, list_form}

pub row_form_is : (n : Count) (k : Row_of-Expr n) → row_form k ≡ exprs_of (items-the_row-Expr n k)
row_form_is _ end_of-Expr = refl
row_form_is _ (more_of-Expr e rest) = λ i. MoreExprs (expr_form e) (row_form_is _ rest i)

pub form_SetOf : (l : List Expr) → expr_form (SetOfExpr l) ≡ SetOf (list_form l)
form_SetOf l = search (rules, the_lemmas, row_form_is)
