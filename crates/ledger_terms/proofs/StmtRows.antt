-- The form of a When, at the rows by which it holds its two sides.
use Rattle.std.proofs.Common.{◌≡◌, List, refl, rules}
use mathlib.Core.Former.{Count}
use Rattle.ledger_terms.specs.declared.expr.Expr.{Expr}
use Rattle.ledger_terms.specs.declared.stmt.Stmt.{Stmt, Row_of-Stmt, end_of-Stmt, more_of-Stmt, items-the_row-Stmt}
use Rattle.ledger_terms.specs.declared.stmt.Stmt.TheViews.{the_lemmas}
use Rattle.ledger_terms.specs.declared.stmt.Stmt.TheVariants.{When as WhenStmt}
use Rattle.ledger_terms.specs.Syntax.{When, MoreStmts}
use Rattle.ledger_terms.specs.ExprForms.{expr_form}
use Rattle.ledger_terms.specs.StmtForms.{stmt_form, stmt_row_form, stmts_of, stmt_list_form}

pub stmt_row_is : (n : Count) (k : Row_of-Stmt n) → stmt_row_form k ≡ stmts_of (items-the_row-Stmt n k)
stmt_row_is _ end_of-Stmt = refl
stmt_row_is _ (more_of-Stmt s rest) = λ i. MoreStmts (stmt_form s) (stmt_row_is _ rest i)

pub form_When : (e : Expr) (first second : List Stmt) → stmt_form (WhenStmt e first second) ≡ When (expr_form e) (stmt_list_form first) (stmt_list_form second)
form_When e first second = search (rules, the_lemmas, stmt_row_is)
