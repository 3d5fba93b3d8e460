-- The plain data of a statement.
use Rattle.std.specs.Prelude.{List, [], ◌∷◌}
use Rattle.ledger_terms.specs.Syntax.{StmtForm, StmtForms, Bind, Assert, Create, Exercise, Fetch, When, NoStmts, MoreStmts}
use Rattle.ledger_terms.specs.ExprForms.{expr_form, list_form}
use Rattle.ledger_terms.specs.declared.stmt.Stmt.{Stmt, Row_of-Stmt, end_of-Stmt, more_of-Stmt}
use Rattle.ledger_terms.specs.declared.stmt.Stmt.TheVariants.{Bind as BindStmt, Assert as AssertStmt, Create as CreateStmt}
use Rattle.ledger_terms.specs.declared.stmt.Stmt.TheVariants.{Exercise as ExerciseStmt, Fetch as FetchStmt, When'}

abbrev mutual
  -- a statement of the code as plain data
  pub stmt_form : Stmt → StmtForm
  stmt_form (BindStmt x e) = Bind x (expr_form e)
  stmt_form (AssertStmt e) = Assert (expr_form e)
  stmt_form (CreateStmt x t fields) = Create x t (list_form fields)
  stmt_form (ExerciseStmt x t e choice args) = Exercise x t (expr_form e) choice (list_form args)
  stmt_form (FetchStmt x t e) = Fetch x t (expr_form e)
  stmt_form (When' e shape first shape' second) = When (expr_form e) (stmt_row_form first) (stmt_row_form second)

  -- the n statements of a branch of a When, as the code holds them, as plain data in their order
  pub stmt_row_form : {n : _} → Row_of-Stmt n → StmtForms
  stmt_row_form end_of-Stmt = NoStmts
  stmt_row_form (more_of-Stmt s rest) = MoreStmts (stmt_form s) (stmt_row_form rest)

-- a list of statements of the code as plain data, in its order
abbrev pub stmts_of : List Stmt → StmtForms
stmts_of [] = NoStmts
stmts_of (s ∷ ss) = MoreStmts (stmt_form s) (stmts_of ss)

-- what contracts see of the code's `StmtList`: its statements as plain data, in order; it is `stmts_of`
abbrev pub stmt_list_form : List Stmt → StmtForms
stmt_list_form = stmts_of
