-- Lists of expressions and of statements.
use Rattle.std.specs.Prelude.{ℕ, suc}
use Rattle.ledger_terms.specs.Syntax.{ExprForm, ExprForms, NoExprs, MoreExprs, StmtForm, StmtForms, NoStmts, MoreStmts}

-- how many expressions a list has; a rule of proofs alone has it, that plain data has as many as the code's list
abbrev pub exprs_count : ExprForms → ℕ
exprs_count NoExprs = 0
exprs_count (MoreExprs e es) = suc (exprs_count es)

-- two lists of expressions as one: those of the first argument and then those of the second
abbrev pub exprs_join : ExprForms → ExprForms → ExprForms
exprs_join NoExprs more = more
exprs_join (MoreExprs first others) more = MoreExprs first (exprs_join others more)

-- the list of one expression
abbrev pub one_expr : ExprForm → ExprForms
one_expr e = MoreExprs e NoExprs

-- how many statements a list has, those inside a When not counted; a rule of proofs alone has it, that plain data has as many as the code's list
abbrev pub stmts_count : StmtForms → ℕ
stmts_count NoStmts = 0
stmts_count (MoreStmts s ss) = suc (stmts_count ss)

-- two lists of statements as one: those of the first argument and then those of the second
abbrev pub stmts_join : StmtForms → StmtForms → StmtForms
stmts_join NoStmts more = more
stmts_join (MoreStmts first others) more = MoreStmts first (stmts_join others more)

-- the list of one statement
abbrev pub one_stmt : StmtForm → StmtForms
one_stmt s = MoreStmts s NoStmts
