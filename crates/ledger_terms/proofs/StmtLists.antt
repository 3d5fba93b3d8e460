-- Lists of statements as their forms.
use Rattle.std.proofs.Common.{◌≡◌, suc, List, [], ◌∷◌, ◌++◌, length, refl, ap}
use Rattle.ledger_terms.specs.Syntax.{MoreStmts}
use Rattle.ledger_terms.specs.SyntaxLists.{stmts_count, stmts_join}
use Rattle.ledger_terms.specs.StmtForms.{stmt_form, stmts_of}
use Rattle.ledger_terms.specs.declared.stmt.Stmt.{Stmt}

pub stmts_count-stmts_of : (es : List Stmt) → stmts_count (stmts_of es) ≡ length es
stmts_count-stmts_of [] = refl
stmts_count-stmts_of (e ∷ es) = ap suc (stmts_count-stmts_of es)

pub stmts_of-append : (es fs : List Stmt) → stmts_of (es ++ fs) ≡ stmts_join (stmts_of es) (stmts_of fs)
stmts_of-append [] fs = refl
stmts_of-append (e ∷ es) fs = ap (λ r. MoreStmts (stmt_form e) r) (stmts_of-append es fs)

pub ruleset list_forms = (stmts_count-stmts_of, stmts_of-append)
