-- Lists of expressions as their forms.
use Rattle.std.proofs.Common.{◌≡◌, suc, List, [], ◌∷◌, ◌++◌, length, refl, ap}
use Rattle.ledger_terms.specs.Syntax.{MoreExprs}
use Rattle.ledger_terms.specs.SyntaxLists.{exprs_count, exprs_join}
use Rattle.ledger_terms.specs.ExprForms.{expr_form, exprs_of}
use Rattle.ledger_terms.specs.declared.expr.Expr.{Expr}

pub exprs_count-exprs_of : (es : List Expr) → exprs_count (exprs_of es) ≡ length es
exprs_count-exprs_of [] = refl
exprs_count-exprs_of (e ∷ es) = ap suc (exprs_count-exprs_of es)

pub exprs_of-append : (es fs : List Expr) → exprs_of (es ++ fs) ≡ exprs_join (exprs_of es) (exprs_of fs)
exprs_of-append [] fs = refl
exprs_of-append (e ∷ es) fs = ap (λ r. MoreExprs (expr_form e) r) (exprs_of-append es fs)

pub ruleset list_forms = (exprs_count-exprs_of, exprs_of-append)
