-- A list of expressions that is taken over one by one.
use Rattle.std.proofs.Common.{◌≡◌, ℕ, ◌+◌, ◌<◌, ◌≤◌, List, [], ◌∷◌, ◌++◌, length, get_or, drop, refl, sym, ◌∙◌, ap}
use Rattle.std.proofs.lemmas.List.{drop_more}
use Rattle.std.proofs.Math.ListN.{drop_of_length-le}
use Rattle.ledger_terms.specs.Syntax.{ExprForms, NoExprs, MoreExprs}
use Rattle.ledger_terms.specs.SyntaxLists.{exprs_join, one_expr}
use Rattle.ledger_terms.specs.ExprForms.{expr_form, exprs_of}
use Rattle.ledger_terms.proofs.ExprLists.{exprs_of-append}
use Rattle.ledger_terms.specs.declared.expr.Expr.{Expr}

exprs_join-assoc : (a b c : ExprForms) → exprs_join (exprs_join a b) c ≡ exprs_join a (exprs_join b c)
exprs_join-assoc NoExprs b c = refl
exprs_join-assoc (MoreExprs e es) b c = ap (λ r. MoreExprs e r) (exprs_join-assoc es b c)

exprs_join-none : (a : ExprForms) → exprs_join a NoExprs ≡ a
exprs_join-none NoExprs = refl
exprs_join-none (MoreExprs e es) = ap (λ r. MoreExprs e r) (exprs_join-none es)

-- A loop that takes over a list puts the next one at the end.
pub taken_step : (all : ExprForms) (copy new es : List Expr) (i : ℕ) (e f : Expr) → i < length es → e ≡ get_or es i e → new ≡ copy ++ f ∷ [] → expr_form f ≡ expr_form e
    → exprs_join (exprs_of copy) (exprs_of (drop i es)) ≡ all → exprs_join (exprs_of new) (exprs_of (drop (i + 1) es)) ≡ all
taken_step all copy new es i e f within at grown same before =
    let next : exprs_of (drop i es) ≡ MoreExprs (expr_form f) (exprs_of (drop (i + 1) es)) = rw (drop_more es i e within, ← at, same) refl in
    let whole : exprs_of new ≡ exprs_join (exprs_of copy) (one_expr (expr_form f)) = ap (λ (l : List Expr). exprs_of l) grown ∙ exprs_of-append copy (f ∷ []) in
    rw (whole, exprs_join-assoc, ← next) before

-- At its end nothing is left.
pub taken_end : (all copy : ExprForms) (es : List Expr) (i : ℕ) → length es ≤ i → exprs_join copy (exprs_of (drop i es)) ≡ all → copy ≡ all
taken_end all copy es i past before = sym (exprs_join-none copy) ∙ (rw (drop_of_length-le es past) at before)
