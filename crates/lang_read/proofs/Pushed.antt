-- A loop that puts what it reads at the end of a list: one more item.
use Rattle.std.proofs.Common.{◌≡◌, ℕ, ◌+◌, ◌<◌, List, [], ◌∷◌, ◌++◌, Result, Ok, length, get_or, drop, refl, sym, ◌∙◌, ap}
use Rattle.std.proofs.lemmas.List.{drop_more}
use Rattle.serde_json.specs.Data.{Items, item}
use Rattle.serde_json.specs.View.{view, items_view}
use Rattle.serde_json.specs.declared.value.Value.{Value}
use Rattle.ledger_terms.specs.Pointers.{at_item}
use Rattle.ledger_terms.specs.Syntax.{ExprForm, ExprForms, StmtForm, StmtForms}
use Rattle.ledger_terms.specs.SyntaxLists.{exprs_join, one_expr, stmts_join, one_stmt}
use Rattle.ledger_terms.specs.ExprForms.{expr_form, exprs_of}
use Rattle.ledger_terms.specs.StmtForms.{stmt_form, stmts_of}
use Rattle.ledger_terms.specs.declared.expr.Expr.{Expr}
use Rattle.ledger_terms.specs.declared.stmt.Stmt.{Stmt}
use Rattle.ledger_terms.specs.declared.host.Host.{Host}
use Rattle.ledger_terms.specs.Answers.{◌>>=◌}
use Rattle.ledger_terms.proofs.ExprLists.{exprs_of-append}
use Rattle.ledger_terms.proofs.StmtLists.{stmts_of-append}
use Rattle.json_walk.specs.Walk.{Place}
use Rattle.json_walk.specs.declared.walk_fault.WalkFault.{WalkFault}
use Rattle.lang_read.specs.Exprs.{expr_of, operands_from}
use Rattle.lang_read.specs.Stmts.{stmt_of, stmts_from}

module _ (hosts : List Host) (at : Place) (vs : List Value) (i : ℕ) (v : Value) (within : i < length vs) (is : v ≡ get_or vs i v) where
  next : items_view (drop i vs) ≡ item (view v) (items_view (drop (i + 1) vs))
  next = rw (drop_more vs i v within, ← is) refl

  pub operand_pushed : (depth : ℕ) (es new : List Expr) (e : Expr) (all : Result ExprForms WalkFault)
      → expr_of hosts (at_item at i) (depth + 1) (view v) ≡ Ok (expr_form e) → new ≡ es ++ e ∷ []
      → operands_from hosts at depth i (exprs_of es) (items_view (drop i vs)) ≡ all
      → operands_from hosts at depth (i + 1) (exprs_of new) (items_view (drop (i + 1) vs)) ≡ all
  operand_pushed depth es new e all found grown before =
      let rest = items_view (drop (i + 1) vs) in
      let step : operands_from hosts at depth i (exprs_of es) (item (view v) rest) ≡ operands_from hosts at depth (i + 1) (exprs_join (exprs_of es) (one_expr (expr_form e))) rest =
      ap (λ (r : Result ExprForm WalkFault). r >>= (λ f. operands_from hosts at depth (i + 1) (exprs_join (exprs_of es) (one_expr f)) rest)) found in
      rw (grown, exprs_of-append es (e ∷ [])) (sym step ∙ (sym (ap (λ (w : Items). operands_from hosts at depth i (exprs_of es) w) next) ∙ before))

  pub stmt_pushed : (count after : ℕ) (ss new : List Stmt) (s : Stmt) (all : Result (StmtForms × ℕ) WalkFault)
      → stmt_of hosts (at_item at i) count (view v) ≡ Ok (stmt_form s, after) → new ≡ ss ++ s ∷ []
      → stmts_from hosts at i (stmts_of ss, count) (items_view (drop i vs)) ≡ all
      → stmts_from hosts at (i + 1) (stmts_of new, after) (items_view (drop (i + 1) vs)) ≡ all
  stmt_pushed count after ss new s all found grown before =
      let rest = items_view (drop (i + 1) vs) in
      let step : stmts_from hosts at i (stmts_of ss, count) (item (view v) rest) ≡ stmts_from hosts at (i + 1) (stmts_join (stmts_of ss) (one_stmt (stmt_form s)), after) rest =
      ap (λ (r : Result (StmtForm × ℕ) WalkFault). r >>= (λ p. stmts_from hosts at (i + 1) (stmts_join (stmts_of ss) (one_stmt p.0), p.1) rest)) found in
      rw (grown, stmts_of-append ss (s ∷ [])) (sym step ∙ (sym (ap (λ (w : Items). stmts_from hosts at i (stmts_of ss, count) w) next) ∙ before))
