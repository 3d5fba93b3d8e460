-- The walk of a `when`, step by step.
use Rattle.std.proofs.Common.{◌≡◌, List, Result, Ok, refl, sym, ◌∙◌, ap, subst}
use Rattle.std.specs.Prelude.{codes}
use Rattle.ledger_terms.specs.Pointers.{at_member}
use Rattle.ledger_terms.specs.declared.kind.Kind.TheVariants.{Bool as BoolKind}
use Rattle.ledger_terms.specs.declared.expr.Expr.{Expr}
use Rattle.ledger_terms.specs.declared.stmt.Stmt.{Stmt}
use Rattle.ledger_terms.specs.declared.stmt.Stmt.TheVariants.{When as WhenStmt}
use Rattle.ledger_terms.specs.ExprForms.{expr_form}
use Rattle.ledger_terms.specs.StmtForms.{stmt_form, stmt_list_form}
use Rattle.ledger_terms.proofs.StmtRows.{form_When}
use Rattle.lang_eval.specs.Found.{Packages}
use Rattle.lang_eval.specs.Typed.{Scope}
use Rattle.lang_check.specs.declared.check_fault.CheckFault.{CheckFault}
use Rattle.lang_check.specs.declared.stop.Stop.{Stop}
use Rattle.lang_check.specs.declared.stop.Stop.TheVariants.{Fault, Memory}
use Rattle.lang_check.specs.Faults.{Place, ◌>>=◌, StopsAt}
use Rattle.lang_check.specs.Walk.{expr_at}
use Rattle.lang_check.specs.Statements.{stmt_at, stmts_from}

-- where a step stops, the whole does
stops : {A B : Type 0} (stop : Stop) (r : Result A CheckFault) (f : A → Result B CheckFault) → StopsAt stop r → StopsAt stop (r >>= f)
stops (Fault g) r f h = rw h refl
stops Memory r f h = tt

goes_on : {A B : Type 0} (r : Result A CheckFault) (v : A) (f : A → Result B CheckFault) → r ≡ Ok v → (r >>= f) ≡ f v
goes_on r v f h = rw h refl

module _ (at : Place) (p : Packages) (scope : Scope) (s : Stmt) (e : Expr) (first second : List Stmt)
    (w i t o : Place) (is : s ≡ WhenStmt e first second) (when : w ≡ at_member at (codes "when")) where
  abbrev found : Result Scope CheckFault
  found =
      expr_at (at_member w (codes "if")) scope BoolKind (expr_form e) >>= λ _.
      stmts_from (at_member w (codes "then")) 0 p (stmt_list_form first) scope >>= λ _.
      stmts_from (at_member w (codes "else")) 0 p (stmt_list_form second) scope >>= λ _. Ok scope

  whole : stmt_at at p (stmt_form s) scope ≡ found
  whole =
      ap (λ (s : Stmt). stmt_at at p (stmt_form s) scope) is ∙ (ap (λ f. stmt_at at p f scope) (form_When e first second)
      ∙ ap (λ (w : Place).
      expr_at (at_member w (codes "if")) scope BoolKind (expr_form e) >>= λ _.
      stmts_from (at_member w (codes "then")) 0 p (stmt_list_form first) scope >>= λ _.
      stmts_from (at_member w (codes "else")) 0 p (stmt_list_form second) scope >>= λ _. Ok scope) (sym when))

  module _ (test : i ≡ at_member w (codes "if")) (then : t ≡ at_member w (codes "then")) (true : expr_at i scope BoolKind (expr_form e) ≡ Ok tt) where
    tested : found ≡ (stmts_from t 0 p (stmt_list_form first) scope >>= λ _. stmts_from (at_member w (codes "else")) 0 p (stmt_list_form second) scope >>=
        λ _. Ok scope)
    tested = rw (← test, ← then, true) refl

    pub when_stops_first : (stop : Stop) → StopsAt stop (stmts_from t 0 p (stmt_list_form first) scope) → StopsAt stop (stmt_at at p (stmt_form s) scope)
    when_stops_first stop h = subst (StopsAt stop) (sym (whole ∙ tested)) (stops stop _ _ h)

    module _ (inside : Scope) (ran : stmts_from t 0 p (stmt_list_form first) scope ≡ Ok inside) (other : o ≡ at_member w (codes "else")) where
      sided : found ≡ (stmts_from o 0 p (stmt_list_form second) scope >>= λ _. Ok scope)
      sided = tested ∙ rw (ran, ← other) refl

      pub when_stops_second : (stop : Stop) → StopsAt stop (stmts_from o 0 p (stmt_list_form second) scope) → StopsAt stop (stmt_at at p (stmt_form s) scope)
      when_stops_second stop h = subst (StopsAt stop) (sym (whole ∙ sided)) (stops stop _ _ h)

      pub when_ends : (last : Scope) → stmts_from o 0 p (stmt_list_form second) scope ≡ Ok last → stmt_at at p (stmt_form s) scope ≡ Ok scope
      when_ends last h = whole ∙ (sided ∙ rw h refl)
