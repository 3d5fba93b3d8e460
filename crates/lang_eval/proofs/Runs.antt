-- How a `when` ends, and names without values.
use Rattle.std.proofs.Common.{◌≡◌, ℕ, Bool, true, false, cond, List, [], ◌∷◌, length, take, Result, Ok, Err, refl, sym, ap, ◌∙◌}
use Rattle.ledger_terms.specs.declared.expr.Expr.{Expr}
use Rattle.ledger_terms.specs.declared.stmt.Stmt.{Stmt}
use Rattle.ledger_terms.specs.declared.stmt.Stmt.TheVariants.{When as WhenStmt}
use Rattle.ledger_terms.specs.declared.field_decl.FieldDecl.{FieldDecl}
use Rattle.ledger_terms.specs.ExprForms.{expr_form}
use Rattle.ledger_terms.specs.StmtForms.{stmt_form, stmt_list_form}
use Rattle.ledger_terms.proofs.StmtRows.{form_When}
use Rattle.ledger_model.specs.declared.step.ChildResult.{ChildResult}
use Rattle.lang_eval.specs.declared.eval_fault.EvalFault.{EvalFault}
use Rattle.lang_eval.specs.declared.run.Run.{Run}
use Rattle.lang_eval.specs.declared.run.Run.TheVariants.{Stopped as StoppedAt, Went as WentTo}
use Rattle.lang_eval.specs.RunAnswers.{shown}
use Rattle.lang_eval.specs.Names.{Names, with_fields}
use Rattle.lang_eval.specs.Value.{truth}
use Rattle.lang_eval.specs.Found.{Packages}
use Rattle.lang_eval.specs.Next.{Ran, ran, ran_all, on_value, closed}

pub with_no_values : (first : List ℕ) (ds : List FieldDecl) (names : Names) → with_fields first ds [] names ≡ names
with_no_values first [] names = refl
with_no_values first (d ∷ ds) names = refl

when_is : (s : Stmt) (e : Expr) (first second : List Stmt) (p : Packages) (names : Names) (seen : List ChildResult) (b c : Bool) → s ≡ WhenStmt e first second
    → Ok b ≡ truth (expr_form e) names → b ≡ c → ran (stmt_form s) p names seen ≡ closed names
    (cond c (ran_all (stmt_list_form first) p names seen) (ran_all (stmt_list_form second) p names seen))
when_is s e first second p names seen b c is h same =
    ap (λ (s : Stmt). ran (stmt_form s) p names seen) is ∙ (ap (λ f. ran f p names seen) (form_When e first second)
    ∙ ap (λ (r : Result Bool EvalFault). on_value r (λ b. closed names
    (cond b (ran_all (stmt_list_form first) p names seen) (ran_all (stmt_list_form second) p names seen)))) (sym h ∙ ap (λ (b : Bool). Ok b) same))

-- A true test runs the first side, and another the second.
pub when_yes : (r : Ran) (s : Stmt) (e : Expr) (first second : List Stmt) (p : Packages) (names : Names) (seen : List ChildResult) (b : Bool)
    → r ≡ closed names (ran_all (stmt_list_form first) p names seen) → s ≡ WhenStmt e first second → b ≡ true → Ok b ≡ truth (expr_form e) names
    → r ≡ ran (stmt_form s) p names seen
when_yes r s e first second p names seen b done is same h = done ∙ sym (when_is s e first second p names seen b true is h same)

pub when_no : (r : Ran) (s : Stmt) (e : Expr) (first second : List Stmt) (p : Packages) (names : Names) (seen : List ChildResult) (b : Bool)
    → r ≡ closed names (ran_all (stmt_list_form second) p names seen) → s ≡ WhenStmt e first second → b ≡ false → Ok b ≡ truth (expr_form e) names
    → r ≡ ran (stmt_form s) p names seen
when_no r s e first second p names seen b done is same h = done ∙ sym (when_is s e first second p names seen b false is h same)

shown_closed : (r : Result Run EvalFault) (names more : Names) → shown r (take (length names) more) ≡ closed names (shown r more)
shown_closed (Ok (StoppedAt step)) names more = refl
shown_closed (Ok (WentTo seen)) names more = refl
shown_closed (Err e) names more = refl

-- The names that a side bound end with it, however it ends.
pub side_closed : (r : Result Run EvalFault) (whole : Ran) (names more cut : Names) (kept : ℕ) → kept ≡ length names → cut ≡ take kept more
    → shown r more ≡ whole → shown r cut ≡ closed names whole
side_closed r whole names more cut kept many is h =
    ap (λ (l : Names). shown r l) (is ∙ ap (λ (n : ℕ). take n more) many) ∙ (shown_closed r names more ∙ ap (closed names) h)
