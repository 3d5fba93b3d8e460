-- What tests as the same is the same.
use Rattle.std.proofs.Common.{◌≡◌, true, List, refl, sym, ap, ◌∙◌}
use Rattle.std.specs.Cmp.Lexicographic.{pointwise}
use Rattle.ledger_terms.specs.declared.field_decl.FieldDecl.{FieldDecl}
use Rattle.ledger_terms.specs.declared.kind.Kind.{Kind}
use Rattle.ledger_terms.specs.declared.value.Value.{Value}
use Rattle.ledger_terms.specs.declared.expr.Expr.{Expr}
use Rattle.ledger_terms.specs.declared.stmt.Stmt.{Stmt}
use Rattle.ledger_terms.specs.declared.stmt.Stmt.TheVariants.{When as WhenStmt}
use Rattle.ledger_terms.specs.Syntax.{When}
use Rattle.ledger_terms.specs.ExprForms.{expr_form}
use Rattle.ledger_terms.specs.StmtForms.{stmt_form, stmt_list_form}
use Rattle.ledger_terms.specs.contracts.field_decl.FieldDeclPartialEq.TheImpl as decl_eq
use Rattle.ledger_terms.specs.contracts.kind.KindPartialEq.TheImpl as kind_eq
use Rattle.ledger_terms.specs.contracts.value.ValuePartialEq.TheImpl as value_eq
use Rattle.ledger_terms.proofs.Deciding.{both, both_true, decided, bytes_decide, lists_decide}
use Rattle.ledger_terms.proofs.SameValues.{kind_decides, value_decides}
use Rattle.ledger_terms.proofs.StmtRows.{form_When}

pub values_same : (a b : Value) → value_eq.ghosts.eq a b ≡ true → a ≡ b
values_same a b h = (value_decides a b).0 h

pub kinds_same : (a b : Kind) → kind_eq.ghosts.eq a b ≡ true → a ≡ b
kinds_same a b h = (kind_decides a b).0 h

decl_same : (a b : FieldDecl) → decl_eq.ghosts.eq a b ≡ true → a ≡ b
decl_same a b h =
    let p = both _ _ h in
    let e = (bytes_decide a.name b.name).0 p.0 in
    let f = kinds_same a.kind b.kind p.1 in
    λ i. record { name = e i; kind = f i }

decl_refl : (a : FieldDecl) → decl_eq.ghosts.eq a a ≡ true
decl_refl a = both_true _ _ ((bytes_decide a.name a.name).1 refl) ((kind_decides a.kind a.kind).1 refl)

pub decls_same : (a b : List FieldDecl) → pointwise decl_eq.ghosts.eq a b ≡ true → a ≡ b
decls_same a b h = (lists_decide (decided decl_eq.ghosts.eq decl_refl decl_same) a b).0 h

-- a When with its test and its two sides
pub when_same : (a b : Stmt) (e f : Expr) (first second third fourth : List Stmt) → a ≡ WhenStmt e first second → b ≡ WhenStmt f third fourth
    → expr_form e ≡ expr_form f → stmt_list_form first ≡ stmt_list_form third → stmt_list_form second ≡ stmt_list_form fourth → stmt_form a ≡ stmt_form b
when_same a b e f first second third fourth is is' test along beside =
    let one : stmt_form a ≡ When (expr_form e) (stmt_list_form first) (stmt_list_form second) = ap stmt_form is ∙ form_When e first second in
    let other : stmt_form b ≡ When (expr_form f) (stmt_list_form third) (stmt_list_form fourth) = ap stmt_form is' ∙ form_When f third fourth in
    one ∙ ((λ k. When (test k) (along k) (beside k)) ∙ sym other)
