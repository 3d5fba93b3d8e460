-- How many parts an expression has, by which walks over expressions end.
use Rattle.std.proofs.Common.{◌≡◌, ℕ, zero, suc, ◌+◌, ◌<◌, List, [], ◌∷◌, length, get_or, refl, ap, arith}
use Rattle.ledger_terms.specs.Syntax.{ExprForm, ExprForms, Literal, Var, Add, Sub, Mul, Less, LessEq, Equal, Both, Either, Negate, Cond}
use Rattle.ledger_terms.specs.Syntax.{Cat, SetOf, Union, Has, NoExprs, MoreExprs}
use Rattle.ledger_terms.specs.ExprForms.{expr_form, exprs_of}
use Rattle.ledger_terms.specs.declared.expr.Expr.{Expr}
use Rattle.lang_eval.specs.declared.operator.Operator.{Operator}
use Rattle.lang_eval.specs.declared.operator.Operator.TheVariants as op
use Rattle.lang_eval.specs.ExprParts.{operation_form}
use Rattle.lang_eval.specs.Names.{Names}
use Rattle.lang_eval.specs.Operation.{operation}
use Rattle.lang_eval.specs.Value.{val, with_value}

abbrev mutual
  pub expr_size : ExprForm → ℕ
  expr_size (Literal v) = 1
  expr_size (Var x) = 1
  expr_size (Add a b) = expr_size a + expr_size b + 1
  expr_size (Sub a b) = expr_size a + expr_size b + 1
  expr_size (Mul a b) = expr_size a + expr_size b + 1
  expr_size (Less a b) = expr_size a + expr_size b + 1
  expr_size (LessEq a b) = expr_size a + expr_size b + 1
  expr_size (Equal a b) = expr_size a + expr_size b + 1
  expr_size (Both a b) = expr_size a + expr_size b + 1
  expr_size (Either a b) = expr_size a + expr_size b + 1
  expr_size (Negate a) = expr_size a + 1
  expr_size (Cond c a b) = expr_size c + expr_size a + expr_size b + 1
  expr_size (Cat a b) = expr_size a + expr_size b + 1
  expr_size (SetOf es) = exprs_size es + 1
  expr_size (Union a b) = expr_size a + expr_size b + 1
  expr_size (Has a b) = expr_size a + expr_size b + 1

  pub exprs_size : ExprForms → ℕ
  exprs_size NoExprs = 0
  exprs_size (MoreExprs e es) = expr_size e + exprs_size es + 1

-- Each item of a list of expressions is smaller than the list.
pub item_size : (es : List Expr) (i : ℕ) (e : Expr) → i < length es → e ≡ get_or es i e → expr_size (expr_form e) < exprs_size (exprs_of es)
item_size [] i e within at = let no : ⊥ = omega arith in absurd no
item_size (x ∷ es) zero e within at =
    let same : expr_size (expr_form e) ≡ expr_size (expr_form x) = ap (λ (e : Expr). expr_size (expr_form e)) at in
    omega (arith, same)
item_size (x ∷ es) (suc i) e within at = let later = item_size es i e (omega arith) at in omega (arith, later)

-- what an operator gives of its operands
pub operation_val : (o : Operator) (a b : ExprForm) (names : Names)
    → val (operation_form o a b) names ≡ with_value (val a names) (λ x. with_value (val b names) (λ y. operation o x y))
operation_val op.Add a b names = refl
operation_val op.Subtract a b names = refl
operation_val op.Multiply a b names = refl
operation_val op.Less a b names = refl
operation_val op.LessEq a b names = refl
operation_val op.Equal a b names = refl
operation_val op.Cat a b names = refl
operation_val op.Union a b names = refl
operation_val op.Has a b names = refl
