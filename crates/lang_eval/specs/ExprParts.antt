-- The form of what an expression is made of: the code takes expressions apart so that all operators of two values are one case.
use Rattle.ledger_terms.specs.Syntax.{ExprForm, Literal, Var, Add, Sub, Mul, Less, LessEq, Equal, Both, Either, Negate, Cond, Cat, SetOf, Union, Has}
use Rattle.ledger_terms.specs.ExprForms.{expr_form, list_form}
use Rattle.lang_eval.specs.declared.operator.Operator.{Operator}
use Rattle.lang_eval.specs.declared.operator.Operator.TheVariants as op
use Rattle.lang_eval.specs.declared.expr_parts.ExprParts.{ExprParts}
use Rattle.lang_eval.specs.declared.expr_parts.ExprParts.TheVariants as parts

-- the expression that applies an operator to a first and a second operand
abbrev pub operation_form : Operator → ExprForm → ExprForm → ExprForm
operation_form op.Add a b = Add a b
operation_form op.Subtract a b = Sub a b
operation_form op.Multiply a b = Mul a b
operation_form op.Less a b = Less a b
operation_form op.LessEq a b = LessEq a b
operation_form op.Equal a b = Equal a b
operation_form op.Cat a b = Cat a b
operation_form op.Union a b = Union a b
operation_form op.Has a b = Has a b

-- the expression whose parts these are
abbrev pub parts_form : ExprParts → ExprForm
parts_form (parts.Literal v) = Literal v.now
parts_form (parts.Var x) = Var x.now
parts_form (parts.Operation o a b) = operation_form o (expr_form a.now.value) (expr_form b.now.value)
parts_form (parts.Both a b) = Both (expr_form a.now.value) (expr_form b.now.value)
parts_form (parts.Either a b) = Either (expr_form a.now.value) (expr_form b.now.value)
parts_form (parts.Negate a) = Negate (expr_form a.now.value)
parts_form (parts.Cond c a b) = Cond (expr_form c.now.value) (expr_form a.now.value) (expr_form b.now.value)
parts_form (parts.SetOf es) = SetOf (list_form es.now)
