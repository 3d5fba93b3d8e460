-- The plain data of an expression.
use Rattle.std.specs.Prelude.{List, [], ◌∷◌}
use Rattle.ledger_terms.specs.Syntax.{ExprForm, ExprForms, Literal, Var, Add, Sub, Mul, Less, LessEq, Equal, Both, Either, Negate, Cond}
use Rattle.ledger_terms.specs.Syntax.{Cat, SetOf, Union, Has, NoExprs, MoreExprs}
use Rattle.ledger_terms.specs.declared.expr.Expr.{Expr, Row_of-Expr, end_of-Expr, more_of-Expr}
use Rattle.ledger_terms.specs.declared.expr.Expr.TheVariants.{Literal as LiteralExpr, Var as VarExpr, Add', Sub', Mul', Less', LessEq'}
use Rattle.ledger_terms.specs.declared.expr.Expr.TheVariants.{Equal', Both', Either', Negate', Cond', Cat', SetOf', Union', Has'}

abbrev mutual
  -- an expression of the code as plain data; the arguments p, q and r of an arm say where in memory the operands lie
  pub expr_form : Expr → ExprForm
  expr_form (LiteralExpr v) = Literal v
  expr_form (VarExpr x) = Var x
  expr_form (Add' p a q b) = Add (expr_form a) (expr_form b)
  expr_form (Sub' p a q b) = Sub (expr_form a) (expr_form b)
  expr_form (Mul' p a q b) = Mul (expr_form a) (expr_form b)
  expr_form (Less' p a q b) = Less (expr_form a) (expr_form b)
  expr_form (LessEq' p a q b) = LessEq (expr_form a) (expr_form b)
  expr_form (Equal' p a q b) = Equal (expr_form a) (expr_form b)
  expr_form (Both' p a q b) = Both (expr_form a) (expr_form b)
  expr_form (Either' p a q b) = Either (expr_form a) (expr_form b)
  expr_form (Negate' p a) = Negate (expr_form a)
  expr_form (Cond' p c q a r b) = Cond (expr_form c) (expr_form a) (expr_form b)
  expr_form (Cat' p a q b) = Cat (expr_form a) (expr_form b)
  expr_form (SetOf' shape parties) = SetOf (row_form parties)
  expr_form (Union' p a q b) = Union (expr_form a) (expr_form b)
  expr_form (Has' p a q b) = Has (expr_form a) (expr_form b)

  -- the n expressions of a set of parties, as the code holds them, as plain data in their order
  pub row_form : {n : _} → Row_of-Expr n → ExprForms
  row_form end_of-Expr = NoExprs
  row_form (more_of-Expr e rest) = MoreExprs (expr_form e) (row_form rest)

-- a list of expressions of the code as plain data, in its order
abbrev pub exprs_of : List Expr → ExprForms
exprs_of [] = NoExprs
exprs_of (e ∷ es) = MoreExprs (expr_form e) (exprs_of es)

-- what contracts see of the code's `ExprList`: its expressions as plain data, in order; it is `exprs_of`
abbrev pub list_form : List Expr → ExprForms
list_form = exprs_of
