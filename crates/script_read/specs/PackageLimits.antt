-- The limits that packages keep, and whom they name.
use Rattle.std.specs.Prelude.{◌≡◌, ℕ, suc, ◌+◌, max, ◌≤◌, List, [], ◌∷◌, ◌++◌, length, sum_by, All}
use Rattle.ledger_terms.specs.Packages.{PackageForm, TemplateForm, ChoiceForm}
use Rattle.ledger_terms.specs.Syntax.{ExprForm, ExprForms, Literal, Var, Add, Sub, Mul, Less, LessEq, Equal}
use Rattle.ledger_terms.specs.Syntax.{Both, Either, Negate, Cond, Cat, SetOf, Union, Has, NoExprs, MoreExprs}
use Rattle.ledger_terms.specs.Syntax.{StmtForm, StmtForms, Bind, Assert, Create, Exercise, Fetch, When, NoStmts, MoreStmts}
use Rattle.ledger_terms.specs.declared.host.Host.{Host}
use Rattle.ledger_terms.specs.declared.limits.TheConstants.{MOST_PACKAGES, MOST_TEMPLATES, MOST_FIELDS, MOST_PARAMETERS}
use Rattle.ledger_terms.specs.declared.limits.TheConstants.{MOST_CHOICES, MOST_EXPRESSION_DEPTH, MOST_STATEMENTS}
use Rattle.ledger_terms.specs.declared.value.Value.{Value}
use Rattle.lang_eval.specs.Builtin.{checked_packages}
use Rattle.lang_eval.specs.Found.{Packages}
use Rattle.lang_eval.specs.Named.{AreKnown, parties_in_packages}
use Rattle.lang_read.specs.Parties.{is_hosted}
use Rattle.script_read.specs.Accepted.{IsShort}

-- ---- expressions

abbrev mutual
  -- how deep an expression is: 1 for a value, a bound name or the empty set, and else one more than its deepest operand
  pub expr_depth : ExprForm → ℕ
  expr_depth (Literal v) = 1
  expr_depth (Var x) = 1
  expr_depth (Add a b) = suc (max (expr_depth a) (expr_depth b))
  expr_depth (Sub a b) = suc (max (expr_depth a) (expr_depth b))
  expr_depth (Mul a b) = suc (max (expr_depth a) (expr_depth b))
  expr_depth (Less a b) = suc (max (expr_depth a) (expr_depth b))
  expr_depth (LessEq a b) = suc (max (expr_depth a) (expr_depth b))
  expr_depth (Equal a b) = suc (max (expr_depth a) (expr_depth b))
  expr_depth (Both a b) = suc (max (expr_depth a) (expr_depth b))
  expr_depth (Either a b) = suc (max (expr_depth a) (expr_depth b))
  expr_depth (Negate a) = suc (expr_depth a)
  expr_depth (Cond c a b) = suc (max (expr_depth c) (max (expr_depth a) (expr_depth b)))
  expr_depth (Cat a b) = suc (max (expr_depth a) (expr_depth b))
  expr_depth (SetOf es) = suc (exprs_depth es)
  expr_depth (Union a b) = suc (max (expr_depth a) (expr_depth b))
  expr_depth (Has a b) = suc (max (expr_depth a) (expr_depth b))

  -- the depth of the deepest of some expressions, 0 for none
  pub exprs_depth : ExprForms → ℕ
  exprs_depth NoExprs = 0
  exprs_depth (MoreExprs e es) = max (expr_depth e) (exprs_depth es)

abbrev mutual
  -- the values that stand in an expression, in order, of which `IsSmallExpr` tries the texts
  pub literals_in : ExprForm → List Value
  literals_in (Literal v) = v ∷ []
  literals_in (Var x) = []
  literals_in (Add a b) = literals_in a ++ literals_in b
  literals_in (Sub a b) = literals_in a ++ literals_in b
  literals_in (Mul a b) = literals_in a ++ literals_in b
  literals_in (Less a b) = literals_in a ++ literals_in b
  literals_in (LessEq a b) = literals_in a ++ literals_in b
  literals_in (Equal a b) = literals_in a ++ literals_in b
  literals_in (Both a b) = literals_in a ++ literals_in b
  literals_in (Either a b) = literals_in a ++ literals_in b
  literals_in (Negate a) = literals_in a
  literals_in (Cond c a b) = literals_in c ++ (literals_in a ++ literals_in b)
  literals_in (Cat a b) = literals_in a ++ literals_in b
  literals_in (SetOf es) = literals_among es
  literals_in (Union a b) = literals_in a ++ literals_in b
  literals_in (Has a b) = literals_in a ++ literals_in b

  -- the values that stand in some expressions, in order
  pub literals_among : ExprForms → List Value
  literals_among NoExprs = []
  literals_among (MoreExprs e es) = literals_in e ++ literals_among es

-- the expression keeps the limit on depth, and each text in it the limit on its bytes
pub record IsSmallExpr (e : ExprForm) : Type 0 where
  pub shallow : expr_depth e ≤ MOST_EXPRESSION_DEPTH
  pub short : All IsShort (literals_in e)

-- ---- statements

abbrev mutual
  -- how many statements a statement is, with those inside a `when`
  pub stmt_size : StmtForm → ℕ
  stmt_size (When e first second) = suc (stmts_size first + stmts_size second)
  stmt_size (Bind x e) = 1
  stmt_size (Assert e) = 1
  stmt_size (Create x t fields) = 1
  stmt_size (Exercise x t e choice args) = 1
  stmt_size (Fetch x t e) = 1

  -- how many statements there are in a list of them, with those inside a `when`
  pub stmts_size : StmtForms → ℕ
  stmts_size NoStmts = 0
  stmts_size (MoreStmts s ss) = stmt_size s + stmts_size ss

-- expressions as a list of the kit, in their order
abbrev pub listed : ExprForms → List ExprForm
listed NoExprs = []
listed (MoreExprs e es) = e ∷ listed es

abbrev mutual
  -- the whole expressions that stand in a statement, with those inside a `when`, but not their operands
  pub exprs_in_stmt : StmtForm → List ExprForm
  exprs_in_stmt (Bind x e) = e ∷ []
  exprs_in_stmt (Assert e) = e ∷ []
  exprs_in_stmt (Create x t fields) = listed fields
  exprs_in_stmt (Exercise x t e choice args) = e ∷ listed args
  exprs_in_stmt (Fetch x t e) = e ∷ []
  exprs_in_stmt (When e first second) = e ∷ (exprs_in_stmts first ++ exprs_in_stmts second)

  -- the whole expressions that stand in some statements, with those inside a `when`
  pub exprs_in_stmts : StmtForms → List ExprForm
  exprs_in_stmts NoStmts = []
  exprs_in_stmts (MoreStmts s ss) = exprs_in_stmt s ++ exprs_in_stmts ss

-- ---- packages

-- the whole expressions that stand in a choice: controllers, observers, result, and those of its body
abbrev pub exprs_in_choice : ChoiceForm → List ExprForm
exprs_in_choice c = c.controllers ∷ (c.observers ∷ (c.result ∷ exprs_in_stmts c.body))

-- the choice keeps the limits on its parameters, its statements and its expressions
pub record IsSmallChoice (c : ChoiceForm) : Type 0 where
  pub params : length c.params ≤ MOST_PARAMETERS
  pub body : stmts_size c.body ≤ MOST_STATEMENTS
  pub exprs : All IsSmallExpr (exprs_in_choice c)

-- the whole expressions that stand in a template, but not in its choices: `ensure`, signatories and observers
abbrev pub exprs_in_template : TemplateForm → List ExprForm
exprs_in_template t = t.ensure ∷ (t.signatories ∷ (t.observers ∷ []))

-- the template keeps the limits on its fields, its choices and its expressions, and each of its choices keeps its own
pub record IsSmallTemplate (t : TemplateForm) : Type 0 where
  pub fields : length t.fields ≤ MOST_FIELDS
  pub few_choices : length t.choices ≤ MOST_CHOICES
  pub choices : All IsSmallChoice t.choices
  pub exprs : All IsSmallExpr (exprs_in_template t)

-- there are at most 8 packages with at most 64 templates in all, each as `IsSmallTemplate` has it
pub record AreSmall (packages : Packages) : Type 0 where
  pub few : length packages ≤ MOST_PACKAGES
  pub few_templates : sum_by (λ (p : PackageForm). length p.templates) packages ≤ MOST_TEMPLATES
  pub templates : All (λ (p : PackageForm). All IsSmallTemplate p.templates) packages

-- The packages are what is built in, Note and the choice Archive of each template, with packages `given` that keep the limits, and they name only
-- parties for which one of `hosts` confirms. The packages of every script that is read without a fault are so. That they are well typed isn't said here
-- but by `AreChecked`.
pub record AreAccepted (hosts : List Host) (packages : Packages) : Type 0 where
  pub given : Packages
  pub built_in : packages ≡ checked_packages given
  pub small : AreSmall given
  pub hosted : AreKnown (is_hosted hosts) (parties_in_packages packages)
