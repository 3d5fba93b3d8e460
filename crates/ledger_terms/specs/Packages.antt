-- Choices, templates and packages as plain data.
use Rattle.std.specs.Prelude.{ℕ, Bool, List}
use Rattle.std.specs.Coded.{codes, Coded}
use Rattle.ledger_terms.specs.Syntax.{ExprForm, StmtForms}
use Rattle.ledger_terms.specs.SyntaxCodes.{coded_expr, coded_stmts}
use Rattle.ledger_terms.specs.declared.kind.Kind.{Kind}
use Rattle.ledger_terms.specs.declared.field_decl.FieldDecl.{FieldDecl}

-- A choice of a template as plain data: its name, whether it consumes the contract, its parameters, the expressions of its controllers and observers,
-- the kind of its result, its body, and the expression of the result.
pub record ChoiceForm : Type 0 where
  pub name : List ℕ
  pub consuming : Bool
  pub params : List FieldDecl
  pub controllers : ExprForm
  pub observers : ExprForm
  pub returns : Kind
  pub body : StmtForms
  pub result : ExprForm

-- A template as plain data: its name, its fields, the expressions of its condition (`ensure`), signatories and observers, and its choices.
pub record TemplateForm : Type 0 where
  pub name : List ℕ
  pub fields : List FieldDecl
  pub ensure : ExprForm
  pub signatories : ExprForm
  pub observers : ExprForm
  pub choices : List ChoiceForm

-- a package as plain data: its name and its templates
pub record PackageForm : Type 0 where
  pub name : List ℕ
  pub templates : List TemplateForm

-- the code of choices, which a type that contracts see as something else has to have
pub coded_choice : Coded ChoiceForm
coded_choice = hlevel (codes, coded_expr, coded_stmts)

-- the code of templates, which a type that contracts see as something else has to have
pub coded_template : Coded TemplateForm
coded_template = hlevel (codes, coded_expr, coded_choice)

-- the code of packages, which a type that contracts see as something else has to have
pub coded_package : Coded PackageForm
coded_package = hlevel (codes, coded_template)
