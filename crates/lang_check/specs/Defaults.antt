-- The definitions of evaluation give a default for a wrong kind, a name that isn't bound and a template that isn't there. Here stands
-- which evaluations take no default, and which faults are left for them.
use Rattle.std.specs.Prelude.{◌≡◌, ◌⊎◌, true, false, List, [], Some, Ok}
use Rattle.ledger_terms.specs.declared.kind.Kind.{Kind}
use Rattle.ledger_terms.specs.declared.kind.Kind.TheVariants.{Int as IntKind, Bool as BoolKind, Text as TextKind}
use Rattle.ledger_terms.specs.declared.kind.Kind.TheVariants.{Party as PartyKind, Contract as ContractKind, Parties as PartiesKind}
use Rattle.ledger_terms.specs.declared.value.Value.{Value}
use Rattle.ledger_terms.specs.declared.value.Value.TheVariants.{Bool as BoolValue, Parties}
use Rattle.ledger_terms.specs.declared.instance.Instance.{Instance}
use Rattle.ledger_terms.specs.Syntax.{ExprForm, ExprForms, Literal, Var, Add, Sub, Mul, Less, LessEq, Equal}
use Rattle.ledger_terms.specs.Syntax.{Both, Either, Negate, Cond, Cat, SetOf, Union, Has, NoExprs, MoreExprs}
use Rattle.ledger_terms.specs.Syntax.{StmtForm, StmtForms, Bind, Assert, Create, Exercise, Fetch, When, NoStmts, MoreStmts}
use Rattle.ledger_terms.specs.Packages.{TemplateForm, ChoiceForm}
use Rattle.ledger_model.specs.declared.step.ChoiceCall.{ChoiceCall}
use Rattle.ledger_model.specs.declared.step.ChildResult.{ChildResult}
use Rattle.lang_eval.specs.declared.binding.Binding.{Binding}
use Rattle.lang_eval.specs.declared.eval_fault.EvalFault.{EvalFault}
use Rattle.lang_eval.specs.declared.eval_fault.EvalFault.TheVariants.{Overflow, Assert as AssertFault, Ensure, NoSignatory, TooLarge}
use Rattle.lang_eval.specs.Found.{Packages, template_in, choice_in}
use Rattle.lang_eval.specs.Kinds.{kind_of}
use Rattle.lang_eval.specs.Names.{Names, binding_of}
use Rattle.lang_eval.specs.Next.{Went, ran, ran_all, names_of}
use Rattle.lang_eval.specs.Value.{val}
use Rattle.lang_eval.specs.Parts.{this_names}
use Rattle.lang_check.specs.Asked.{Gives}

-- the fault is one that an expression may have: a number or a text beyond its limit
abbrev pub IsOverLimit : EvalFault → Type 0
IsOverLimit Overflow = Unit {0}
IsOverLimit TooLarge = Unit {0}
IsOverLimit f = ⊥

-- the fault is one that a body may have: a number or a text beyond its limit, or an assertion
abbrev pub IsOfBodies : EvalFault → Type 0
IsOfBodies AssertFault = Unit {0}
IsOfBodies f = IsOverLimit f

-- The fault is one that the evaluation of an instance of template t has with cause: a limit, an `ensure` that is evaluated to false, or
-- signatories that are evaluated to none.
abbrev pub IsOfContracts : TemplateForm → Instance → EvalFault → Type 0
IsOfContracts t i Ensure = val t.ensure (this_names t i) ≡ Ok (BoolValue false)
IsOfContracts t i NoSignatory = val t.signatories (this_names t i) ≡ Ok (Parties [])
IsOfContracts t i f = IsOverLimit f

-- where two expressions have values under these names, these are of one kind, as the operands of `Equal` have to be
abbrev pub GiveAlike : ExprForm → ExprForm → Names → Type 0
GiveAlike a b names = (x y : Value) → val a names ≡ Ok x → val b names ≡ Ok y → kind_of x ≡ kind_of y

-- each of the expressions, where it has a value under these names, gives one of kind k, as the members of a set have to
abbrev pub AllGive : ExprForms → Names → Kind → Type 0
AllGive NoExprs names k = Unit {0}
AllGive (MoreExprs e es) names k = Gives e names k × AllGive es names k

abbrev mutual
  -- each name in the expression is bound, and each operand that has a value gives one of a kind that its operator takes
  pub TakesNoDefault : ExprForm → Names → Type 0
  TakesNoDefault (Literal v) names = Unit {0}
  TakesNoDefault (Var x) names = (b : Binding) × (binding_of x names ≡ Some b)
  TakesNoDefault (Add a b) names = (TakesNoDefault a names × Gives a names IntKind) × (TakesNoDefault b names × Gives b names IntKind)
  TakesNoDefault (Sub a b) names = (TakesNoDefault a names × Gives a names IntKind) × (TakesNoDefault b names × Gives b names IntKind)
  TakesNoDefault (Mul a b) names = (TakesNoDefault a names × Gives a names IntKind) × (TakesNoDefault b names × Gives b names IntKind)
  TakesNoDefault (Less a b) names = (TakesNoDefault a names × Gives a names IntKind) × (TakesNoDefault b names × Gives b names IntKind)
  TakesNoDefault (LessEq a b) names = (TakesNoDefault a names × Gives a names IntKind) × (TakesNoDefault b names × Gives b names IntKind)
  TakesNoDefault (Equal a b) names = (TakesNoDefault a names × TakesNoDefault b names) × GiveAlike a b names
  TakesNoDefault (Both a b) names = (TakesNoDefault a names × Gives a names BoolKind) × (TakesNoDefault b names × Gives b names BoolKind)
  TakesNoDefault (Either a b) names = (TakesNoDefault a names × Gives a names BoolKind) × (TakesNoDefault b names × Gives b names BoolKind)
  TakesNoDefault (Negate a) names = TakesNoDefault a names × Gives a names BoolKind
  TakesNoDefault (Cond c a b) names = (TakesNoDefault c names × Gives c names BoolKind) × (TakesNoDefault a names × TakesNoDefault b names)
  TakesNoDefault (Cat a b) names = (TakesNoDefault a names × Gives a names TextKind) × (TakesNoDefault b names × Gives b names TextKind)
  TakesNoDefault (SetOf es) names = TakeNoDefault es names × AllGive es names PartyKind
  TakesNoDefault (Union a b) names = (TakesNoDefault a names × Gives a names PartiesKind) × (TakesNoDefault b names × Gives b names PartiesKind)
  TakesNoDefault (Has a b) names = (TakesNoDefault a names × Gives a names PartiesKind) × (TakesNoDefault b names × Gives b names PartyKind)

  -- each of the expressions takes no default
  pub TakeNoDefault : ExprForms → Names → Type 0
  TakeNoDefault NoExprs names = Unit {0}
  TakeNoDefault (MoreExprs e es) names = TakesNoDefault e names × TakeNoDefault es names

abbrev mutual
  -- The statement's expressions take no default, its test gives a truth value, its contract an id, and its template or choice is there. Of a
  -- `when` the side that is taken runs without a default. The statement begins with these names and these results of children.
  pub RunsWithoutDefault : StmtForm → Packages → Names → List ChildResult → Type 0
  RunsWithoutDefault (Bind x e) packages names seen = TakesNoDefault e names
  RunsWithoutDefault (Assert e) packages names seen = TakesNoDefault e names × Gives e names BoolKind
  RunsWithoutDefault (Create x t fields) packages names seen = ((template : TemplateForm) × (template_in t packages ≡ Some template)) × TakeNoDefault fields
      names
  RunsWithoutDefault (Exercise x t e choice args) packages names seen =
      ((c : ChoiceForm) × (choice_in t choice packages ≡ Some c)) × (TakesNoDefault e names × Gives e names ContractKind) × TakeNoDefault args names
  RunsWithoutDefault (Fetch x t e) packages names seen =
      ((template : TemplateForm) × (template_in t packages ≡ Some template)) × (TakesNoDefault e names × Gives e names ContractKind)
  RunsWithoutDefault (When e first second) packages names seen =
      (TakesNoDefault e names × Gives e names BoolKind)
      × (val e names ≡ Ok (BoolValue true) → RunWithoutDefault first packages names seen)
      × (val e names ≡ Ok (BoolValue false) → RunWithoutDefault second packages names seen)

  -- each of the statements that is reached runs without a default, where they begin with these names and these results of children
  pub RunWithoutDefault : StmtForms → Packages → Names → List ChildResult → Type 0
  RunWithoutDefault NoStmts packages names seen = Unit {0}
  RunWithoutDefault (MoreStmts s ss) packages names seen =
      RunsWithoutDefault s packages names seen
      × ((after : Names) (left : List ChildResult) → ran s packages names seen ≡ Went after left → RunWithoutDefault ss packages after left)

-- the body of choice c of template t takes no default in this call after these results of children, nor does its result where it is reached
abbrev pub BodyTakesNoDefault : TemplateForm → ChoiceForm → Packages → ChoiceCall → List ChildResult → Type 0
BodyTakesNoDefault t c packages call seen =
    RunWithoutDefault c.body packages (names_of t c call) seen
    × ((after : Names) (left : List ChildResult) → ran_all c.body packages (names_of t c call) seen ≡ Went after left → TakesNoDefault c.result after)

abbrev mutual
  -- an assertion of the statement, which begins with these names and these results of children, is reached and is evaluated to false
  pub IsRefuted : StmtForm → Packages → Names → List ChildResult → Type 0
  IsRefuted (Assert e) packages names seen = val e names ≡ Ok (BoolValue false)
  IsRefuted (When e first second) packages names seen =
      ((val e names ≡ Ok (BoolValue true)) × AreRefuted first packages names seen)
      ⊎ ((val e names ≡ Ok (BoolValue false)) × AreRefuted second packages names seen)
  IsRefuted s packages names seen = ⊥

  -- an assertion of one of the statements, which begin with these names and these results of children, is reached and is evaluated to false
  pub AreRefuted : StmtForms → Packages → Names → List ChildResult → Type 0
  AreRefuted NoStmts packages names seen = ⊥
  AreRefuted (MoreStmts s ss) packages names seen =
      IsRefuted s packages names seen
      ⊎ ((after : Names) × (left : List ChildResult) × (ran s packages names seen ≡ Went after left) × AreRefuted ss packages after left)
