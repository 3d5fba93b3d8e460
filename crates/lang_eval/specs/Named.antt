-- The parties that values, expressions, packages and actions name. The lists may have a party more than once, in any order.
use Rattle.std.specs.Prelude.{◌≡◌, ℕ, Bool, true, List, [], ◌∷◌, ◌++◌}
use Rattle.std.specs.List.{list_all, flat_map}
use Rattle.ledger_terms.specs.declared.value.Value.{Value}
use Rattle.ledger_terms.specs.declared.value.Value.TheVariants.{Party, Parties}
use Rattle.ledger_terms.specs.declared.instance.Instance.{Instance}
use Rattle.ledger_terms.specs.declared.action.Action.{Action}
use Rattle.ledger_terms.specs.declared.action.Action.TheVariants.{Create as CreateAction, Exercise as ExerciseAction, Fetch as FetchAction}
use Rattle.ledger_terms.specs.Syntax.{ExprForm, ExprForms, Literal, Var, Add, Sub, Mul, Less, LessEq, Equal, Both, Either, Negate, Cond}
use Rattle.ledger_terms.specs.Syntax.{Cat, SetOf, Union, Has, NoExprs, MoreExprs, StmtForm, StmtForms, Bind, Assert, Create, Exercise}
use Rattle.ledger_terms.specs.Syntax.{Fetch, When, NoStmts, MoreStmts}
use Rattle.ledger_terms.specs.Packages.{PackageForm, TemplateForm, ChoiceForm}
use Rattle.ledger_model.specs.declared.roles.Roles.{Roles}
use Rattle.ledger_model.specs.declared.step.ChoiceCall.{ChoiceCall}
use Rattle.ledger_model.specs.declared.step.ChildResult.{ChildResult}
use Rattle.ledger_model.specs.declared.step.ChildResult.TheVariants.{Created, Returned, Fetched}
use Rattle.ledger_model.specs.declared.step.Step.{Step}
use Rattle.ledger_model.specs.declared.step.Step.TheVariants.{Create as CreateNext, Exercise as ExerciseNext, Fetch as FetchNext, Done}
use Rattle.lang_eval.specs.declared.binding.Binding.{Binding}
use Rattle.lang_eval.specs.declared.contract_parties.ContractParties.{ContractParties}
use Rattle.lang_eval.specs.declared.choice_parties.ChoiceParties.{ChoiceParties}
use Rattle.lang_eval.specs.Names.{Names}
use Rattle.lang_eval.specs.Found.{Packages}
use Rattle.lang_eval.specs.Parts.{PartyNames}

-- Each of the parties passes the test `known`, which says of a party whether it is known, as to a topology. Laws say by it that what comes of known
-- parties names no others.
abbrev pub AreKnown : (known : List ℕ → Bool) → PartyNames → Type 0
AreKnown known parties = list_all known parties ≡ true

-- the parties that a value names: the party that it is, or the members of a set; none of another kind
abbrev pub parties_in_value : Value → PartyNames
parties_in_value (Party a) = a ∷ []
parties_in_value (Parties s) = s
parties_in_value v = []

-- the parties that any of the values names
abbrev pub parties_in_values : List Value → PartyNames
parties_in_values values = flat_map parties_in_value values

-- the parties that the values of bound names name
abbrev pub parties_in_names : Names → PartyNames
parties_in_names names = flat_map (λ (b : Binding). parties_in_value b.value) names

-- the parties that the fields of an instance name
abbrev pub parties_in_instance : Instance → PartyNames
parties_in_instance i = parties_in_values i.fields

abbrev mutual
  -- the parties that the literals of an expression name
  pub parties_in_expr : ExprForm → PartyNames
  parties_in_expr (Literal v) = parties_in_value v
  parties_in_expr (Var x) = []
  parties_in_expr (Add a b) = parties_in_expr a ++ parties_in_expr b
  parties_in_expr (Sub a b) = parties_in_expr a ++ parties_in_expr b
  parties_in_expr (Mul a b) = parties_in_expr a ++ parties_in_expr b
  parties_in_expr (Less a b) = parties_in_expr a ++ parties_in_expr b
  parties_in_expr (LessEq a b) = parties_in_expr a ++ parties_in_expr b
  parties_in_expr (Equal a b) = parties_in_expr a ++ parties_in_expr b
  parties_in_expr (Both a b) = parties_in_expr a ++ parties_in_expr b
  parties_in_expr (Either a b) = parties_in_expr a ++ parties_in_expr b
  parties_in_expr (Negate a) = parties_in_expr a
  parties_in_expr (Cond c a b) = parties_in_expr c ++ (parties_in_expr a ++ parties_in_expr b)
  parties_in_expr (Cat a b) = parties_in_expr a ++ parties_in_expr b
  parties_in_expr (SetOf es) = parties_in_exprs es
  parties_in_expr (Union a b) = parties_in_expr a ++ parties_in_expr b
  parties_in_expr (Has a b) = parties_in_expr a ++ parties_in_expr b

  -- the parties that the literals of any of the expressions name
  pub parties_in_exprs : ExprForms → PartyNames
  parties_in_exprs NoExprs = []
  parties_in_exprs (MoreExprs e es) = parties_in_expr e ++ parties_in_exprs es

abbrev mutual
  -- the parties that the literals in a statement's expressions name
  pub parties_in_stmt : StmtForm → PartyNames
  parties_in_stmt (Bind x e) = parties_in_expr e
  parties_in_stmt (Assert e) = parties_in_expr e
  parties_in_stmt (Create x t fields) = parties_in_exprs fields
  parties_in_stmt (Exercise x t e choice args) = parties_in_expr e ++ parties_in_exprs args
  parties_in_stmt (Fetch x t e) = parties_in_expr e
  parties_in_stmt (When e first second) = parties_in_expr e ++ (parties_in_stmts first ++ parties_in_stmts second)

  -- the parties that the literals in any of the statements name
  pub parties_in_stmts : StmtForms → PartyNames
  parties_in_stmts NoStmts = []
  parties_in_stmts (MoreStmts s ss) = parties_in_stmt s ++ parties_in_stmts ss

-- the parties that the literals of a choice name: in its controllers, its observers, its body and its result
abbrev pub parties_in_choice : ChoiceForm → PartyNames
parties_in_choice c = parties_in_expr c.controllers ++ (parties_in_expr c.observers ++ (parties_in_stmts c.body ++ parties_in_expr c.result))

-- the parties that the literals of a template name: in its ensure, signatories, observers and choices
abbrev pub parties_in_template : TemplateForm → PartyNames
parties_in_template t =
    parties_in_expr t.ensure ++ (parties_in_expr t.signatories ++ (parties_in_expr t.observers ++ flat_map parties_in_choice t.choices))

-- the parties that the literals of a package name
abbrev pub parties_in_package : PackageForm → PartyNames
parties_in_package p = flat_map parties_in_template p.templates

-- the parties that the literals of any of the packages name
abbrev pub parties_in_packages : Packages → PartyNames
parties_in_packages packages = flat_map parties_in_package packages

-- the parties that a call names: in its contract's fields and in its arguments
abbrev pub parties_in_call : ChoiceCall → PartyNames
parties_in_call call = parties_in_instance call.instance ++ parties_in_values call.args

-- the parties that what a child gave names: in the result of an Exercise or the fields of a fetched contract; a created contract names none
abbrev pub parties_in_seen : ChildResult → PartyNames
parties_in_seen (Created id) = []
parties_in_seen (Returned v) = parties_in_value v
parties_in_seen (Fetched i) = parties_in_instance i

-- the parties that a step of a body names: in the fields of a Create, the arguments of an Exercise, or the result; a Fetch names none
abbrev pub parties_in_step : Step → PartyNames
parties_in_step (CreateNext t fields) = parties_in_values fields
parties_in_step (ExerciseNext t id choice args) = parties_in_values args
parties_in_step (FetchNext t id) = []
parties_in_step (Done v) = parties_in_value v

-- the parties that an action names: in its contract's fields, its arguments and its result, and as its actors
abbrev pub parties_in_action : Action → PartyNames
parties_in_action (CreateAction id i) = parties_in_instance i
parties_in_action (ExerciseAction id salt i choice args actors consuming result) =
    parties_in_instance i ++ (parties_in_values args ++ (actors ++ parties_in_value result))
parties_in_action (FetchAction id salt i actors) = parties_in_instance i ++ actors

-- the signatories and the observers of a contract, in one list, so that a law can say that all of them are known (parties_are_named)
abbrev pub stakeholder_names : ContractParties → PartyNames
stakeholder_names p = p.signatories ++ p.observers

-- the controllers and the observers of a call, in one list, so that a law can say that all of them are known (parties_are_named)
abbrev pub choice_party_names : ChoiceParties → PartyNames
choice_party_names p = p.controllers ++ p.observers

-- the parties of an action's five sets, in one list, so that a law can say that all of them are known (roles_are_named)
abbrev pub parties_in_roles : Roles → PartyNames
parties_in_roles r = r.signatories ++ (r.observers ++ (r.actors ++ (r.informees ++ r.confirmers)))
