-- Packages: templates with their fields and choices. `hosts` is the topology, whose parties expressions may name, `at` the place of the value or object
-- `d` that is read. An Err is the first fault: Shape says that a value has another form than it should or that a member is absent; NotInteger, Limit
-- and Unknown come of expressions inside (`Exprs.antt`) where nothing else is said.
use Rattle.std.specs.Prelude.{ℕ, ◌+◌, Bool, true, List, [], ◌∷◌, Option, Some, None, Result, Ok, codes}
use Rattle.serde_json.specs.Data.{Data}
use Rattle.serde_json.specs.Find.{get}
use Rattle.ledger_terms.specs.Pointers.{at_member}
use Rattle.ledger_terms.specs.Syntax.{ExprForm, StmtForms, Literal, SetOf, NoExprs}
use Rattle.ledger_terms.specs.Packages.{ChoiceForm, TemplateForm, PackageForm}
use Rattle.ledger_terms.specs.declared.value.Value.TheVariants as value
use Rattle.ledger_terms.specs.declared.kind.Kind.{Kind}
use Rattle.ledger_terms.specs.declared.kind.Kind.TheVariants as kind
use Rattle.ledger_terms.specs.declared.field_decl.FieldDecl.{FieldDecl}
use Rattle.ledger_terms.specs.declared.host.Host.{Host}
use Rattle.ledger_terms.specs.Answers.{◌>>=◌, check}
use Rattle.json_walk.specs.Lists.{few_of, item_step}
use Rattle.json_walk.specs.declared.limits.TheConstants.{FIELDS, PARAMETERS, CHOICES, TEMPLATES}
use Rattle.json_walk.specs.Walk.{within_limit, Place, name_in, truth_in, has_members, items_of, walk_items, item_count, member_of}
use Rattle.lang_read.specs.Kinds.{kind_of}
use Rattle.lang_read.specs.Exprs.{expr_in, expr_or}
use Rattle.lang_read.specs.Stmts.{body_in}
use Rattle.json_walk.specs.declared.walk_fault.WalkFault.{WalkFault}
use Rattle.json_walk.specs.declared.walk_fault.WalkFault.TheVariants.{Shape}

-- the expression that stands for an absent `ensure` of a template: true
abbrev pub always : ExprForm
always = Literal (value.Bool true)

-- the expression that stands for absent `observers` of a template or a choice: the empty set
abbrev pub nobody : ExprForm
nobody = SetOf NoExprs

-- the expression that stands for an absent `result` of a choice: the value Unit
abbrev pub nothing : ExprForm
nothing = Literal value.Unit

-- ---- fields and parameters

-- the kind that the member `k` of the object names; Shape where that member is absent or names none
unfoldable pub kind_in : Place → List ℕ → Data → Result Kind WalkFault
kind_in at k d = do
  m ← member_of at k d
  kind_of (at_member at k) m

-- the declaration of a field or a parameter, its name and its kind, in an object with the members `name` and `type` alone; else Shape
unfoldable pub decl_of : Place → Data → Result FieldDecl WalkFault
decl_of at d = do
  _ ← check (has_members (codes "name" ∷ codes "type" ∷ []) [] d) (Shape at)
  name ← name_in at (codes "name") d
  kind ← kind_in at (codes "type") d
  Ok (record { name = name; kind = kind })

-- the declarations in the member `fields` of a template, in order; Limit where there are more than 12
unfoldable pub fields_in : Place → Data → Result (List FieldDecl) WalkFault
fields_in at d = do
  m ← member_of at (codes "fields") d
  few_of decl_of (at_member at (codes "fields")) FIELDS m

-- the declarations of the parameters of a choice in its member at the place `at`; None, where that is absent, gives none, and too many are Limit
abbrev pub params_if : Place → Option Data → Result (List FieldDecl) WalkFault
params_if at None = Ok []
params_if at (Some d) = few_of decl_of at PARAMETERS d

-- the declarations in the member `params` of a choice, none where that is absent
unfoldable pub params_in : Place → Data → Result (List FieldDecl) WalkFault
params_in at d = params_if (at_member at (codes "params")) (get (codes "params") d)

-- ---- choices

-- the kind of the result of a choice, as its member at the place `at` names it; None, where that is absent, gives Unit
abbrev pub returns_if : Place → Option Data → Result Kind WalkFault
returns_if at None = Ok kind.Unit
returns_if at (Some d) = kind_of at d

-- the kind in the member `returns` of a choice, Unit where that is absent
unfoldable pub returns_in : Place → Data → Result Kind WalkFault
returns_in at d = returns_if (at_member at (codes "returns")) (get (codes "returns") d)

-- whether a value is an object with the members that a choice must have, and no others than it may have
unfoldable pub has_choice_members : Data → Bool
has_choice_members d =
    has_members (codes "name" ∷ codes "consuming" ∷ codes "controllers" ∷ [])
    (codes "params" ∷ codes "observers" ∷ codes "returns" ∷ codes "body" ∷ codes "result" ∷ []) d

-- the expression in the member `controllers` of a choice
unfoldable pub controllers_in : List Host → Place → Data → Result ExprForm WalkFault
controllers_in hosts at d = expr_in hosts at (codes "controllers") d

-- the two expressions of the parties of a choice: its controllers, and its observers or the empty set
unfoldable pub choice_parties_of : List Host → Place → Data → Result (ExprForm × ExprForm) WalkFault
choice_parties_of hosts at d = do
  controllers ← controllers_in hosts at d
  observers ← expr_or hosts at (codes "observers") nobody d
  Ok (controllers, observers)

-- three parts of a choice: the kind of its result, the statements of its body, and the expression of its result. Where a member is absent, its part is
-- Unit, no statement, or the value Unit
unfoldable pub outcome_of : List Host → Place → Data → Result (Kind × StmtForms × ExprForm) WalkFault
outcome_of hosts at d = do
  returns ← returns_in at d
  body ← body_in hosts at d
  result ← expr_or hosts at (codes "result") nothing d
  Ok (returns, body, result)

-- the choice of a template that a value spells, or the first fault; its members are read in the order that is written here
unfoldable pub choice_of : List Host → Place → Data → Result ChoiceForm WalkFault
choice_of hosts at d = do
  _ ← check (has_choice_members d) (Shape at)
  name ← name_in at (codes "name") d
  consuming ← truth_in at (codes "consuming") d
  params ← params_in at d
  parties ← choice_parties_of hosts at d
  outcome ← outcome_of hosts at d
  Ok (record {
    name = name;
    consuming = consuming;
    params = params;
    controllers = parties.0;
    observers = parties.1;
    returns = outcome.0;
    body = outcome.1;
    result = outcome.2;
  })

-- the choices in the member at the place `at`, in order; None, where that is absent, gives none, and too many are Limit
abbrev pub choices_if : List Host → Place → Option Data → Result (List ChoiceForm) WalkFault
choices_if hosts at None = Ok []
choices_if hosts at (Some d) = few_of (choice_of hosts) at CHOICES d

-- the choices in the member `choices` of a template, none where that is absent
unfoldable pub choices_in : List Host → Place → Data → Result (List ChoiceForm) WalkFault
choices_in hosts at d = choices_if hosts (at_member at (codes "choices")) (get (codes "choices") d)

-- ---- templates

-- whether a value is an object with the members that a template must have, and no others than it may have
unfoldable pub has_template_members : Data → Bool
has_template_members d =
    has_members (codes "name" ∷ codes "fields" ∷ codes "signatories" ∷ []) (codes "ensure" ∷ codes "observers" ∷ codes "choices" ∷ []) d

-- the expression in the member `signatories` of a template
unfoldable pub signatories_in : List Host → Place → Data → Result ExprForm WalkFault
signatories_in hosts at d = expr_in hosts at (codes "signatories") d

-- the two expressions of the parties of a template: its signatories, and its observers or the empty set
unfoldable pub template_parties_of : List Host → Place → Data → Result (ExprForm × ExprForm) WalkFault
template_parties_of hosts at d = do
  signatories ← signatories_in hosts at d
  observers ← expr_or hosts at (codes "observers") nobody d
  Ok (signatories, observers)

-- the template that a value spells, or the first fault; its members are read in the order that is written here
unfoldable pub template_form_of : List Host → Place → Data → Result TemplateForm WalkFault
template_form_of hosts at d = do
  _ ← check (has_template_members d) (Shape at)
  name ← name_in at (codes "name") d
  fields ← fields_in at d
  ensure ← expr_or hosts at (codes "ensure") always d
  parties ← template_parties_of hosts at d
  choices ← choices_in hosts at d
  Ok (record { name = name; fields = fields; ensure = ensure; signatories = parties.0; observers = parties.1; choices = choices })

-- the templates of the list `d`, in order, where the packages before it have `before` templates; Limit where there are more than 64 with these
unfoldable pub templates_of : List Host → ℕ → Place → Data → Result (List TemplateForm) WalkFault
templates_of hosts before at d = do
  items ← items_of at d
  _ ← within_limit at TEMPLATES (before + item_count items)
  walk_items (item_step (template_form_of hosts) at) 0 [] items

-- the templates in the member `templates` of a package, where the packages before it have `before` templates
unfoldable pub templates_in : List Host → ℕ → Place → Data → Result (List TemplateForm) WalkFault
templates_in hosts before at d = do
  m ← member_of at (codes "templates") d
  templates_of hosts before (at_member at (codes "templates")) m

-- ---- packages

-- whether a value is an object with the members `name` and `templates` alone
unfoldable pub has_package_members : Data → Bool
has_package_members d = has_members (codes "name" ∷ codes "templates" ∷ []) [] d

-- the package that a value spells, or the first fault, where the packages before it have `before` templates
unfoldable pub package_of : List Host → ℕ → Place → Data → Result PackageForm WalkFault
package_of hosts before at d = do
  _ ← check (has_package_members d) (Shape at)
  name ← name_in at (codes "name") d
  templates ← templates_in hosts before at d
  Ok (record { name = name; templates = templates })
