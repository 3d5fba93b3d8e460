-- Packages that are well typed: each expression has its kind, each name that is used is there, and none is declared or bound twice.
use Rattle.std.specs.Prelude.{◌≡◌, ℕ, false, List, [], ◌∷◌, ◌++◌, map, Option, Some, None, find, if◌then◌else◌, codes}
use Rattle.std.specs.List.{list_any}
use Rattle.ledger_terms.specs.Parties.{same_name}
use Rattle.ledger_terms.specs.declared.kind.Kind.{Kind}
use Rattle.ledger_terms.specs.declared.kind.Kind.TheVariants.{Unit as UnitKind, Int as IntKind, Bool as BoolKind, Text as TextKind}
use Rattle.ledger_terms.specs.declared.kind.Kind.TheVariants.{Party as PartyKind, Contract as ContractKind, Parties as PartiesKind}
use Rattle.ledger_terms.specs.declared.value.Value.{Value}
use Rattle.ledger_terms.specs.declared.value.Value.TheVariants.{Unit as UnitValue, Int, Bool as BoolValue, Text, Party, Contract, Parties}
use Rattle.ledger_terms.specs.declared.field_decl.FieldDecl.{FieldDecl}
use Rattle.ledger_terms.specs.Syntax.{ExprForm, ExprForms, Literal, Var, Add, Sub, Mul, Less, LessEq, Equal, Both, Either, Negate, Cond}
use Rattle.ledger_terms.specs.Syntax.{Cat, SetOf, Union, Has, NoExprs, MoreExprs, StmtForm, StmtForms, Bind, Assert, Create, Exercise}
use Rattle.ledger_terms.specs.Syntax.{Fetch, When, NoStmts, MoreStmts}
use Rattle.ledger_terms.specs.Packages.{PackageForm, TemplateForm, ChoiceForm}
use Rattle.lang_eval.specs.Found.{Packages, template_in}
use Rattle.lang_eval.specs.Builtin.{archive_name, archive_of}

-- the names in scope with their kinds, in the order in which they were bound
abbrev pub Scope : Type 0
Scope = List (List ℕ × Kind)

-- the first argument, a name, isn't among these names
abbrev pub IsNew : List ℕ → List (List ℕ) → Type 0
IsNew name names = list_any (λ n. same_name n name) names ≡ false

-- the kind of a name in scope, and None where it isn't in scope
abbrev pub kind_named : List ℕ → Scope → Option Kind
kind_named name [] = None
kind_named name (b ∷ bs) = if same_name b.0 name then Some b.1 else kind_named name bs

-- the names of a scope without their kinds
abbrev pub names_in : Scope → List (List ℕ)
names_in scope = map (λ (b : List ℕ × Kind). b.0) scope

-- no two of the names are the same
abbrev pub AreDistinct : List (List ℕ) → Type 0
AreDistinct [] = Unit {0}
AreDistinct (name ∷ names) = IsNew name names × AreDistinct names

-- the literal has this kind; a contract is no literal, so it has none
abbrev pub IsLiteral : Value → Kind → Type 0
IsLiteral UnitValue k = k ≡ UnitKind
IsLiteral (Int n) k = k ≡ IntKind
IsLiteral (BoolValue b) k = k ≡ BoolKind
IsLiteral (Text t) k = k ≡ TextKind
IsLiteral (Party a) k = k ≡ PartyKind
IsLiteral (Contract id) k = ⊥
IsLiteral (Parties s) k = k ≡ PartiesKind

abbrev mutual
  -- the expression has this kind in this scope
  pub HasKind : ExprForm → Scope → Kind → Type 0
  HasKind (Literal v) scope k = IsLiteral v k
  HasKind (Var x) scope k = kind_named x scope ≡ Some k
  HasKind (Add a b) scope k = HasKind a scope IntKind × HasKind b scope IntKind × (k ≡ IntKind)
  HasKind (Sub a b) scope k = HasKind a scope IntKind × HasKind b scope IntKind × (k ≡ IntKind)
  HasKind (Mul a b) scope k = HasKind a scope IntKind × HasKind b scope IntKind × (k ≡ IntKind)
  HasKind (Less a b) scope k = HasKind a scope IntKind × HasKind b scope IntKind × (k ≡ BoolKind)
  HasKind (LessEq a b) scope k = HasKind a scope IntKind × HasKind b scope IntKind × (k ≡ BoolKind)
  HasKind (Equal a b) scope k = ((j : Kind) × HasKind a scope j × HasKind b scope j) × (k ≡ BoolKind)
  HasKind (Both a b) scope k = HasKind a scope BoolKind × HasKind b scope BoolKind × (k ≡ BoolKind)
  HasKind (Either a b) scope k = HasKind a scope BoolKind × HasKind b scope BoolKind × (k ≡ BoolKind)
  HasKind (Negate a) scope k = HasKind a scope BoolKind × (k ≡ BoolKind)
  HasKind (Cond c a b) scope k = HasKind c scope BoolKind × HasKind a scope k × HasKind b scope k
  HasKind (Cat a b) scope k = HasKind a scope TextKind × HasKind b scope TextKind × (k ≡ TextKind)
  HasKind (SetOf es) scope k = HaveKind es scope PartyKind × (k ≡ PartiesKind)
  HasKind (Union a b) scope k = HasKind a scope PartiesKind × HasKind b scope PartiesKind × (k ≡ PartiesKind)
  HasKind (Has a b) scope k = HasKind a scope PartiesKind × HasKind b scope PartyKind × (k ≡ BoolKind)

  -- each of the expressions has this kind in this scope
  pub HaveKind : ExprForms → Scope → Kind → Type 0
  HaveKind NoExprs scope k = Unit {0}
  HaveKind (MoreExprs e es) scope k = HasKind e scope k × HaveKind es scope k

-- the expressions are as many as these fields or parameters, and each has its declared kind in this scope
abbrev pub HaveKindsOf : ExprForms → Scope → List FieldDecl → Type 0
HaveKindsOf NoExprs scope [] = Unit {0}
HaveKindsOf (MoreExprs e es) scope (d ∷ ds) = HasKind e scope d.kind × HaveKindsOf es scope ds
HaveKindsOf es scope ds = ⊥

-- the names that fields or parameters bring into scope, with their kinds: each name behind the word `first` and a dot, as `this.owner`
abbrev pub scope_of : List ℕ → List FieldDecl → Scope
scope_of first [] = []
scope_of first (d ∷ ds) = (first ++ codes "." ++ d.name, d.kind) ∷ scope_of first ds

-- no name of the first scope is in the second
abbrev pub AreNew : Scope → Scope → Type 0
AreNew [] scope = Unit {0}
AreNew (b ∷ bs) scope = IsNew b.0 (names_in scope) × AreNew bs scope

-- the first of the choices that has this name, and None where none has
abbrev pub choice_among : List ℕ → List ChoiceForm → Option ChoiceForm
choice_among name choices = find (λ c. same_name c.name name) choices

-- the choice of that name of a template into which Archive isn't put yet: the built-in Archive, or one of its own; None where it has none of that name
abbrev pub choice_named : TemplateForm → List ℕ → Option ChoiceForm
choice_named t name = if same_name archive_name name then Some (archive_of t.signatories) else choice_among name t.choices

abbrev mutual
  -- A statement is well typed in the scope before it (the first), and leaves the second scope. The packages have the templates that it may
  -- name. What is bound in a `when` isn't in the scope after it.
  pub IsTyped : StmtForm → Packages → Scope → Scope → Type 0
  IsTyped (Bind x e) packages scope after =
      (k : Kind) × HasKind e scope k × IsNew x (names_in scope) × (after ≡ scope ++ (x, k) ∷ [])
  IsTyped (Assert e) packages scope after = HasKind e scope BoolKind × (after ≡ scope)
  IsTyped (Create x t fields) packages scope after =
      (template : TemplateForm) × (template_in t packages ≡ Some template) × HaveKindsOf fields scope template.fields
      × IsNew x (names_in scope) × (after ≡ scope ++ (x, ContractKind) ∷ [])
  IsTyped (Exercise x t e choice args) packages scope after =
      (template : TemplateForm) × (template_in t packages ≡ Some template) × (c : ChoiceForm) × (choice_named template choice ≡ Some c)
      × HasKind e scope ContractKind × HaveKindsOf args scope c.params
      × IsNew x (names_in scope) × (after ≡ scope ++ (x, c.returns) ∷ [])
  IsTyped (Fetch x t e) packages scope after =
      (template : TemplateForm) × (template_in t packages ≡ Some template) × HasKind e scope ContractKind
      × AreNew (scope_of x template.fields) scope × (after ≡ scope ++ scope_of x template.fields)
  IsTyped (When e first second) packages scope after =
      HasKind e scope BoolKind × ((inside : Scope) × AreTyped first packages scope inside) × ((inside : Scope) × AreTyped second packages scope inside)
      × (after ≡ scope)

  -- statements in order are well typed in the scope before them (the first), and leave the second scope
  pub AreTyped : StmtForms → Packages → Scope → Scope → Type 0
  AreTyped NoStmts packages scope after = after ≡ scope
  AreTyped (MoreStmts s ss) packages scope after = (between : Scope) × IsTyped s packages scope between × AreTyped ss packages between after

-- the names of fields or parameters
abbrev pub decl_names : List FieldDecl → List (List ℕ)
decl_names decls = map (λ (d : FieldDecl). d.name) decls

-- the scope of a template's expressions: its fields behind `this.`
abbrev pub this_scope : TemplateForm → Scope
this_scope t = scope_of (codes "this") t.fields

-- the scope of a choice's controllers and observers: the template's fields behind `this.`, and the parameters behind `arg.`
abbrev pub choice_scope : TemplateForm → ChoiceForm → Scope
choice_scope t c = this_scope t ++ scope_of (codes "arg") c.params

-- the scope that a choice's body begins with: `self`, and that of its controllers
abbrev pub body_scope : TemplateForm → ChoiceForm → Scope
body_scope t c = (codes "self", ContractKind) ∷ choice_scope t c

-- A choice of template t is well typed, where it may name the templates of these packages. Its name isn't Archive (`free`), its parameters have
-- different names, controllers and observers are sets of parties, and its body is well typed and leaves a scope in which the result has the kind that
-- the choice returns.
pub record IsChoice (packages : Packages) (t : TemplateForm) (c : ChoiceForm) : Type 0 where
  pub free : same_name archive_name c.name ≡ false
  pub params : AreDistinct (decl_names c.params)
  pub controllers : HasKind c.controllers (choice_scope t c) PartiesKind
  pub observers : HasKind c.observers (choice_scope t c) PartiesKind
  pub body : (end : Scope) × AreTyped c.body packages (body_scope t c) end × HasKind c.result end c.returns

-- each of these choices of template t is well typed
abbrev pub AreChoices : Packages → TemplateForm → List ChoiceForm → Type 0
AreChoices packages t [] = Unit {0}
AreChoices packages t (c ∷ cs) = IsChoice packages t c × AreChoices packages t cs

-- A template is well typed, where it may name the templates of these packages: no two of its fields have one name, nor two of its choices (`names`);
-- `ensure` is a Bool, signatories and observers are sets of parties, and each choice is well typed.
pub record IsTemplate (packages : Packages) (t : TemplateForm) : Type 0 where
  pub fields : AreDistinct (decl_names t.fields)
  pub ensure : HasKind t.ensure (this_scope t) BoolKind
  pub signatories : HasKind t.signatories (this_scope t) PartiesKind
  pub observers : HasKind t.observers (this_scope t) PartiesKind
  pub names : AreDistinct (map (λ (c : ChoiceForm). c.name) t.choices)
  pub choices : AreChoices packages t t.choices

-- each of these templates is well typed
abbrev pub AreTemplates : Packages → List TemplateForm → Type 0
AreTemplates packages [] = Unit {0}
AreTemplates packages (t ∷ ts) = IsTemplate packages t × AreTemplates packages ts

-- the names of the packages
abbrev pub package_names : Packages → List (List ℕ)
package_names packages = map (λ (p : PackageForm). p.name) packages

-- A package is well typed after those before it: its name is new, its templates have different names, and they may name each other and
-- the templates of the packages before.
pub record IsPackage (before : Packages) (p : PackageForm) : Type 0 where
  pub name : IsNew p.name (package_names before)
  pub names : AreDistinct (map (λ (t : TemplateForm). t.name) p.templates)
  pub templates : AreTemplates (before ++ p ∷ []) p.templates

-- the second list of packages is well typed: each of them after those of the first list and those that stand before it in its own
abbrev pub ArePackages : Packages → Packages → Type 0
ArePackages before [] = Unit {0}
ArePackages before (p ∷ ps) = IsPackage before p × ArePackages (before ++ p ∷ []) ps
