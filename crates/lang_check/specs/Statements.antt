-- The first fault of a statement: template, choice, expressions, counts and kinds, and what is bound, in this order. `at` is the place of
-- the JSON form that is walked. Without a fault a statement's answer is the scope after it.
use Rattle.std.specs.Prelude.{ℕ, ◌+◌, ◌==◌, Bool, false, not, ◌||◌, List, [], ◌∷◌, ◌++◌, length, option_map, Result, Ok, ok_or, ⊤, codes}
use Rattle.std.specs.List.{list_any}
use Rattle.ledger_terms.specs.Parties.{same_name}
use Rattle.ledger_terms.specs.Pointers.{at_member, at_item}
use Rattle.ledger_terms.specs.declared.kind.Kind.{Kind}
use Rattle.ledger_terms.specs.declared.kind.Kind.TheVariants.{Bool as BoolKind, Contract as ContractKind}
use Rattle.ledger_terms.specs.declared.field_decl.FieldDecl.{FieldDecl}
use Rattle.ledger_terms.specs.declared.template_name.TemplateName.{TemplateName}
use Rattle.ledger_terms.specs.Syntax.{ExprForm, ExprForms, StmtForm, StmtForms, Bind, Assert, Create, Exercise, Fetch, When, NoStmts, MoreStmts}
use Rattle.ledger_terms.specs.Packages.{TemplateForm, ChoiceForm}
use Rattle.lang_eval.specs.Found.{Packages, template_in}
use Rattle.lang_eval.specs.Typed.{Scope, names_in, scope_of, choice_named}
use Rattle.lang_check.specs.declared.check_fault.CheckFault.{CheckFault}
use Rattle.lang_check.specs.declared.check_kind.CheckKind.TheVariants.{DuplicateName, UnknownTemplate, UnknownChoice, WrongKind, WrongCount}
use Rattle.lang_check.specs.Faults.{Place, fault, ◌>>=◌, tried}
use Rattle.lang_check.specs.Walk.{same_kind, kind_at, expr_at, kinds_from}

-- whether the name is one of these
abbrev pub is_among : List ℕ → List (List ℕ) → Bool
is_among name names = list_any (λ n. same_name n name) names

-- whether a name of the first scope is in the second already
abbrev pub some_among : Scope → Scope → Bool
some_among [] scope = false
some_among (b ∷ bs) scope = is_among b.0 (names_in scope) || some_among bs scope

-- the scope with a name of this kind at its end; the name stands at this place, and is a DuplicateName where it is in scope already
unfoldable pub bound_at : Place → List ℕ → Kind → Scope → Result Scope CheckFault
bound_at at name kind scope = do
  _ ← tried (not (is_among name (names_in scope))) DuplicateName at
  Ok (scope ++ (name, kind) ∷ [])

-- the template of that name in these packages; where there is none, UnknownTemplate at this place
unfoldable pub template_at : Place → TemplateName → Packages → Result TemplateForm CheckFault
template_at at name packages = ok_or (template_in name packages) (fault UnknownTemplate at)

-- what a caller has to know of a choice: its parameters, and the kind of its result
abbrev pub signature_of : ChoiceForm → List FieldDecl × Kind
signature_of c = (c.params, c.returns)

-- what a caller has to know of the template's choice of that name; where there is none, UnknownChoice at this place
unfoldable pub choice_at : Place → TemplateForm → List ℕ → Result (List FieldDecl × Kind) CheckFault
choice_at at template name = ok_or (option_map signature_of (choice_named template name)) (fault UnknownChoice at)

-- nothing where there are as many kinds as fields or parameters, else WrongCount at this place
unfoldable pub counted_at : Place → List Kind → List FieldDecl → Result ⊤ CheckFault
counted_at at kinds decls = tried (length kinds == length decls) WrongCount at

-- Nothing where each of the kinds is the declared one, else WrongKind at the first that isn't. They are the kinds of the i-th item, from 0, and further
-- ones of the list at `at`; that they are as many as declared is tried before.
abbrev pub fit_from : Place → ℕ → List Kind → List FieldDecl → Result ⊤ CheckFault
fit_from at i (k ∷ ks) (d ∷ ds) = tried (same_kind k d.kind) WrongKind (at_item at i) >>= λ _. fit_from at (i + 1) ks ds
fit_from at i ks ds = Ok tt

-- the scope after `let`, which binds `name` to the value of expression e, or its first fault; the JSON form at this place is a list of the name and the
-- expression
unfoldable pub let_at : Place → List ℕ → ExprForm → Scope → Result Scope CheckFault
let_at at name e scope = do
  k ← kind_at (at_item at 1) scope e
  bound_at (at_item at 0) name k scope

-- the scope after an assertion, which binds nothing; or the first fault of its test, which has to be a truth value
unfoldable pub assert_at : Place → ExprForm → Scope → Result Scope CheckFault
assert_at at e scope = do
  _ ← expr_at at scope BoolKind e
  Ok scope

-- The scope after a create of template t with these fields, whose contract is bound to `name`; or its first fault. In order: its place, the packages,
-- the bound name, the template, the fields, the scope before it.
unfoldable pub create_at : Place → Packages → List ℕ → TemplateName → ExprForms → Scope → Result Scope CheckFault
create_at at packages name t fields scope = do
  template ← template_at (at_member at (codes "template")) t packages
  kinds ← kinds_from (at_member at (codes "fields")) 0 scope [] fields
  _ ← counted_at (at_member at (codes "fields")) kinds template.fields
  _ ← fit_from (at_member at (codes "fields")) 0 kinds template.fields
  bound_at (at_member at (codes "bind")) name ContractKind scope

-- The scope after an exercise of a choice of template t on the contract that e gives, whose result is bound to `name`; or its first fault. In order:
-- its place, the packages, the bound name, the template, e, the choice's name, the arguments, the scope before it.
unfoldable pub exercise_at : Place → Packages → List ℕ → TemplateName → ExprForm → List ℕ → ExprForms → Scope → Result Scope CheckFault
exercise_at at packages name t e choice args scope = do
  template ← template_at (at_member at (codes "template")) t packages
  signature ← choice_at (at_member at (codes "choice")) template choice
  kind ← kind_at (at_member at (codes "contract")) scope e
  kinds ← kinds_from (at_member at (codes "args")) 0 scope [] args
  _ ← counted_at (at_member at (codes "args")) kinds signature.0
  _ ← tried (same_kind kind ContractKind) WrongKind (at_member at (codes "contract"))
  _ ← fit_from (at_member at (codes "args")) 0 kinds signature.0
  bound_at (at_member at (codes "bind")) name signature.1 scope

-- The scope after a fetch of the contract of template t that e gives, which binds each field behind `name` and a dot; or its first fault. In order: its
-- place, the packages, the bound name, the template, e, the scope before it.
unfoldable pub fetch_at : Place → Packages → List ℕ → TemplateName → ExprForm → Scope → Result Scope CheckFault
fetch_at at packages name t e scope = do
  template ← template_at (at_member at (codes "template")) t packages
  _ ← expr_at (at_member at (codes "contract")) scope ContractKind e
  _ ← tried (not (some_among (scope_of name template.fields) scope)) DuplicateName (at_member at (codes "bind"))
  Ok (scope ++ scope_of name template.fields)

abbrev mutual
  -- the scope after the statement at this place, which begins with this scope; or its first fault
  pub stmt_at : Place → Packages → StmtForm → Scope → Result Scope CheckFault
  stmt_at at packages (Bind x e) scope = let_at (at_member at (codes "let")) x e scope
  stmt_at at packages (Assert e) scope = assert_at (at_member at (codes "assert")) e scope
  stmt_at at packages (Create x t fields) scope = create_at (at_member at (codes "create")) packages x t fields scope
  stmt_at at packages (Exercise x t e choice args) scope = exercise_at (at_member at (codes "exercise")) packages x t e choice args scope
  stmt_at at packages (Fetch x t e) scope = fetch_at (at_member at (codes "fetch")) packages x t e scope
  stmt_at at packages (When e first second) scope =
      expr_at (at_member (at_member at (codes "when")) (codes "if")) scope BoolKind e >>= λ _.
      stmts_from (at_member (at_member at (codes "when")) (codes "then")) 0 packages first scope >>= λ _.
      stmts_from (at_member (at_member at (codes "when")) (codes "else")) 0 packages second scope >>= λ _. Ok scope

  -- the scope after these statements, which begin with this scope, or their first fault; they are the i-th, from 0, and further ones of the
  -- list at `at`
  pub stmts_from : Place → ℕ → Packages → StmtForms → Scope → Result Scope CheckFault
  stmts_from at i packages NoStmts scope = Ok scope
  stmts_from at i packages (MoreStmts s ss) scope = stmt_at (at_item at i) packages s scope >>= λ after. stmts_from at (i + 1) packages ss after
