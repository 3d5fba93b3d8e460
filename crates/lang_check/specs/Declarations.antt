-- The first fault of choices and templates. `at` is the place of the JSON form that is walked; an answer without a fault and without a
-- value is `Ok tt`.
use Rattle.std.specs.Prelude.{ℕ, ◌+◌, not, List, [], ◌∷◌, ◌++◌, Result, Ok, ⊤, codes}
use Rattle.ledger_terms.specs.Parties.{same_name}
use Rattle.ledger_terms.specs.Pointers.{at_member, at_item}
use Rattle.ledger_terms.specs.declared.kind.Kind.TheVariants.{Bool as BoolKind, Parties as PartiesKind}
use Rattle.ledger_terms.specs.Packages.{TemplateForm, ChoiceForm}
use Rattle.lang_eval.specs.Found.{Packages}
use Rattle.lang_eval.specs.Builtin.{archive_name}
use Rattle.lang_eval.specs.Typed.{decl_names, this_scope, choice_scope, body_scope}
use Rattle.lang_check.specs.declared.check_fault.CheckFault.{CheckFault}
use Rattle.lang_check.specs.declared.check_kind.CheckKind.TheVariants.{DuplicateName, Reserved}
use Rattle.lang_check.specs.Faults.{Place, ◌>>=◌, tried}
use Rattle.lang_check.specs.Walk.{expr_at}
use Rattle.lang_check.specs.Statements.{is_among, stmts_from}

-- a list of names: those that were declared so far, or those of fields, parameters or templates that are still to be tried
abbrev pub NameLists : Type 0
NameLists = List (List ℕ)

-- The names `taken` with one more at their end, which is declared at this place; or DuplicateName there, where it is among them already.
unfoldable pub named_at : Place → List ℕ → NameLists → Result NameLists CheckFault
named_at at name taken = do
  _ ← tried (not (is_among name taken)) DuplicateName at
  Ok (taken ++ name ∷ [])

-- Nothing where these names (the last argument) differ from each other and from those `taken` before, else DuplicateName at the first that doesn't.
-- They are the names of fields, parameters or templates: of the i-th item, from 0, and further ones of the list at `at`.
abbrev pub names_from : Place → ℕ → NameLists → NameLists → Result ⊤ CheckFault
names_from at i taken [] = Ok tt
names_from at i taken (n ∷ ns) = named_at (at_member (at_item at i) (codes "name")) n taken >>= λ more. names_from at (i + 1) more ns

-- The names `taken` of the choices before, with this choice's name at their end, which stands at this place; or the fault there: DuplicateName where it
-- is among them, Reserved where it is Archive, which each template has built in.
unfoldable pub choice_name_at : Place → List ℕ → NameLists → Result NameLists CheckFault
choice_name_at at name taken = do
  more ← named_at at name taken
  _ ← tried (not (same_name archive_name name)) Reserved at
  Ok more

-- Nothing where the controllers and the observers of a choice are sets of parties, else the first fault, of controllers first. In order: the place of
-- the choice, its template t, the choice c.
unfoldable pub choice_parties_at : Place → TemplateForm → ChoiceForm → Result ⊤ CheckFault
choice_parties_at at t c = do
  _ ← expr_at (at_member at (codes "controllers")) (choice_scope t c) PartiesKind c.controllers
  expr_at (at_member at (codes "observers")) (choice_scope t c) PartiesKind c.observers

-- Nothing where the body of a choice is well typed and its result has the kind that it returns, in the scope after the body; else the first fault. In
-- order: the place of the choice, the packages, its template t, the choice c.
unfoldable pub choice_body_at : Place → Packages → TemplateForm → ChoiceForm → Result ⊤ CheckFault
choice_body_at at packages t c = do
  end ← stmts_from (at_member at (codes "body")) 0 packages c.body (body_scope t c)
  expr_at (at_member at (codes "result")) end c.returns c.result

-- The check of one choice: the first fault, or the names `taken` of the choices in front of it, with its own behind them. In order: the place of the
-- choice, the packages that it may name, its template t, the choice c, `taken`.
unfoldable pub choice_from : Place → Packages → TemplateForm → ChoiceForm → NameLists → Result NameLists CheckFault
choice_from at packages t c taken = do
  more ← choice_name_at (at_member at (codes "name")) c.name taken
  _ ← names_from (at_member at (codes "params")) 0 [] (decl_names c.params)
  _ ← choice_parties_at at t c
  _ ← choice_body_at at packages t c
  Ok more

-- The check of these choices of template t: nothing, or the first fault. They are the i-th, from 0, and further ones of the list at `at`, which stand
-- behind others with the names `taken`.
abbrev pub choices_from : Place → ℕ → Packages → TemplateForm → NameLists → List ChoiceForm → Result ⊤ CheckFault
choices_from at i packages t taken [] = Ok tt
choices_from at i packages t taken (c ∷ cs) = choice_from (at_item at i) packages t c taken >>= λ more. choices_from at (i + 1) packages t more cs

-- nothing where the signatories and the observers of the template at this place are sets of parties; else the first fault, of signatories first
unfoldable pub template_parties_at : Place → TemplateForm → Result ⊤ CheckFault
template_parties_at at t = do
  _ ← expr_at (at_member at (codes "signatories")) (this_scope t) PartiesKind t.signatories
  expr_at (at_member at (codes "observers")) (this_scope t) PartiesKind t.observers

-- nothing where the `ensure` of the template at this place is a truth value, and its signatories and observers are sets of parties; else the first
-- fault
unfoldable pub template_exprs_at : Place → TemplateForm → Result ⊤ CheckFault
template_exprs_at at t = do
  _ ← expr_at (at_member at (codes "ensure")) (this_scope t) BoolKind t.ensure
  template_parties_at at t

-- The check of the template at this place but for its name, where the templates of these packages may be named: its fields, its
-- expressions and its choices; nothing, or the first fault.
unfoldable pub template_from : Place → Packages → TemplateForm → Result ⊤ CheckFault
template_from at packages t = do
  _ ← names_from (at_member at (codes "fields")) 0 [] (decl_names t.fields)
  _ ← template_exprs_at at t
  choices_from (at_member at (codes "choices")) 0 packages t [] t.choices

-- The check of these templates (the last argument), which are the i-th, from 0, and further ones of the list at `at`, and may name the templates of
-- these packages: nothing, or the first fault.
abbrev pub templates_from : Place → ℕ → Packages → List TemplateForm → Result ⊤ CheckFault
templates_from at i packages [] = Ok tt
templates_from at i packages (t ∷ ts) = template_from (at_item at i) packages t >>= λ _. templates_from at (i + 1) packages ts
