-- A walk's faults are faults of packages, and never want of memory.
use Rattle.std.proofs.Common.{◌≡◌, ℕ, ◌+◌, Bool, true, false, List, [], ◌∷◌, ◌++◌, length, Option, Some, None, option_map, Result, Ok, Err, subst}
use Rattle.std.specs.Prelude.{◌≢◌, not, ok_or, ◌==◌, codes}
use Rattle.ledger_terms.specs.Parties.{same_name}
use Rattle.ledger_terms.specs.Pointers.{at_item, at_member}
use Rattle.ledger_terms.specs.declared.kind.Kind.{Kind}
use Rattle.ledger_terms.specs.declared.kind.Kind.TheVariants.{Int as IntKind, Bool as BoolKind, Text as TextKind, Party as PartyKind, Contract as ContractKind, Parties as PartiesKind}
use Rattle.ledger_terms.specs.declared.value.Value.{Value}
use Rattle.ledger_terms.specs.declared.value.Value.TheVariants.{Unit as UnitValue, Int, Bool as BoolValue, Text, Party, Contract, Parties}
use Rattle.ledger_terms.specs.declared.field_decl.FieldDecl.{FieldDecl}
use Rattle.ledger_terms.specs.declared.template_name.TemplateName.{TemplateName}
use Rattle.ledger_terms.specs.Syntax.{ExprForm, ExprForms, Literal, Var, Add, Sub, Mul, Less, LessEq, Equal, Both, Either, Negate, Cond, Cat, SetOf, Union, Has, NoExprs, MoreExprs, StmtForm, StmtForms, Bind, Assert, Create, Exercise, Fetch, When, NoStmts, MoreStmts}
use Rattle.ledger_terms.specs.Packages.{PackageForm, TemplateForm, ChoiceForm}
use Rattle.lang_eval.specs.Found.{Packages, template_in}
use Rattle.lang_eval.specs.Builtin.{archive_name, note_form}
use Rattle.lang_eval.specs.Typed.{Scope, kind_named, names_in, scope_of, choice_named, decl_names, this_scope, choice_scope, body_scope, package_names}
use Rattle.lang_check.specs.declared.check_fault.CheckFault.{CheckFault}
use Rattle.lang_check.specs.declared.check_kind.CheckKind.{CheckKind}
use Rattle.lang_check.specs.declared.check_kind.CheckKind.TheVariants.{DuplicateName, UnknownName, UnknownTemplate, UnknownChoice, WrongKind, WrongCount, Reserved, Memory}
use Rattle.lang_check.specs.Faults.{Place, fault, ◌>>=◌, tried}
use Rattle.lang_check.specs.Walk.{same_kind, literal_kind, in_place, one_operand, two_operands, alike_operands, sides_alike, kind_at, all_in_place, expr_at, kinds_from}
use Rattle.lang_check.specs.Statements.{is_among, some_among, bound_at, template_at, signature_of, choice_at, counted_at, fit_from, let_at, assert_at, create_at, exercise_at, fetch_at, stmt_at, stmts_from}
use Rattle.lang_check.specs.Declarations.{NameLists, named_at, names_from, choice_name_at, choice_parties_at, choice_body_at, choice_from, choices_from, template_parties_at, template_exprs_at, template_from, templates_from}
use Rattle.lang_check.specs.Packages.{template_names, package_from, packages_from, walk}

-- a fault, if it is one, is no want of memory
Faulty : {A : Type 0} → Result A CheckFault → Type 0
Faulty (Ok v) = Unit {0}
Faulty (Err e) = e.kind ≢ Memory

ok : {A : Type 0} (v : A) → (let r : Result A CheckFault = Ok v in Faulty r)
unfolding Faulty
ok v = tt

bind : {A B : Type 0} (r : Result A CheckFault) (f : A → Result B CheckFault) → Faulty r → ((a : A) → Faulty (f a)) → Faulty (r >>= f)
unfolding Faulty
bind (Ok a) f h k = k a
bind (Err e) f h k = h

test : (b : Bool) (kind : CheckKind) (at : Place) → kind ≢ Memory → Faulty (tried b kind at)
unfolding Faulty
test true kind at h = tt
test false kind at h = h

some : {A : Type 0} (o : Option A) (kind : CheckKind) (at : Place) → kind ≢ Memory → Faulty (ok_or o (fault kind at))
unfolding Faulty
some (Some v) kind at h = tt
some None kind at h = h

duplicate : DuplicateName ≢ Memory
duplicate = λ e. cc

wrong_kind : WrongKind ≢ Memory
wrong_kind = λ e. cc

literal : (at : Place) (v : Value) → Faulty (literal_kind at v)
unfolding Faulty
literal at UnitValue = tt
literal at (Int n) = tt
literal at (BoolValue b) = tt
literal at (Text t) = tt
literal at (Party a) = tt
literal at (Contract id) = wrong_kind
literal at (Parties s) = tt

place : (at : Place) (k : Kind) (r : Result Kind CheckFault) → Faulty r → Faulty (in_place at k r)
place at k r h = bind r (λ j. tried (same_kind j k) WrongKind at) h (λ j. test (same_kind j k) WrongKind at wrong_kind)

one : (at : Place) (j w : Kind) (a : Result Kind CheckFault) → Faulty a → Faulty (one_operand at j w a)
one at j w a h = bind (in_place (at_item at 1) j a) (λ _. Ok w) (place (at_item at 1) j a h) (λ _. ok w)

two : (at : Place) (j k w : Kind) (a b : Result Kind CheckFault) → Faulty a → Faulty b → Faulty (two_operands at j k w a b)
two at j k w a b h g =
    bind (in_place (at_item at 1) j a) (λ _. in_place (at_item at 2) k b >>= λ _. Ok w) (place (at_item at 1) j a h)
    (λ _. bind (in_place (at_item at 2) k b) (λ _. Ok w) (place (at_item at 2) k b g) (λ _. ok w))

alike : (at : Place) (a b : Result Kind CheckFault) → Faulty a → Faulty b → Faulty (alike_operands at a b)
alike at a b h g =
    bind a (λ k. in_place (at_item at 2) k b >>= λ _. Ok BoolKind) h
    (λ k. bind (in_place (at_item at 2) k b) (λ _. Ok BoolKind) (place (at_item at 2) k b g) (λ _. ok BoolKind))

sides : (at : Place) (c a b : Result Kind CheckFault) → Faulty c → Faulty a → Faulty b → Faulty (sides_alike at c a b)
sides at c a b f h g =
    bind (in_place (at_item at 1) BoolKind c) (λ _. a >>= λ k. in_place (at_item at 3) k b >>= λ _. Ok k) (place (at_item at 1) BoolKind c f)
    (λ _. bind a (λ k. in_place (at_item at 3) k b >>= λ _. Ok k) h
    (λ k. bind (in_place (at_item at 3) k b) (λ _. Ok k) (place (at_item at 3) k b g) (λ _. ok k)))

mutual
  kind : (e : ExprForm) (at : Place) (scope : Scope) → Faulty (kind_at at scope e)
  kind (Literal v) at scope = literal at v
  kind (Var x) at scope = some (kind_named x scope) UnknownName at (λ e. cc)
  kind (Add a b) at scope =
      two at IntKind IntKind IntKind (kind_at (at_item at 1) scope a) (kind_at (at_item at 2) scope b) (kind a (at_item at 1) scope)
      (kind b (at_item at 2) scope)
  kind (Sub a b) at scope =
      two at IntKind IntKind IntKind (kind_at (at_item at 1) scope a) (kind_at (at_item at 2) scope b) (kind a (at_item at 1) scope)
      (kind b (at_item at 2) scope)
  kind (Mul a b) at scope =
      two at IntKind IntKind IntKind (kind_at (at_item at 1) scope a) (kind_at (at_item at 2) scope b) (kind a (at_item at 1) scope)
      (kind b (at_item at 2) scope)
  kind (Less a b) at scope =
      two at IntKind IntKind BoolKind (kind_at (at_item at 1) scope a) (kind_at (at_item at 2) scope b) (kind a (at_item at 1) scope)
      (kind b (at_item at 2) scope)
  kind (LessEq a b) at scope =
      two at IntKind IntKind BoolKind (kind_at (at_item at 1) scope a) (kind_at (at_item at 2) scope b) (kind a (at_item at 1) scope)
      (kind b (at_item at 2) scope)
  kind (Both a b) at scope =
      two at BoolKind BoolKind BoolKind (kind_at (at_item at 1) scope a) (kind_at (at_item at 2) scope b) (kind a (at_item at 1) scope)
      (kind b (at_item at 2) scope)
  kind (Either a b) at scope =
      two at BoolKind BoolKind BoolKind (kind_at (at_item at 1) scope a) (kind_at (at_item at 2) scope b) (kind a (at_item at 1) scope)
      (kind b (at_item at 2) scope)
  kind (Cat a b) at scope =
      two at TextKind TextKind TextKind (kind_at (at_item at 1) scope a) (kind_at (at_item at 2) scope b) (kind a (at_item at 1) scope)
      (kind b (at_item at 2) scope)
  kind (Union a b) at scope =
      two at PartiesKind PartiesKind PartiesKind (kind_at (at_item at 1) scope a) (kind_at (at_item at 2) scope b) (kind a (at_item at 1) scope)
      (kind b (at_item at 2) scope)
  kind (Has a b) at scope =
      two at PartiesKind PartyKind BoolKind (kind_at (at_item at 1) scope a) (kind_at (at_item at 2) scope b) (kind a (at_item at 1) scope)
      (kind b (at_item at 2) scope)
  kind (Equal a b) at scope =
      alike at (kind_at (at_item at 1) scope a) (kind_at (at_item at 2) scope b) (kind a (at_item at 1) scope) (kind b (at_item at 2) scope)
  kind (Negate a) at scope = one at BoolKind BoolKind (kind_at (at_item at 1) scope a) (kind a (at_item at 1) scope)
  kind (Cond c a b) at scope =
      sides at (kind_at (at_item at 1) scope c) (kind_at (at_item at 2) scope a) (kind_at (at_item at 3) scope b)
      (kind c (at_item at 1) scope) (kind a (at_item at 2) scope) (kind b (at_item at 3) scope)
  kind (SetOf es) at scope = bind (all_in_place at 1 scope PartyKind es) (λ _. Ok PartiesKind) (all es at 1 scope PartyKind) (λ _. ok PartiesKind)

  all : (es : ExprForms) (at : Place) (i : ℕ) (scope : Scope) (k : Kind) → Faulty (all_in_place at i scope k es)
  all NoExprs at i scope k = ok tt
  all (MoreExprs e es) at i scope k =
      bind (in_place (at_item at i) k (kind_at (at_item at i) scope e)) (λ _. all_in_place at (i + 1) scope k es)
      (place (at_item at i) k (kind_at (at_item at i) scope e) (kind e (at_item at i) scope)) (λ _. all es at (i + 1) scope k)

expr : (e : ExprForm) (at : Place) (scope : Scope) (k : Kind) → Faulty (expr_at at scope k e)
unfolding expr_at
expr e at scope k = place at k (kind_at at scope e) (kind e at scope)

kinds : (es : ExprForms) (at : Place) (i : ℕ) (scope : Scope) (before : List Kind) → Faulty (kinds_from at i scope before es)
kinds NoExprs at i scope before = ok before
kinds (MoreExprs e es) at i scope before =
    bind (kind_at (at_item at i) scope e) (λ k. kinds_from at (i + 1) scope (before ++ k ∷ []) es) (kind e (at_item at i) scope)
    (λ k. kinds es at (i + 1) scope (before ++ k ∷ []))

bound : (at : Place) (name : List ℕ) (k : Kind) (scope : Scope) → Faulty (bound_at at name k scope)
unfolding bound_at
bound at name k scope =
    bind (tried (not (is_among name (names_in scope))) DuplicateName at) (λ _. Ok (scope ++ (name, k) ∷ []))
    (test (not (is_among name (names_in scope))) DuplicateName at duplicate) (λ _. ok (scope ++ (name, k) ∷ []))

template : (at : Place) (name : TemplateName) (p : Packages) → Faulty (template_at at name p)
unfolding template_at
template at name p = some (template_in name p) UnknownTemplate at (λ e. cc)

choice : (at : Place) (t : TemplateForm) (name : List ℕ) → Faulty (choice_at at t name)
unfolding choice_at
choice at t name = some (option_map signature_of (choice_named t name)) UnknownChoice at (λ e. cc)

counted : (at : Place) (ks : List Kind) (ds : List FieldDecl) → Faulty (counted_at at ks ds)
unfolding counted_at
counted at ks ds = test (length ks == length ds) WrongCount at (λ e. cc)

fit : (ks : List Kind) (ds : List FieldDecl) (at : Place) (i : ℕ) → Faulty (fit_from at i ks ds)
fit [] [] at i = ok tt
fit [] (d ∷ ds) at i = ok tt
fit (k ∷ ks) [] at i = ok tt
fit (k ∷ ks) (d ∷ ds) at i =
    bind (tried (same_kind k d.kind) WrongKind (at_item at i)) (λ _. fit_from at (i + 1) ks ds)
    (test (same_kind k d.kind) WrongKind (at_item at i) wrong_kind) (λ _. fit ks ds at (i + 1))

create : (at : Place) (x : List ℕ) (t : TemplateName) (fields : ExprForms) (p : Packages) (scope : Scope) → Faulty (create_at at p x t fields scope)
unfolding create_at
create at x t fields p scope =
    let here = at_member at (codes "fields") in
    let last = bound_at (at_member at (codes "bind")) x ContractKind scope in
    bind (template_at (at_member at (codes "template")) t p)
    (λ template. kinds_from here 0 scope [] fields >>= λ kinds. counted_at here kinds template.fields >>= λ _. fit_from here 0 kinds template.fields >>=
    λ _. last)
    (template (at_member at (codes "template")) t p)
    (λ template. bind (kinds_from here 0 scope [] fields)
    (λ kinds. counted_at here kinds template.fields >>= λ _. fit_from here 0 kinds template.fields >>= λ _. last) (kinds fields here 0 scope [])
    (λ ks. bind (counted_at here ks template.fields) (λ _. fit_from here 0 ks template.fields >>= λ _. last) (counted here ks template.fields)
    (λ _. bind (fit_from here 0 ks template.fields) (λ _. last) (fit ks template.fields here 0)
    (λ _. bound (at_member at (codes "bind")) x ContractKind scope))))

exercise : (at : Place) (x : List ℕ) (t : TemplateName) (e : ExprForm) (c : List ℕ) (args : ExprForms) (p : Packages) (scope : Scope)
    → Faulty (exercise_at at p x t e c args scope)
unfolding exercise_at
exercise at x t e c args p scope =
    let here = at_member at (codes "args") in
    let there = at_member at (codes "contract") in
    let last = λ (k : Kind). bound_at (at_member at (codes "bind")) x k scope in
    bind (template_at (at_member at (codes "template")) t p)
    (λ template. choice_at (at_member at (codes "choice")) template c >>= λ signature. kind_at there scope e >>= λ kind. kinds_from here 0 scope [] args
    >>= λ kinds. counted_at here kinds signature.0 >>= λ _. tried (same_kind kind ContractKind) WrongKind there >>= λ _. fit_from here 0 kinds
    signature.0 >>= λ _. last signature.1)
    (template (at_member at (codes "template")) t p)
    (λ template. bind (choice_at (at_member at (codes "choice")) template c)
    (λ signature. kind_at there scope e >>= λ kind. kinds_from here 0 scope [] args >>= λ kinds. counted_at here kinds signature.0 >>= λ _. tried
    (same_kind kind ContractKind) WrongKind there >>= λ _. fit_from here 0 kinds signature.0 >>= λ _. last signature.1)
    (choice (at_member at (codes "choice")) template c)
    (λ s. bind (kind_at there scope e) (λ kind. kinds_from here 0 scope [] args >>= λ kinds. counted_at here kinds s.0 >>= λ _. tried
    (same_kind kind ContractKind) WrongKind there >>= λ _. fit_from here 0 kinds s.0 >>= λ _. last s.1)
    (kind e there scope)
    (λ j. bind (kinds_from here 0 scope [] args) (λ kinds. counted_at here kinds s.0 >>= λ _. tried (same_kind j ContractKind) WrongKind there >>= λ _.
    fit_from here 0 kinds s.0 >>= λ _. last s.1) (kinds args here 0 scope [])
    (λ ks. bind (counted_at here ks s.0) (λ _. tried (same_kind j ContractKind) WrongKind there >>= λ _. fit_from here 0 ks s.0 >>= λ _. last s.1)
    (counted here ks s.0)
    (λ _. bind (tried (same_kind j ContractKind) WrongKind there) (λ _. fit_from here 0 ks s.0 >>= λ _. last s.1)
    (test (same_kind j ContractKind) WrongKind there wrong_kind)
    (λ _. bind (fit_from here 0 ks s.0) (λ _. last s.1) (fit ks s.0 here 0)
    (λ _. bound (at_member at (codes "bind")) x s.1 scope)))))))

fetch : (at : Place) (x : List ℕ) (t : TemplateName) (e : ExprForm) (p : Packages) (scope : Scope) → Faulty (fetch_at at p x t e scope)
unfolding fetch_at
fetch at x t e p scope =
    let here = at_member at (codes "contract") in
    let there = at_member at (codes "bind") in
    bind (template_at (at_member at (codes "template")) t p)
    (λ template. expr_at here scope ContractKind e >>= λ _. tried (not (some_among (scope_of x template.fields) scope)) DuplicateName there >>= λ _. Ok
    (scope ++ scope_of x template.fields))
    (template (at_member at (codes "template")) t p)
    (λ template. bind (expr_at here scope ContractKind e)
    (λ _. tried (not (some_among (scope_of x template.fields) scope)) DuplicateName there >>= λ _. Ok (scope ++ scope_of x template.fields))
    (expr e here scope ContractKind)
    (λ _. bind (tried (not (some_among (scope_of x template.fields) scope)) DuplicateName there) (λ _. Ok (scope ++ scope_of x template.fields))
    (test (not (some_among (scope_of x template.fields) scope)) DuplicateName there duplicate) (λ _. ok (scope ++ scope_of x template.fields))))

bind_let : (at : Place) (x : List ℕ) (e : ExprForm) (scope : Scope) → Faulty (let_at at x e scope)
unfolding let_at
bind_let at x e scope =
    bind (kind_at (at_item at 1) scope e) (λ k. bound_at (at_item at 0) x k scope) (kind e (at_item at 1) scope) (λ k. bound (at_item at 0) x k scope)

assertion : (at : Place) (e : ExprForm) (scope : Scope) → Faulty (assert_at at e scope)
unfolding assert_at
assertion at e scope = bind (expr_at at scope BoolKind e) (λ _. Ok scope) (expr e at scope BoolKind) (λ _. ok scope)

mutual
  stmt : (s : StmtForm) (at : Place) (p : Packages) (scope : Scope) → Faulty (stmt_at at p s scope)
  stmt (Bind x e) at p scope = bind_let (at_member at (codes "let")) x e scope
  stmt (Assert e) at p scope = assertion (at_member at (codes "assert")) e scope
  stmt (Create x t fields) at p scope = create (at_member at (codes "create")) x t fields p scope
  stmt (Exercise x t e c args) at p scope = exercise (at_member at (codes "exercise")) x t e c args p scope
  stmt (Fetch x t e) at p scope = fetch (at_member at (codes "fetch")) x t e p scope
  stmt (When e first second) at p scope =
      let here = at_member (at_member at (codes "when")) (codes "if") in
      let yes_side = at_member (at_member at (codes "when")) (codes "then") in
      let no_side = at_member (at_member at (codes "when")) (codes "else") in
      bind (expr_at here scope BoolKind e) (λ _. stmts_from yes_side 0 p first scope >>= λ _. stmts_from no_side 0 p second scope >>= λ _. Ok scope)
      (expr e here scope BoolKind)
      (λ _. bind (stmts_from yes_side 0 p first scope) (λ _. stmts_from no_side 0 p second scope >>= λ _. Ok scope) (stmts first yes_side 0 p scope)
      (λ _. bind (stmts_from no_side 0 p second scope) (λ _. Ok scope) (stmts second no_side 0 p scope) (λ _. ok scope)))

  stmts : (ss : StmtForms) (at : Place) (i : ℕ) (p : Packages) (scope : Scope) → Faulty (stmts_from at i p ss scope)
  stmts NoStmts at i p scope = ok scope
  stmts (MoreStmts s ss) at i p scope =
      bind (stmt_at (at_item at i) p s scope) (λ after. stmts_from at (i + 1) p ss after) (stmt s (at_item at i) p scope) (λ after. stmts ss at (i + 1) p after)

named : (at : Place) (n : List ℕ) (taken : NameLists) → Faulty (named_at at n taken)
unfolding named_at
named at n taken =
    bind (tried (not (is_among n taken)) DuplicateName at) (λ _. Ok (taken ++ n ∷ [])) (test (not (is_among n taken)) DuplicateName at duplicate)
    (λ _. ok (taken ++ n ∷ []))

names : (ns : NameLists) (at : Place) (i : ℕ) (taken : NameLists) → Faulty (names_from at i taken ns)
names [] at i taken = ok tt
names (n ∷ ns) at i taken =
    bind (named_at (at_member (at_item at i) (codes "name")) n taken) (λ more. names_from at (i + 1) more ns)
    (named (at_member (at_item at i) (codes "name")) n taken)
    (λ more. names ns at (i + 1) more)

choice_name : (at : Place) (n : List ℕ) (taken : NameLists) → Faulty (choice_name_at at n taken)
unfolding choice_name_at
choice_name at n taken =
    bind (named_at at n taken) (λ more. tried (not (same_name archive_name n)) Reserved at >>= λ _. Ok more) (named at n taken)
    (λ more. bind (tried (not (same_name archive_name n)) Reserved at) (λ _. Ok more) (test (not (same_name archive_name n)) Reserved at (λ e. cc))
    (λ _. ok more))

choice_parties : (at : Place) (t : TemplateForm) (c : ChoiceForm) → Faulty (choice_parties_at at t c)
unfolding choice_parties_at
choice_parties at t c =
    bind (expr_at (at_member at (codes "controllers")) (choice_scope t c) PartiesKind c.controllers)
    (λ _. expr_at (at_member at (codes "observers")) (choice_scope t c) PartiesKind c.observers)
    (expr c.controllers (at_member at (codes "controllers")) (choice_scope t c) PartiesKind)
    (λ _. expr c.observers (at_member at (codes "observers")) (choice_scope t c) PartiesKind)

choice_body : (at : Place) (p : Packages) (t : TemplateForm) (c : ChoiceForm) → Faulty (choice_body_at at p t c)
unfolding choice_body_at
choice_body at p t c =
    bind (stmts_from (at_member at (codes "body")) 0 p c.body (body_scope t c)) (λ end. expr_at (at_member at (codes "result")) end c.returns c.result)
    (stmts c.body (at_member at (codes "body")) 0 p (body_scope t c)) (λ end. expr c.result (at_member at (codes "result")) end c.returns)

whole_choice : (at : Place) (p : Packages) (t : TemplateForm) (c : ChoiceForm) (taken : NameLists) → Faulty (choice_from at p t c taken)
unfolding choice_from
whole_choice at p t c taken =
    let params = names_from (at_member at (codes "params")) 0 [] (decl_names c.params) in
    bind (choice_name_at (at_member at (codes "name")) c.name taken)
    (λ more. params >>= λ _. choice_parties_at at t c >>= λ _. choice_body_at at p t c >>= λ _. Ok more)
    (choice_name (at_member at (codes "name")) c.name taken)
    (λ more. bind params (λ _. choice_parties_at at t c >>= λ _. choice_body_at at p t c >>= λ _. Ok more)
    (names (decl_names c.params) (at_member at (codes "params")) 0 [])
    (λ _. bind (choice_parties_at at t c) (λ _. choice_body_at at p t c >>= λ _. Ok more) (choice_parties at t c)
    (λ _. bind (choice_body_at at p t c) (λ _. Ok more) (choice_body at p t c) (λ _. ok more))))

choices : (cs : List ChoiceForm) (at : Place) (i : ℕ) (p : Packages) (t : TemplateForm) (taken : NameLists) → Faulty (choices_from at i p t taken cs)
choices [] at i p t taken = ok tt
choices (c ∷ cs) at i p t taken =
    bind (choice_from (at_item at i) p t c taken) (λ more. choices_from at (i + 1) p t more cs) (whole_choice (at_item at i) p t c taken)
    (λ more. choices cs at (i + 1) p t more)

stakeholders : (at : Place) (t : TemplateForm) → Faulty (template_parties_at at t)
unfolding template_parties_at
stakeholders at t =
    bind (expr_at (at_member at (codes "signatories")) (this_scope t) PartiesKind t.signatories)
    (λ _. expr_at (at_member at (codes "observers")) (this_scope t) PartiesKind t.observers)
    (expr t.signatories (at_member at (codes "signatories")) (this_scope t) PartiesKind)
    (λ _. expr t.observers (at_member at (codes "observers")) (this_scope t) PartiesKind)

exprs : (at : Place) (t : TemplateForm) → Faulty (template_exprs_at at t)
unfolding template_exprs_at
exprs at t =
    bind (expr_at (at_member at (codes "ensure")) (this_scope t) BoolKind t.ensure) (λ _. template_parties_at at t)
    (expr t.ensure (at_member at (codes "ensure")) (this_scope t) BoolKind) (λ _. stakeholders at t)

whole_template : (at : Place) (p : Packages) (t : TemplateForm) → Faulty (template_from at p t)
unfolding template_from
whole_template at p t =
    let choices_of = choices_from (at_member at (codes "choices")) 0 p t [] t.choices in
    bind (names_from (at_member at (codes "fields")) 0 [] (decl_names t.fields)) (λ _. template_exprs_at at t >>= λ _. choices_of)
    (names (decl_names t.fields) (at_member at (codes "fields")) 0 [])
    (λ _. bind (template_exprs_at at t) (λ _. choices_of) (exprs at t) (λ _. choices t.choices (at_member at (codes "choices")) 0 p t []))

templates : (ts : List TemplateForm) (at : Place) (i : ℕ) (p : Packages) → Faulty (templates_from at i p ts)
templates [] at i p = ok tt
templates (t ∷ ts) at i p = bind (template_from (at_item at i) p t) (λ _. templates_from at (i + 1) p ts) (whole_template (at_item at i) p t)
    (λ _. templates ts at (i + 1) p)

whole_package : (at : Place) (before : Packages) (p : PackageForm) → Faulty (package_from at before p)
unfolding package_from
whole_package at before p =
    let here = at_member at (codes "templates") in
    let again = is_among p.name (package_names before) in
    let templates_of = templates_from here 0 (before ++ p ∷ []) p.templates in
    bind (tried (not again) DuplicateName (at_member at (codes "name"))) (λ _. names_from here 0 [] (template_names p.templates) >>= λ _. templates_of)
    (test (not again) DuplicateName (at_member at (codes "name")) duplicate)
    (λ _. bind (names_from here 0 [] (template_names p.templates)) (λ _. templates_of) (names (template_names p.templates) here 0 [])
    (λ _. templates p.templates here 0 (before ++ p ∷ [])))

packages : (ps : Packages) (i : ℕ) (before : Packages) → Faulty (packages_from i before ps)
packages [] i before = ok tt
packages (p ∷ ps) i before =
    bind (package_from (at_item [] i) before p) (λ _. packages_from (i + 1) (before ++ p ∷ []) ps) (whole_package (at_item [] i) before p)
    (λ _. packages ps (i + 1) (before ++ p ∷ []))

faulty : {A : Type 0} (r : Result A CheckFault) (f : CheckFault) → Faulty r → r ≡ Err f → f.kind ≢ Memory
unfolding Faulty
faulty (Ok v) f h e = absurd (let other : Ok v ≡ Err f = e in cc)
faulty (Err g) f h e = let same : g ≡ f = cc in subst (λ (f : CheckFault). f.kind ≢ Memory) same h

pub walk_faulty : (ps : Packages) (f : CheckFault) → walk ps ≡ Err f → f.kind ≢ Memory
unfolding walk
walk_faulty ps f e = faulty (packages_from 0 (note_form ∷ []) ps) f (packages ps 0 (note_form ∷ [])) e
