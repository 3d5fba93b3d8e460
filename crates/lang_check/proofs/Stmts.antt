-- The walk of statements ends with a scope exactly where they are well typed up to it.
use Rattle.std.proofs.Common.{◌≡◌, ℕ, ◌+◌, List, [], ◌∷◌, ◌++◌, Option, Some, None, Ok, refl, sym, ◌∙◌, ap, subst}
use Rattle.std.specs.Prelude.{not, option_map, codes}
use Rattle.ledger_terms.specs.Pointers.{at_item, at_member}
use Rattle.ledger_terms.specs.declared.kind.Kind.{Kind}
use Rattle.ledger_terms.specs.declared.kind.Kind.TheVariants.{Bool as BoolKind, Contract as ContractKind}
use Rattle.ledger_terms.specs.declared.field_decl.FieldDecl.{FieldDecl}
use Rattle.ledger_terms.specs.declared.template_name.TemplateName.{TemplateName}
use Rattle.ledger_terms.specs.Syntax.{ExprForm, ExprForms, StmtForm, StmtForms, Bind, Assert, Create, Exercise, Fetch, When, NoStmts, MoreStmts}
use Rattle.ledger_terms.specs.Packages.{TemplateForm, ChoiceForm}
use Rattle.lang_eval.specs.Found.{Packages, template_in}
use Rattle.lang_eval.specs.Typed.{Scope, names_in, scope_of, choice_named, IsNew, HaveKindsOf, IsTyped, AreTyped}
use Rattle.lang_check.specs.declared.check_kind.CheckKind.TheVariants.{DuplicateName, UnknownTemplate, UnknownChoice, WrongKind}
use Rattle.lang_check.specs.Faults.{Place, fault, ◌>>=◌, tried}
use Rattle.lang_check.specs.Walk.{same_kind, kind_at, expr_at, kinds_from}
use Rattle.lang_check.specs.Statements.{is_among, some_among, bound_at, template_at, signature_of, choice_at, counted_at, fit_from, let_at, assert_at, create_at, exercise_at, fetch_at, stmt_at, stmts_from}
use Rattle.lang_check.proofs.Steps.{ok_same, ok_of, bind_ok, bind_is, tried_ok, tried_is, ok_or_ok, ok_or_is, not_true, not_false, same_kind-true, same_kind-refl}
use Rattle.lang_check.proofs.Exprs.{kind_sound, kind_complete, expr_sound, expr_complete}
use Rattle.lang_check.proofs.Lists.{counted_fit, declared_kinds, kinds_are, counted_are, fit_are, new_together, none_among}

bound_ok : (at : Place) (name : List ℕ) (kind : Kind) (scope after : Scope) → bound_at at name kind scope ≡ Ok after
    → IsNew name (names_in scope) × (after ≡ scope ++ (name, kind) ∷ [])
unfolding bound_at
bound_ok at name kind scope after h =
    let g = bind_ok (tried (not (is_among name (names_in scope))) DuplicateName at) (λ _. Ok (scope ++ (name, kind) ∷ [])) after h in (
      not_true (is_among name (names_in scope)) (tried_ok (not (is_among name (names_in scope))) DuplicateName at g.0 g.1),
      sym (ok_same (scope ++ (name, kind) ∷ []) after g.2),
    )

bound_is : (at : Place) (name : List ℕ) (kind : Kind) (scope after : Scope) → IsNew name (names_in scope) → after ≡ scope ++ (name, kind) ∷ []
    → bound_at at name kind scope ≡ Ok after
unfolding bound_at
bound_is at name kind scope after h e =
    bind_is (tried (not (is_among name (names_in scope))) DuplicateName at) (λ _. Ok (scope ++ (name, kind) ∷ [])) tt after
    (tried_is (not (is_among name (names_in scope))) DuplicateName at (not_false (is_among name (names_in scope)) h))
    (ok_of (scope ++ (name, kind) ∷ []) after (sym e))

template_ok : (at : Place) (name : TemplateName) (p : Packages) (t : TemplateForm) → template_at at name p ≡ Ok t → template_in name p ≡ Some t
unfolding template_at
template_ok at name p t h = ok_or_ok (template_in name p) (fault UnknownTemplate at) t h

template_is : (at : Place) (name : TemplateName) (p : Packages) (t : TemplateForm) → template_in name p ≡ Some t → template_at at name p ≡ Ok t
unfolding template_at
template_is at name p t h = ok_or_is (template_in name p) (fault UnknownTemplate at) t h

signed : (o : Option ChoiceForm) (s : List FieldDecl × Kind) → option_map signature_of o ≡ Some s
    → (c : ChoiceForm) × (o ≡ Some c) × (s ≡ (c.params, c.returns))
signed (Some c) s h = (c, refl, let same : signature_of c ≡ s = cc in sym same)
signed None s h = absurd (let r : Option (List FieldDecl × Kind) = None in let other : r ≡ Some s = h in cc)

choice_ok : (at : Place) (t : TemplateForm) (name : List ℕ) (s : List FieldDecl × Kind) → choice_at at t name ≡ Ok s
    → (c : ChoiceForm) × (choice_named t name ≡ Some c) × (s ≡ (c.params, c.returns))
unfolding choice_at
choice_ok at t name s h = signed (choice_named t name) s (ok_or_ok (option_map signature_of (choice_named t name)) (fault UnknownChoice at) s h)

choice_is : (at : Place) (t : TemplateForm) (name : List ℕ) (c : ChoiceForm) → choice_named t name ≡ Some c → choice_at at t name ≡ Ok (c.params, c.returns)
unfolding choice_at
choice_is at t name c h = ok_or_is (option_map signature_of (choice_named t name)) (fault UnknownChoice at) (c.params, c.returns)
    (ap (option_map signature_of) h)

let_ok : (at : Place) (x : List ℕ) (e : ExprForm) (p : Packages) (scope after : Scope) → let_at at x e scope ≡ Ok after → IsTyped (Bind x e) p scope after
unfolding let_at
let_ok at x e p scope after h =
    let g = bind_ok (kind_at (at_item at 1) scope e) (λ k. bound_at (at_item at 0) x k scope) after h in
    let f = bound_ok (at_item at 0) x g.0 scope after g.2 in
    (g.0, kind_sound e (at_item at 1) scope g.0 g.1, f.0, f.1)

let_is : (at : Place) (x : List ℕ) (e : ExprForm) (p : Packages) (scope after : Scope) → IsTyped (Bind x e) p scope after → let_at at x e scope ≡ Ok after
unfolding let_at
let_is at x e p scope after h =
    bind_is (kind_at (at_item at 1) scope e) (λ k. bound_at (at_item at 0) x k scope) h.0 after (kind_complete e (at_item at 1) scope h.0 h.1)
    (bound_is (at_item at 0) x h.0 scope after h.2 h.3)

assert_ok : (at : Place) (e : ExprForm) (p : Packages) (scope after : Scope) → assert_at at e scope ≡ Ok after → IsTyped (Assert e) p scope after
unfolding assert_at
assert_ok at e p scope after h =
    let g = bind_ok (expr_at at scope BoolKind e) (λ _. Ok scope) after h in
    (expr_sound e at scope BoolKind g.0 g.1, sym (ok_same scope after g.2))

assert_is : (at : Place) (e : ExprForm) (p : Packages) (scope after : Scope) → IsTyped (Assert e) p scope after → assert_at at e scope ≡ Ok after
unfolding assert_at
assert_is at e p scope after h =
    bind_is (expr_at at scope BoolKind e) (λ _. Ok scope) tt after (expr_complete e at scope BoolKind h.0) (ok_of scope after (sym h.1))

create_ok : (at : Place) (x : List ℕ) (t : TemplateName) (fields : ExprForms) (p : Packages) (scope after : Scope)
    → create_at at p x t fields scope ≡ Ok after → IsTyped (Create x t fields) p scope after
unfolding create_at
create_ok at x t fields p scope after h =
    let here = at_member at (codes "fields") in
    let last = bound_at (at_member at (codes "bind")) x ContractKind scope in
    let a = bind_ok (template_at (at_member at (codes "template")) t p)
    (λ template. kinds_from here 0 scope [] fields >>= λ kinds. counted_at here kinds template.fields >>= λ _. fit_from here 0 kinds template.fields
    >>= λ _. last) after h in
    let b = bind_ok (kinds_from here 0 scope [] fields) (λ kinds. counted_at here kinds a.0.fields >>= λ _. fit_from here 0 kinds a.0.fields >>= λ _. last)
    after a.2 in
    let c = bind_ok (counted_at here b.0 a.0.fields) (λ _. fit_from here 0 b.0 a.0.fields >>= λ _. last) after b.2 in
    let d = bind_ok (fit_from here 0 b.0 a.0.fields) (λ _. last) after c.2 in
    let f = bound_ok (at_member at (codes "bind")) x ContractKind scope after d.2 in
    (a.0, template_ok (at_member at (codes "template")) t p a.0 a.1, counted_fit fields here scope b.0 a.0.fields c.0 d.0 b.1 c.1 d.1, f.0, f.1)

create_is : (at : Place) (x : List ℕ) (t : TemplateName) (fields : ExprForms) (p : Packages) (scope after : Scope)
    → IsTyped (Create x t fields) p scope after → create_at at p x t fields scope ≡ Ok after
unfolding create_at
create_is at x t fields p scope after h =
    let here = at_member at (codes "fields") in
    let last = bound_at (at_member at (codes "bind")) x ContractKind scope in
    let ks = declared_kinds h.0.fields in
    bind_is (template_at (at_member at (codes "template")) t p)
    (λ template. kinds_from here 0 scope [] fields >>= λ kinds. counted_at here kinds template.fields >>= λ _. fit_from here 0 kinds template.fields >>=
    λ _. last) h.0 after
    (template_is (at_member at (codes "template")) t p h.0 h.1)
    (bind_is (kinds_from here 0 scope [] fields) (λ kinds. counted_at here kinds h.0.fields >>= λ _. fit_from here 0 kinds h.0.fields >>= λ _. last) ks after
    (kinds_are fields h.0.fields here scope h.2)
    (bind_is (counted_at here ks h.0.fields) (λ _. fit_from here 0 ks h.0.fields >>= λ _. last) tt after (counted_are h.0.fields here)
    (bind_is (fit_from here 0 ks h.0.fields) (λ _. last) tt after (fit_are h.0.fields here 0)
    (bound_is (at_member at (codes "bind")) x ContractKind scope after h.3 h.4))))

exercise_ok : (at : Place) (x : List ℕ) (t : TemplateName) (e : ExprForm) (choice : List ℕ) (args : ExprForms) (p : Packages) (scope after : Scope)
    → exercise_at at p x t e choice args scope ≡ Ok after → IsTyped (Exercise x t e choice args) p scope after
unfolding exercise_at
exercise_ok at x t e choice args p scope after h =
    let here = at_member at (codes "args") in
    let there = at_member at (codes "contract") in
    let last = λ (k : Kind). bound_at (at_member at (codes "bind")) x k scope in
    let a = bind_ok (template_at (at_member at (codes "template")) t p)
    (λ template. choice_at (at_member at (codes "choice")) template choice >>= λ signature. kind_at there scope e >>= λ kind. kinds_from here 0 scope
    [] args >>= λ kinds. counted_at here kinds signature.0 >>= λ _. tried (same_kind kind ContractKind) WrongKind there >>= λ _. fit_from here 0 kinds
    signature.0 >>= λ _. last signature.1) after h in
    let b = bind_ok (choice_at (at_member at (codes "choice")) a.0 choice)
    (λ signature. kind_at there scope e >>= λ kind. kinds_from here 0 scope [] args >>= λ kinds. counted_at here kinds signature.0 >>= λ _. tried
    (same_kind kind ContractKind) WrongKind there >>= λ _. fit_from here 0 kinds signature.0 >>= λ _. last signature.1) after a.2 in
    let c = bind_ok (kind_at there scope e) (λ kind. kinds_from here 0 scope [] args >>= λ kinds. counted_at here kinds b.0.0 >>= λ _. tried
    (same_kind kind ContractKind) WrongKind there >>= λ _. fit_from here 0 kinds b.0.0 >>= λ _. last b.0.1) after b.2 in
    let d = bind_ok (kinds_from here 0 scope [] args) (λ kinds. counted_at here kinds b.0.0 >>= λ _. tried (same_kind c.0 ContractKind) WrongKind there >>=
    λ _. fit_from here 0 kinds b.0.0 >>= λ _. last b.0.1) after c.2 in
    let f = bind_ok (counted_at here d.0 b.0.0) (λ _. tried (same_kind c.0 ContractKind) WrongKind there >>= λ _. fit_from here 0 d.0 b.0.0 >>= λ _. last
    b.0.1) after d.2 in
    let g = bind_ok (tried (same_kind c.0 ContractKind) WrongKind there) (λ _. fit_from here 0 d.0 b.0.0 >>= λ _. last b.0.1) after f.2 in
    let i = bind_ok (fit_from here 0 d.0 b.0.0) (λ _. last b.0.1) after g.2 in
    let s = choice_ok (at_member at (codes "choice")) a.0 choice b.0 b.1 in
    let fits = counted_fit args here scope d.0 b.0.0 f.0 i.0 d.1 f.1 i.1 in
    let is_contract = c.1 ∙ ok_of c.0 ContractKind (same_kind-true c.0 ContractKind (tried_ok (same_kind c.0 ContractKind) WrongKind there g.0 g.1)) in
    let j = bound_ok (at_member at (codes "bind")) x b.0.1 scope after i.2 in (
      a.0,
      template_ok (at_member at (codes "template")) t p a.0 a.1,
      s.0,
      s.1,
      kind_sound e there scope ContractKind is_contract,
      subst (λ (w : List FieldDecl × Kind). HaveKindsOf args scope w.0) s.2 fits,
      j.0,
      subst (λ (w : List FieldDecl × Kind). after ≡ scope ++ (x, w.1) ∷ []) s.2 j.1,
    )

exercise_is : (at : Place) (x : List ℕ) (t : TemplateName) (e : ExprForm) (choice : List ℕ) (args : ExprForms) (p : Packages) (scope after : Scope)
    → IsTyped (Exercise x t e choice args) p scope after → exercise_at at p x t e choice args scope ≡ Ok after
unfolding exercise_at
exercise_is at x t e choice args p scope after h =
    let here = at_member at (codes "args") in
    let there = at_member at (codes "contract") in
    let last = λ (k : Kind). bound_at (at_member at (codes "bind")) x k scope in
    let ds = h.2.params in
    let ks = declared_kinds h.2.params in
    bind_is (template_at (at_member at (codes "template")) t p)
    (λ template. choice_at (at_member at (codes "choice")) template choice >>= λ signature. kind_at there scope e >>= λ kind. kinds_from here 0 scope []
    args >>= λ kinds. counted_at here kinds signature.0 >>= λ _. tried (same_kind kind ContractKind) WrongKind there >>= λ _. fit_from here 0 kinds
    signature.0 >>= λ _. last signature.1) h.0 after
    (template_is (at_member at (codes "template")) t p h.0 h.1)
    (bind_is (choice_at (at_member at (codes "choice")) h.0 choice)
    (λ signature. kind_at there scope e >>= λ kind. kinds_from here 0 scope [] args >>= λ kinds. counted_at here kinds signature.0 >>= λ _. tried
    (same_kind kind ContractKind) WrongKind there >>= λ _. fit_from here 0 kinds signature.0 >>= λ _. last signature.1) (ds, h.2.returns) after
    (choice_is (at_member at (codes "choice")) h.0 choice h.2 h.3)
    (bind_is (kind_at there scope e) (λ kind. kinds_from here 0 scope [] args >>= λ kinds. counted_at here kinds ds >>= λ _. tried
    (same_kind kind ContractKind) WrongKind there >>= λ _. fit_from here 0 kinds ds >>= λ _. last h.2.returns) ContractKind after
    (kind_complete e there scope ContractKind h.4)
    (bind_is (kinds_from here 0 scope [] args) (λ kinds. counted_at here kinds ds >>= λ _. tried (same_kind ContractKind ContractKind) WrongKind there >>=
    λ _. fit_from here 0 kinds ds >>= λ _. last h.2.returns) ks after (kinds_are args ds here scope h.5)
    (bind_is (counted_at here ks ds) (λ _. tried (same_kind ContractKind ContractKind) WrongKind there >>= λ _. fit_from here 0 ks ds >>= λ _. last
    h.2.returns) tt after (counted_are ds here)
    (bind_is (tried (same_kind ContractKind ContractKind) WrongKind there) (λ _. fit_from here 0 ks ds >>= λ _. last h.2.returns) tt after
    (tried_is (same_kind ContractKind ContractKind) WrongKind there (same_kind-refl ContractKind))
    (bind_is (fit_from here 0 ks ds) (λ _. last h.2.returns) tt after (fit_are ds here 0)
    (bound_is (at_member at (codes "bind")) x h.2.returns scope after h.6 h.7)))))))

fetch_ok : (at : Place) (x : List ℕ) (t : TemplateName) (e : ExprForm) (p : Packages) (scope after : Scope) → fetch_at at p x t e scope ≡ Ok after
    → IsTyped (Fetch x t e) p scope after
unfolding fetch_at
fetch_ok at x t e p scope after h =
    let here = at_member at (codes "contract") in
    let there = at_member at (codes "bind") in
    let a = bind_ok (template_at (at_member at (codes "template")) t p)
    (λ template. expr_at here scope ContractKind e >>= λ _. tried (not (some_among (scope_of x template.fields) scope)) DuplicateName there >>= λ _. Ok
    (scope ++ scope_of x template.fields)) after h in
    let bound = scope_of x a.0.fields in
    let b = bind_ok (expr_at here scope ContractKind e) (λ _. tried (not (some_among bound scope)) DuplicateName there >>= λ _. Ok (scope ++ bound)) after
    a.2 in
    let c = bind_ok (tried (not (some_among bound scope)) DuplicateName there) (λ _. Ok (scope ++ bound)) after b.2 in (
      a.0,
      template_ok (at_member at (codes "template")) t p a.0 a.1,
      expr_sound e here scope ContractKind b.0 b.1,
      new_together bound scope (not_true (some_among bound scope) (tried_ok (not (some_among bound scope)) DuplicateName there c.0 c.1)),
      sym (ok_same (scope ++ bound) after c.2),
    )

fetch_is : (at : Place) (x : List ℕ) (t : TemplateName) (e : ExprForm) (p : Packages) (scope after : Scope) → IsTyped (Fetch x t e) p scope after
    → fetch_at at p x t e scope ≡ Ok after
unfolding fetch_at
fetch_is at x t e p scope after h =
    let here = at_member at (codes "contract") in
    let there = at_member at (codes "bind") in
    let bound = scope_of x h.0.fields in
    bind_is (template_at (at_member at (codes "template")) t p)
    (λ template. expr_at here scope ContractKind e >>= λ _. tried (not (some_among (scope_of x template.fields) scope)) DuplicateName there >>= λ _. Ok
    (scope ++ scope_of x template.fields)) h.0 after
    (template_is (at_member at (codes "template")) t p h.0 h.1)
    (bind_is (expr_at here scope ContractKind e) (λ _. tried (not (some_among bound scope)) DuplicateName there >>= λ _. Ok (scope ++ bound)) tt after
    (expr_complete e here scope ContractKind h.2)
    (bind_is (tried (not (some_among bound scope)) DuplicateName there) (λ _. Ok (scope ++ bound)) tt after
    (tried_is (not (some_among bound scope)) DuplicateName there (not_false (some_among bound scope) (none_among bound scope h.3)))
    (ok_of (scope ++ bound) after (sym h.4))))

mutual
  pub stmt_sound : (s : StmtForm) (at : Place) (p : Packages) (scope after : Scope) → stmt_at at p s scope ≡ Ok after → IsTyped s p scope after
  stmt_sound (Bind x e) at p scope after h = let_ok (at_member at (codes "let")) x e p scope after h
  stmt_sound (Assert e) at p scope after h = assert_ok (at_member at (codes "assert")) e p scope after h
  stmt_sound (Create x t fields) at p scope after h = create_ok (at_member at (codes "create")) x t fields p scope after h
  stmt_sound (Exercise x t e choice args) at p scope after h = exercise_ok (at_member at (codes "exercise")) x t e choice args p scope after h
  stmt_sound (Fetch x t e) at p scope after h = fetch_ok (at_member at (codes "fetch")) x t e p scope after h
  stmt_sound (When e first second) at p scope after h =
      let test = at_member (at_member at (codes "when")) (codes "if") in
      let yes_side = at_member (at_member at (codes "when")) (codes "then") in
      let no_side = at_member (at_member at (codes "when")) (codes "else") in
      let a = bind_ok (expr_at test scope BoolKind e) (λ _. stmts_from yes_side 0 p first scope >>= λ _. stmts_from no_side 0 p second scope >>= λ _. Ok
      scope) after h in
      let b = bind_ok (stmts_from yes_side 0 p first scope) (λ _. stmts_from no_side 0 p second scope >>= λ _. Ok scope) after a.2 in
      let c = bind_ok (stmts_from no_side 0 p second scope) (λ _. Ok scope) after b.2 in (
        expr_sound e test scope BoolKind a.0 a.1,
        (b.0, stmts_sound first yes_side 0 p scope b.0 b.1),
        (c.0, stmts_sound second no_side 0 p scope c.0 c.1),
        sym (ok_same scope after c.2),
      )

  pub stmts_sound : (ss : StmtForms) (at : Place) (i : ℕ) (p : Packages) (scope after : Scope) → stmts_from at i p ss scope ≡ Ok after
      → AreTyped ss p scope after
  stmts_sound NoStmts at i p scope after h = sym (ok_same scope after h)
  stmts_sound (MoreStmts s ss) at i p scope after h =
      let g = bind_ok (stmt_at (at_item at i) p s scope) (λ between. stmts_from at (i + 1) p ss between) after h in
      (g.0, stmt_sound s (at_item at i) p scope g.0 g.1, stmts_sound ss at (i + 1) p g.0 after g.2)

mutual
  pub stmt_complete : (s : StmtForm) (at : Place) (p : Packages) (scope after : Scope) → IsTyped s p scope after → stmt_at at p s scope ≡ Ok after
  stmt_complete (Bind x e) at p scope after h = let_is (at_member at (codes "let")) x e p scope after h
  stmt_complete (Assert e) at p scope after h = assert_is (at_member at (codes "assert")) e p scope after h
  stmt_complete (Create x t fields) at p scope after h = create_is (at_member at (codes "create")) x t fields p scope after h
  stmt_complete (Exercise x t e choice args) at p scope after h = exercise_is (at_member at (codes "exercise")) x t e choice args p scope after h
  stmt_complete (Fetch x t e) at p scope after h = fetch_is (at_member at (codes "fetch")) x t e p scope after h
  stmt_complete (When e first second) at p scope after h =
      let test = at_member (at_member at (codes "when")) (codes "if") in
      let yes_side = at_member (at_member at (codes "when")) (codes "then") in
      let no_side = at_member (at_member at (codes "when")) (codes "else") in
      bind_is (expr_at test scope BoolKind e) (λ _. stmts_from yes_side 0 p first scope >>= λ _. stmts_from no_side 0 p second scope >>= λ _. Ok scope) tt
      after (expr_complete e test scope BoolKind h.0)
      (bind_is (stmts_from yes_side 0 p first scope) (λ _. stmts_from no_side 0 p second scope >>= λ _. Ok scope) h.1.0 after
      (stmts_complete first yes_side 0 p scope h.1.0 h.1.1)
      (bind_is (stmts_from no_side 0 p second scope) (λ _. Ok scope) h.2.0 after (stmts_complete second no_side 0 p scope h.2.0 h.2.1)
      (ok_of scope after (sym h.3))))

  pub stmts_complete : (ss : StmtForms) (at : Place) (i : ℕ) (p : Packages) (scope after : Scope) → AreTyped ss p scope after
      → stmts_from at i p ss scope ≡ Ok after
  stmts_complete NoStmts at i p scope after h = ok_of scope after (sym h)
  stmts_complete (MoreStmts s ss) at i p scope after h =
      bind_is (stmt_at (at_item at i) p s scope) (λ between. stmts_from at (i + 1) p ss between) h.0 after
      (stmt_complete s (at_item at i) p scope h.0 h.1) (stmts_complete ss at (i + 1) p h.0 after h.2)
