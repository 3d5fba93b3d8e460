-- Names that are bound, as kinds, and the values of a list of expressions.
use Rattle.std.proofs.Common.{◌≡◌, ℕ, Bool, true, false, List, [], ◌∷◌, ◌++◌, Result, Ok, refl, sym, ◌∙◌, ap, append_assoc, append-nil}
use Rattle.std.specs.Prelude.{◌&&◌, codes}
use Rattle.ledger_terms.specs.declared.kind.Kind.{Kind}
use Rattle.ledger_terms.specs.declared.value.Value.{Value}
use Rattle.ledger_terms.specs.declared.field_decl.FieldDecl.{FieldDecl}
use Rattle.ledger_terms.specs.Syntax.{ExprForms, NoExprs, MoreExprs}
use Rattle.lang_eval.specs.declared.eval_fault.EvalFault.{EvalFault}
use Rattle.lang_eval.specs.Names.{Names, bound_to, with_fields}
use Rattle.lang_eval.specs.Value.{val, vals, with_value}
use Rattle.lang_eval.specs.Kinds.{kind_of, have_kinds}
use Rattle.lang_eval.specs.Typed.{Scope, scope_of, HaveKindsOf}
use Rattle.lang_check.specs.Walk.{same_kind}
use Rattle.lang_check.specs.KindedNames.{named_kind, kinds_in}
use Rattle.lang_check.proofs.Steps.{same_kind-true, same_kind-refl}
use Rattle.lang_check.proofs.Valued.{with_value_ok, val_kind}

and_first : (a b : Bool) → (a && b) ≡ true → a ≡ true
and_first true b h = refl
and_first false b h = h

and_second : (a b : Bool) → (a && b) ≡ true → b ≡ true
and_second true b h = h
and_second false b h = absurd (let other : false ≡ true = h in cc)

and_both : (a b : Bool) → a ≡ true → b ≡ true → (a && b) ≡ true
and_both a b h k = rw h k

pub kinds_bound : (names : Names) (x : List ℕ) (v : Value) → kinds_in (bound_to x v names) ≡ kinds_in names ++ (x, kind_of v) ∷ []
kinds_bound [] x v = refl
kinds_bound (b ∷ names) x v = ap (λ (s : Scope). named_kind b ∷ s) (kinds_bound names x v)

pub kinds_with_fields : (ds : List FieldDecl) (vs : List Value) (first : List ℕ) (names : Names) → have_kinds vs ds ≡ true
    → kinds_in (with_fields first ds vs names) ≡ kinds_in names ++ scope_of first ds
kinds_with_fields [] [] first names h = sym (append-nil (kinds_in names))
kinds_with_fields [] (v ∷ vs) first names h = absurd (let other : false ≡ true = h in cc)
kinds_with_fields (d ∷ ds) [] first names h = absurd (let other : false ≡ true = h in cc)
kinds_with_fields (d ∷ ds) (v ∷ vs) first names h =
    let field = first ++ codes "." ++ d.name in
    let same : kind_of v ≡ d.kind = same_kind-true (kind_of v) d.kind (and_first (same_kind (kind_of v) d.kind) (have_kinds vs ds) h) in
    let rest = kinds_with_fields ds vs first (bound_to field v names) (and_second (same_kind (kind_of v) d.kind) (have_kinds vs ds) h) in
    rest ∙ (ap (λ (s : Scope). s ++ scope_of first ds) (kinds_bound names field v)
    ∙ (append_assoc (kinds_in names) ((field, kind_of v) ∷ []) (scope_of first ds)
    ∙ ap (λ (k : Kind). kinds_in names ++ (field, k) ∷ scope_of first ds) same))

pub vals_kinds : (es : ExprForms) (names : Names) (ds : List FieldDecl) (vs : List Value) → HaveKindsOf es (kinds_in names) ds → vals es names ≡ Ok vs
    → have_kinds vs ds ≡ true
vals_kinds NoExprs names [] vs t h = let none : [] ≡ vs = cc in rw (← none) refl
vals_kinds NoExprs names (d ∷ ds) vs t h = absurd t
vals_kinds (MoreExprs e es) names [] vs t h = absurd t
vals_kinds (MoreExprs e es) names (d ∷ ds) vs t h =
    let g = with_value_ok (val e names) (λ v. with_value (vals es names) (λ ws. Ok (v ∷ ws))) vs h in
    let f = with_value_ok (vals es names) (λ ws. Ok (g.0 ∷ ws)) vs g.2 in
    let whole : g.0 ∷ f.0 ≡ vs = listed (g.0 ∷ f.0) vs f.2 in
    rw (← whole) (and_both (same_kind (kind_of g.0) d.kind) (have_kinds f.0 ds) (rw (val_kind e names d.kind g.0 t.0 g.1) (same_kind-refl d.kind))
    (vals_kinds es names ds f.0 t.1 f.1)) where
      listed : (a b : List Value) → (let r : Result (List Value) EvalFault = Ok a in r ≡ Ok b) → a ≡ b
      listed a b h = cc
