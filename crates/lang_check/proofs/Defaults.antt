-- What is well typed takes no default.
use Rattle.std.proofs.Common.{◌≡◌, ℕ, Bool, true, false, cond, List, [], ◌∷◌, length, take, Option, Some, None, Ok, refl, sym, ◌∙◌, subst}
use Rattle.ledger_terms.specs.Parties.{same_name}
use Rattle.ledger_terms.specs.declared.kind.Kind.{Kind}
use Rattle.ledger_terms.specs.declared.kind.Kind.TheVariants.{Int as IntKind, Bool as BoolKind, Text as TextKind, Party as PartyKind, Contract as ContractKind, Parties as PartiesKind}
use Rattle.ledger_terms.specs.declared.value.Value.TheVariants.{Bool as BoolValue}
use Rattle.ledger_terms.specs.declared.field_decl.FieldDecl.{FieldDecl}
use Rattle.ledger_terms.specs.declared.template_name.TemplateName.{TemplateName}
use Rattle.ledger_terms.specs.Syntax.{ExprForm, ExprForms, Literal, Var, Add, Sub, Mul, Less, LessEq, Equal, Both, Either, Negate, Cond, Cat, SetOf, Union, Has, NoExprs, MoreExprs, StmtForm, StmtForms, Bind, Assert, Create, Exercise, Fetch, When, NoStmts, MoreStmts}
use Rattle.ledger_terms.specs.Packages.{TemplateForm, ChoiceForm}
use Rattle.ledger_model.specs.declared.step.ChildResult.{ChildResult}
use Rattle.lang_eval.specs.declared.binding.Binding.{Binding}
use Rattle.lang_eval.specs.Names.{Names, binding_of}
use Rattle.lang_eval.specs.Value.{val, truth}
use Rattle.lang_eval.specs.Found.{Packages, template_in, choice_in}
use Rattle.lang_eval.specs.Kinds.{kind_of}
use Rattle.lang_eval.specs.Builtin.{with_archive}
use Rattle.lang_eval.specs.Typed.{Scope, kind_named, choice_named, HasKind, HaveKind, HaveKindsOf, IsTyped, AreTyped}
use Rattle.lang_eval.specs.Next.{Ran, Went, ran, ran_all, then_on}
use Rattle.lang_check.specs.KindedNames.{kinds_in}
use Rattle.lang_check.specs.Asked.{Gives}
use Rattle.lang_check.specs.Defaults.{GiveAlike, AllGive, TakesNoDefault, TakeNoDefault, RunsWithoutDefault, RunWithoutDefault}
use Rattle.lang_check.proofs.Valued.{val_kind}
use Rattle.lang_check.proofs.Bodies.{Answered, answered_same, then_on_then_on, goes_on, all_go_on, side_answered}

picked_binding : (c : Bool) (b : Binding) (k : Kind) (s : Option Kind) (o : Option Binding) → cond c (Some (kind_of b.value)) s ≡ Some k
    → (s ≡ Some k → (d : Binding) × (o ≡ Some d)) → (d : Binding) × (cond c (Some b) o ≡ Some d)
picked_binding true b k s o h f = (b, refl)
picked_binding false b k s o h f = f h

bound : (names : Names) (x : List ℕ) (k : Kind) → kind_named x (kinds_in names) ≡ Some k → (b : Binding) × (binding_of x names ≡ Some b)
bound [] x k h = absurd (let r : Option Kind = None in let other : r ≡ Some k = h in cc)
bound (b ∷ names) x k h = picked_binding (same_name b.name x) b k (kind_named x (kinds_in names)) (binding_of x names) h (bound names x k)

pub gives_kind : (e : ExprForm) (names : Names) (k : Kind) → HasKind e (kinds_in names) k → Gives e names k
gives_kind e names k t v h = val_kind e names k v t h

all_give : (es : ExprForms) (names : Names) (k : Kind) → HaveKind es (kinds_in names) k → AllGive es names k
all_give NoExprs names k t = tt
all_give (MoreExprs e es) names k t = (gives_kind e names k t.0, all_give es names k t.1)

mutual
  pub no_default : (e : ExprForm) (names : Names) (k : Kind) → HasKind e (kinds_in names) k → TakesNoDefault e names
  no_default (Literal v) names k t = tt
  no_default (Var x) names k t = bound names x k t
  no_default (Add a b) names k t = (
    (no_default a names IntKind t.0, gives_kind a names IntKind t.0),
    (no_default b names IntKind t.1, gives_kind b names IntKind t.1),
  )
  no_default (Sub a b) names k t = (
    (no_default a names IntKind t.0, gives_kind a names IntKind t.0),
    (no_default b names IntKind t.1, gives_kind b names IntKind t.1),
  )
  no_default (Mul a b) names k t = (
    (no_default a names IntKind t.0, gives_kind a names IntKind t.0),
    (no_default b names IntKind t.1, gives_kind b names IntKind t.1),
  )
  no_default (Less a b) names k t = (
    (no_default a names IntKind t.0, gives_kind a names IntKind t.0),
    (no_default b names IntKind t.1, gives_kind b names IntKind t.1),
  )
  no_default (LessEq a b) names k t = (
    (no_default a names IntKind t.0, gives_kind a names IntKind t.0),
    (no_default b names IntKind t.1, gives_kind b names IntKind t.1),
  )
  no_default (Equal a b) names k t =
      let alike : GiveAlike a b names = λ x y p q. gives_kind a names t.0.0 t.0.1 x p ∙ sym (gives_kind b names t.0.0 t.0.2 y q) in
      ((no_default a names t.0.0 t.0.1, no_default b names t.0.0 t.0.2), alike)
  no_default (Both a b) names k t = (
    (no_default a names BoolKind t.0, gives_kind a names BoolKind t.0),
    (no_default b names BoolKind t.1, gives_kind b names BoolKind t.1),
  )
  no_default (Either a b) names k t = (
    (no_default a names BoolKind t.0, gives_kind a names BoolKind t.0),
    (no_default b names BoolKind t.1, gives_kind b names BoolKind t.1),
  )
  no_default (Negate a) names k t = (no_default a names BoolKind t.0, gives_kind a names BoolKind t.0)
  no_default (Cond c a b) names k t = ((no_default c names BoolKind t.0, gives_kind c names BoolKind t.0), (no_default a names k t.1, no_default b names k t.2))
  no_default (Cat a b) names k t = (
    (no_default a names TextKind t.0, gives_kind a names TextKind t.0),
    (no_default b names TextKind t.1, gives_kind b names TextKind t.1),
  )
  no_default (SetOf es) names k t = (no_defaults_alike es names PartyKind t.0, all_give es names PartyKind t.0)
  no_default (Union a b) names k t = (
    (no_default a names PartiesKind t.0, gives_kind a names PartiesKind t.0),
    (no_default b names PartiesKind t.1, gives_kind b names PartiesKind t.1),
  )
  no_default (Has a b) names k t = (
    (no_default a names PartiesKind t.0, gives_kind a names PartiesKind t.0),
    (no_default b names PartyKind t.1, gives_kind b names PartyKind t.1),
  )

  no_defaults_alike : (es : ExprForms) (names : Names) (k : Kind) → HaveKind es (kinds_in names) k → TakeNoDefault es names
  no_defaults_alike NoExprs names k t = tt
  no_defaults_alike (MoreExprs e es) names k t = (no_default e names k t.0, no_defaults_alike es names k t.1)

operand : (e : ExprForm) (names : Names) (k : Kind) → HasKind e (kinds_in names) k → TakesNoDefault e names × Gives e names k
operand e names k t = (no_default e names k t, gives_kind e names k t)

no_defaults : (es : ExprForms) (names : Names) (ds : List FieldDecl) → HaveKindsOf es (kinds_in names) ds → TakeNoDefault es names
no_defaults NoExprs names ds t = tt
no_defaults (MoreExprs e es) names [] t = absurd t
no_defaults (MoreExprs e es) names (d ∷ ds) t = (no_default e names d.kind t.0, no_defaults es names ds t.1)

truth_is : (e : ExprForm) (names : Names) (b : Bool) → val e names ≡ Ok (BoolValue b) → truth e names ≡ Ok b
truth_is e names b h = rw h refl

module _ (packages p : Packages)
    (templates : (t : TemplateName) (template : TemplateForm) → template_in t p ≡ Some template → template_in t packages ≡ Some (with_archive template))
    (choices : (t : TemplateName) (template : TemplateForm) (name : List ℕ) (c : ChoiceForm) → template_in t p ≡ Some template
    → choice_named template name ≡ Some c → choice_in t name packages ≡ Some c) where
  mutual
    stmt_no_default : (s : StmtForm) (names : Names) (after : Scope) (rest : Names → List ChildResult → Ran) (seen : List ChildResult) → IsTyped s p (kinds_in names) after
        → Answered packages (λ seen. then_on (ran s packages names seen) rest) seen → RunsWithoutDefault s packages names seen
    stmt_no_default (Bind x e) names after rest seen t a = no_default e names t.0 t.1
    stmt_no_default (Assert e) names after rest seen t a = operand e names BoolKind t.0
    stmt_no_default (Create x n fields) names after rest seen t a = ((with_archive t.0, templates n t.0 t.1), no_defaults fields names t.0.fields t.2)
    stmt_no_default (Exercise x n e choice args) names after rest seen t a =
        ((t.2, choices n t.0 choice t.2 t.1 t.3), operand e names ContractKind t.4, no_defaults args names t.2.params t.5)
    stmt_no_default (Fetch x n e) names after rest seen t a = ((with_archive t.0, templates n t.0 t.1), operand e names ContractKind t.2)
    stmt_no_default (When e first second) names after rest seen t a =
        let inside = λ (n : Names) (l : List ChildResult). rest (take (length names) n) l in (
          operand e names BoolKind t.0,
          (λ h. all_no_default first names t.1.0 inside seen t.1.1
              (side_answered packages p templates choices true first second names rest seen (truth e names) (truth_is e names true h) a)),
          (λ h. all_no_default second names t.2.0 inside seen t.2.1
              (side_answered packages p templates choices false first second names rest seen (truth e names) (truth_is e names false h) a)),
        )

    pub all_no_default : (ss : StmtForms) (names : Names) (end : Scope) (rest : Names → List ChildResult → Ran) (seen : List ChildResult)
        → AreTyped ss p (kinds_in names) end → Answered packages (λ seen. then_on (ran_all ss packages names seen) rest) seen
        → RunWithoutDefault ss packages names seen
    all_no_default NoStmts names end rest seen t a = tt
    all_no_default (MoreStmts s ss) names end rest seen t a =
        let k = λ (n : Names) (l : List ChildResult). ran_all ss packages n l in
        let both = answered_same packages (λ seen. then_on (then_on (ran s packages names seen) k) rest)
        (λ seen. then_on (ran s packages names seen) (λ n l. then_on (k n l) rest)) seen seen
        (λ before. then_on_then_on (ran s packages names before) k rest) refl a in (
          stmt_no_default s names t.0 (λ n l. then_on (k n l) rest) seen t.1 both,
          λ n l is.
              let f = goes_on packages p templates choices s names t.0 (λ n l. then_on (k n l) rest) seen n l t.1 both is in
              all_no_default ss n end rest l (subst (λ (scope : Scope). AreTyped ss p scope end) (sym f.0) t.2) f.1,
        )

  pub result_no_default : (body : StmtForms) (result : ExprForm) (returns : Kind) (names : Names) (end : Scope) (rest : Names → List ChildResult → Ran)
      (seen : List ChildResult) → AreTyped body p (kinds_in names) end → HasKind result end returns
      → Answered packages (λ seen. then_on (ran_all body packages names seen) rest) seen → (n : Names) (l : List ChildResult)
      → ran_all body packages names seen ≡ Went n l → TakesNoDefault result n
  result_no_default body result returns names end rest seen t u a n l is =
      let f = all_go_on packages p templates choices body names end rest seen n l t a is in
      no_default result n returns (subst (λ (scope : Scope). HasKind result scope returns) (sym f.0) u)
