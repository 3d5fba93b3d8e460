-- What a body of a checked package asks for, and what answers it; by these the laws of this crate say that well-typed code goes well.
use Rattle.std.specs.Prelude.{◌≡◌, true, List, [], ◌∷◌, ◌++◌, Some, Ok}
use Rattle.ledger_terms.specs.declared.kind.Kind.{Kind}
use Rattle.ledger_terms.specs.declared.kind.Kind.TheVariants.{Bool as BoolKind, Parties as PartiesKind}
use Rattle.ledger_terms.specs.declared.value.Value.{Value}
use Rattle.ledger_terms.specs.declared.instance.Instance.{Instance}
use Rattle.ledger_terms.specs.Syntax.{ExprForm}
use Rattle.ledger_terms.specs.Packages.{TemplateForm, ChoiceForm}
use Rattle.ledger_model.specs.declared.step.ChoiceCall.{ChoiceCall}
use Rattle.ledger_model.specs.declared.step.ChildResult.{ChildResult}
use Rattle.ledger_model.specs.declared.step.ChildResult.TheVariants.{Created, Returned, Fetched}
use Rattle.ledger_model.specs.declared.step.Step.{Step}
use Rattle.ledger_model.specs.declared.step.Step.TheVariants.{Create as CreateNext, Exercise as ExerciseNext, Fetch as FetchNext, Done}
use Rattle.lang_eval.specs.Found.{Packages, template_in, choice_in}
use Rattle.lang_eval.specs.Kinds.{kind_of, have_kinds, has_kinds}
use Rattle.lang_eval.specs.Names.{Names}
use Rattle.lang_eval.specs.Value.{val}
use Rattle.lang_eval.specs.Next.{next}
use Rattle.lang_eval.specs.Parts.{this_names, call_names}

-- A step of a choice that returns the kind `returns`: the template or choice that it names is there, and its fields, arguments or result
-- have their kinds.
abbrev pub IsAsked : Packages → Kind → Step → Type 0
IsAsked packages returns (CreateNext t fields) = has_kinds packages (record { template = t; fields = fields }) ≡ true
IsAsked packages returns (ExerciseNext t id choice args) =
    (c : ChoiceForm) × (choice_in t choice packages ≡ Some c) × (have_kinds args c.params ≡ true)
IsAsked packages returns (FetchNext t id) = (template : TemplateForm) × (template_in t packages ≡ Some template)
IsAsked packages returns (Done v) = kind_of v ≡ returns

-- What a child gave answers the step that asked for it: an id for a Create, a result of the choice's kind for an Exercise, a contract of the template
-- with fields of its kinds for a Fetch. Nothing answers Done.
abbrev pub IsAnswer : Packages → Step → ChildResult → Type 0
IsAnswer packages (CreateNext t fields) (Created id) = Unit {0}
IsAnswer packages (ExerciseNext t id choice args) (Returned v) =
    (c : ChoiceForm) × (choice_in t choice packages ≡ Some c) × (kind_of v ≡ c.returns)
IsAnswer packages (FetchNext t id) (Fetched i) = (i.template ≡ t) × (has_kinds packages i ≡ true)
IsAnswer packages step seen = ⊥

-- The results of children `seen`, the last argument, come after those of `before`, and each of them answers the step that the call's body takes after
-- all those in front of it.
abbrev pub AreAnswers : Packages → ChoiceCall → List ChildResult → List ChildResult → Type 0
AreAnswers packages call before [] = Unit {0}
AreAnswers packages call before (s ∷ seen) =
    ((step : Step) × (next packages call before ≡ Ok step) × IsAnswer packages step s) × AreAnswers packages call (before ++ s ∷ []) seen

-- where the expression has a value under these names, it is of this kind
abbrev pub Gives : ExprForm → Names → Kind → Type 0
Gives e names k = (v : Value) → val e names ≡ Ok v → kind_of v ≡ k

-- the `ensure` of an instance of template t, where it has a value, gives a truth value, and its signatories and observers give sets of parties
pub record IsEvaluable (t : TemplateForm) (i : Instance) : Type 0 where
  pub ensure : Gives t.ensure (this_names t i) BoolKind
  pub signatories : Gives t.signatories (this_names t i) PartiesKind
  pub observers : Gives t.observers (this_names t i) PartiesKind

-- the controllers and observers of a call of choice c of template t, where they have a value, give sets of parties
pub record IsCallEvaluable (t : TemplateForm) (c : ChoiceForm) (call : ChoiceCall) : Type 0 where
  pub controllers : Gives c.controllers (call_names t c call) PartiesKind
  pub observers : Gives c.observers (call_names t c call) PartiesKind
