-- What a choice's body does after what its children so far gave. The body is run from its beginning: each Create, Exercise or Fetch
-- takes the first result of a child that isn't taken yet (`seen`), and the first of them that finds none is what the body does next.
use Rattle.std.specs.Prelude.{ℕ, Bool, true, false, cond, List, [], ◌∷◌, length, take, Option, Some, None, Result, Ok, Err}
use Rattle.ledger_terms.specs.declared.template_name.TemplateName.{TemplateName}
use Rattle.ledger_terms.specs.declared.value.Value.{Value}
use Rattle.ledger_terms.specs.declared.value.Value.TheVariants.{Contract, Unit as UnitValue}
use Rattle.ledger_terms.specs.Syntax.{ExprForm, StmtForm, StmtForms, Bind, Assert, Create, Exercise, Fetch, When, NoStmts, MoreStmts}
use Rattle.ledger_terms.specs.Packages.{TemplateForm, ChoiceForm}
use Rattle.ledger_model.specs.declared.step.ChoiceCall.{ChoiceCall}
use Rattle.ledger_model.specs.declared.step.ChildResult.{ChildResult}
use Rattle.ledger_model.specs.declared.step.ChildResult.TheVariants.{Created, Returned, Fetched}
use Rattle.ledger_model.specs.declared.step.Step.{Step}
use Rattle.ledger_model.specs.declared.step.Step.TheVariants.{Create as CreateNext, Exercise as ExerciseNext, Fetch as FetchNext, Done}
use Rattle.lang_eval.specs.declared.eval_fault.EvalFault.{EvalFault}
use Rattle.lang_eval.specs.declared.eval_fault.EvalFault.TheVariants.{Assert as AssertFault}
use Rattle.lang_eval.specs.Names.{Names, bound_to, with_fields, with_this, with_args, with_self}
use Rattle.lang_eval.specs.Value.{val, vals, truth, with_value}
use Rattle.lang_eval.specs.Found.{Packages, template_in, choice_in, fields_of}

-- How statements end. Either they stop at their next step or at a fault, or they go on to their end, with the names that are bound
-- then and the results of children that they haven't taken.
pub data Ran : Type 0 where
  Stopped : Result Step EvalFault → Ran
  Went : Names → List ChildResult → Ran

-- What a child gives as one value: a Create the contract, an Exercise its result. A Fetch, of which fields are bound, gives Unit.
abbrev pub value_seen : ChildResult → Value
value_seen (Created id) = Contract id
value_seen (Returned v) = v
value_seen (Fetched i) = UnitValue

-- the values of the fields of a contract that was fetched; none of another child
abbrev pub fields_seen : ChildResult → List Value
fields_seen (Fetched i) = i.fields
fields_seen s = []

-- The id of the contract that a value names. Another value, which no checked statement has there, gives Assert.
abbrev pub id_in : Value → Result (List ℕ) EvalFault
id_in (Contract id) = Ok id
id_in v = Err AssertFault

-- the id of the contract that an expression gives under these names, or the first fault
abbrev pub id_of : ExprForm → Names → Result (List ℕ) EvalFault
id_of e names = with_value (val e names) (λ v. id_in v)

-- how statements go on with the value of an evaluation; at a fault they stop
abbrev pub on_value : {A : Type 0} → Result A EvalFault → (A → Ran) → Ran
on_value (Ok v) go = go v
on_value (Err e) go = Stopped (Err e)

-- after an assertion: the rest where it is true, and where it is false a stop at Assert
abbrev pub asserted : Bool → Ran → Ran
asserted true rest = rest
asserted false rest = Stopped (Err AssertFault)

-- How a Create, Exercise or Fetch ends, of which the first argument is the step or its fault. Of the results of children that are left it takes the
-- first, and `binds` gives the names that are bound then; where none is left, the statements stop with the step or the fault.
abbrev pub taken : Result Step EvalFault → (ChildResult → Names) → List ChildResult → Ran
taken step binds [] = Stopped step
taken step binds (s ∷ seen) = Went (binds s) seen

-- The end of one side of a `when`, before which `names` were bound: of the names that are bound at its end only the first are left, as many as `names`
-- has. A stop stays a stop.
abbrev pub closed : Names → Ran → Ran
closed names (Stopped step) = Stopped step
closed names (Went more seen) = Went (take (length names) more) seen

-- how the statements that follow go on from where those before them ended; a stop stays a stop
abbrev pub then_on : Ran → (Names → List ChildResult → Ran) → Ran
then_on (Stopped step) rest = Stopped step
then_on (Went names seen) rest = rest names seen

-- the step that creates a contract of template `t` with these values, or the fault of their evaluation
abbrev pub create_step : TemplateName → Result (List Value) EvalFault → Result Step EvalFault
create_step t fields = with_value fields (λ vs. Ok (CreateNext t vs))

-- The step that exercises the choice of this name of template `t`. The contract's id and the arguments are answers of evaluations; a fault of the id
-- comes first, then one of the arguments.
abbrev pub exercise_step : TemplateName → List ℕ → Result (List ℕ) EvalFault → Result (List Value) EvalFault → Result Step EvalFault
exercise_step t choice contract args = with_value contract (λ id. with_value args (λ vs. Ok (ExerciseNext t id choice vs)))

-- the step that fetches a contract as one of template `t`, or the fault in the evaluation of its id
abbrev pub fetch_step : TemplateName → Result (List ℕ) EvalFault → Result Step EvalFault
fetch_step t contract = with_value contract (λ id. Ok (FetchNext t id))

abbrev mutual
  -- how a statement ends that begins with these names and these results of children, which aren't taken yet; the packages tell which fields a
  -- fetched contract has
  pub ran : StmtForm → Packages → Names → List ChildResult → Ran
  ran (Bind x e) packages names seen = on_value (val e names) (λ v. Went (bound_to x v names) seen)
  ran (Assert e) packages names seen = on_value (truth e names) (λ b. asserted b (Went names seen))
  ran (Create x t fields) packages names seen = taken (create_step t (vals fields names)) (λ s. bound_to x (value_seen s) names) seen
  ran (Exercise x t e choice args) packages names seen =
      taken (exercise_step t choice (id_of e names) (vals args names)) (λ s. bound_to x (value_seen s) names) seen
  ran (Fetch x t e) packages names seen =
      taken (fetch_step t (id_of e names)) (λ s. with_fields x (fields_of (template_in t packages)) (fields_seen s) names) seen
  ran (When e first second) packages names seen =
      on_value (truth e names) (λ b. closed names (cond b (ran_all first packages names seen) (ran_all second packages names seen)))

  -- how statements end, one after another, that begin with these names and these results of children, which aren't taken yet
  pub ran_all : StmtForms → Packages → Names → List ChildResult → Ran
  ran_all NoStmts packages names seen = Went names seen
  ran_all (MoreStmts s ss) packages names seen = then_on (ran s packages names seen) (λ names seen. ran_all ss packages names seen)

-- the names that a body begins with: `self`, the contract's fields behind `this.`, and the arguments behind `arg.`
abbrev pub names_of : TemplateForm → ChoiceForm → ChoiceCall → Names
names_of template choice call = with_args choice.params call.args (with_this template.fields call.instance.fields (with_self call.id []))

-- What the body of a choice does next whose statements ended as the second argument says: the step or the fault at which they stopped; or, where they
-- went to their end, Done with the value of the choice's result, or that value's fault.
abbrev pub ended : ChoiceForm → Ran → Result Step EvalFault
ended choice (Stopped step) = step
ended choice (Went names seen) = with_value (val choice.result names) (λ v. Ok (Done v))

-- what the body of this choice of this template does next in a call, after what its children so far gave (`seen`)
abbrev pub next_of : TemplateForm → ChoiceForm → Packages → ChoiceCall → List ChildResult → Result Step EvalFault
next_of template choice packages call seen = ended choice (ran_all choice.body packages (names_of template choice call) seen)

-- What the body of a choice does next in a call, after what its children so far gave (`seen`), where template and choice were looked up. Where one of
-- them isn't there it is Assert; whoever asks looks first whether they are.
abbrev pub next_in : Option TemplateForm → Option ChoiceForm → Packages → ChoiceCall → List ChildResult → Result Step EvalFault
next_in None choice packages call seen = Err AssertFault
next_in (Some t) None packages call seen = Err AssertFault
next_in (Some t) (Some c) packages call seen = next_of t c packages call seen

-- What the body of the call's choice does next, after what its children so far gave (`seen`): a step, or the first fault. Where the choice isn't there
-- it is Assert; whoever asks looks first whether it is.
unfoldable pub next : Packages → ChoiceCall → List ChildResult → Result Step EvalFault
next packages call seen =
    next_in (template_in call.instance.template packages) (choice_in call.instance.template call.choice packages) packages call seen
