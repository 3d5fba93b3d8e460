-- Whether trees of actions are possible in the model, by tests in order. What is true here is what Conformance.antt of ledger_model states.
use Rattle.std.specs.Prelude.{Bool, true, false, ◌&&◌, List, [], ◌∷◌, ◌++◌, Result, Ok, Err}
use Rattle.std.specs.Cmp.Lexicographic.{pointwise}
use Rattle.ledger_terms.specs.declared.value.Value.{Value}
use Rattle.ledger_terms.specs.declared.action.Action.{Action}
use Rattle.ledger_terms.specs.declared.action.Action.TheVariants.{Create, Exercise, Fetch}
use Rattle.ledger_terms.specs.contracts.value.ValuePartialEq.TheImpl as value_eq
use Rattle.ledger_terms.specs.contracts.template_name.TemplateNamePartialEq.TheImpl as template_eq
use Rattle.ledger_terms.specs.Forest.{NoRoots, Root}
use Rattle.ledger_terms.specs.Trees.{Actions}
use Rattle.ledger_terms.specs.Parties.{same_name}
use Rattle.ledger_model.specs.Conformance.{Body, NoBody, BodyOf, body_of, result_of_child}
use Rattle.ledger_model.specs.declared.step.ChildResult.{ChildResult}
use Rattle.ledger_model.specs.declared.step.Step.{Step}
use Rattle.ledger_model.specs.declared.step.Step.TheVariants.{Create as CreateNext, Exercise as ExerciseNext, Fetch as FetchNext, Done}
use Rattle.lang_eval.specs.declared.eval_fault.EvalFault.{EvalFault}
use Rattle.lang_eval.specs.Found.{Packages}
use Rattle.lang_eval.specs.Kinds.{has_kinds}
use Rattle.lang_eval.specs.Next.{next}
use Rattle.interpret.specs.Language.{is_creatable, is_exercisable}

-- whether two lists have the same values
abbrev pub same_values : List Value → List Value → Bool
same_values = pointwise value_eq.ghosts.eq

-- whether an action is the one that a step of a body asks for; what the step doesn't say (a Create's id, a salt, actors, a result, whether it is
-- consuming) isn't compared
abbrev pub is_demanded : Step → Action → Bool
is_demanded (CreateNext template fields) (Create id i) = template_eq.ghosts.eq i.template template && same_values i.fields fields
is_demanded (ExerciseNext template id choice args) (Exercise id' salt i choice' args' actors consuming result) =
    template_eq.ghosts.eq i.template template && (same_name id' id && (same_name choice' choice && same_values args' args))
is_demanded (FetchNext template id) (Fetch id' salt i actors) = template_eq.ghosts.eq i.template template && same_name id' id
is_demanded step action = false

-- whether what a body does next is to ask for this action; false where its evaluation has a fault
abbrev pub asks : Result Step EvalFault → Action → Bool
asks (Ok step) action = is_demanded step action
asks (Err e) action = false

-- whether a step of a body is its end with this result
abbrev pub is_done : Step → Value → Bool
is_done (Done v) result = value_eq.ghosts.eq v result
is_done step result = false

-- whether what a body does next is to end with this result; false where its evaluation has a fault
abbrev pub gives : Result Step EvalFault → Value → Bool
gives (Ok step) result = is_done step result
gives (Err e) result = false

-- whether an action is possible by itself, whatever stands below it
abbrev pub is_possible : Packages → Action → Bool
is_possible packages (Create id i) = has_kinds packages i && is_creatable packages i
is_possible packages (Exercise id salt i choice args actors consuming result) =
    has_kinds packages i && is_exercisable packages (record { id = id; instance = i; choice = choice; args = args }) actors consuming result
is_possible packages (Fetch id salt i actors) = has_kinds packages i

-- whether an action may be the next child of a body, after what was learnt of those before (`seen`); without a body none may
abbrev pub continues : Packages → Body → List ChildResult → Action → Bool
continues packages NoBody seen action = false
continues packages (BodyOf call result) seen action = asks (next packages call seen) action

-- whether a body ends, after children of which it learnt `seen`, with the result that it has to have; true where there is no body
abbrev pub ends : Packages → Body → List ChildResult → Bool
ends packages NoBody seen = true
ends packages (BodyOf call result) seen = gives (next packages call seen) result

-- whether these trees are all that a body does after children of which it learnt `seen`, and each is possible with all below it
abbrev pub are_rest : Packages → Body → List ChildResult → Actions → Bool
are_rest packages body seen NoRoots = ends packages body seen
are_rest packages body seen (Root act consequences others) =
    (continues packages body seen act.action && (is_possible packages act.action && are_rest packages (body_of act.action) [] consequences))
    && are_rest packages body (seen ++ result_of_child act.action ∷ []) others

-- Whether an action is possible with these consequences, as `reexecute` answers: it is possible by itself, and they are all that its choice does up to
-- its result, each possible too with what is below it; below a Create and a Fetch there are none.
abbrev pub is_tree_possible : Packages → Action → Actions → Bool
is_tree_possible packages action consequences = is_possible packages action && are_rest packages (body_of action) [] consequences

-- whether there are no trees, as there have to be below a Create and a Fetch
abbrev pub has_none : Actions → Bool
has_none NoRoots = true
has_none (Root act consequences others) = false
