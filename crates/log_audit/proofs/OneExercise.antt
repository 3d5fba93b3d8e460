-- What a rule's command asks for: one root action, which exercises its contract.
use Rattle.std.proofs.Common.{◌≡◌, ◌≢◌, ℕ, Bool, true, false, List, [], ◌∷◌, Option, Some, None, Result, Ok, Err, ap, refl, subst, sym, cond}
use Rattle.ledger_terms.specs.Forest.{NoRoots, Root}
use Rattle.ledger_terms.specs.Trees.{Actions}
use Rattle.ledger_terms.specs.declared.action.Action.{Action}
use Rattle.ledger_terms.specs.declared.action.Action.TheVariants.{Create as CreateAction, Exercise as ExerciseAction, Fetch as FetchAction}
use Rattle.ledger_terms.specs.declared.arg.Arg.{Arg}
use Rattle.ledger_terms.specs.declared.command.Command.TheVariants.{Exercise}
use Rattle.ledger_terms.specs.declared.contract_ref.ContractRef.TheVariants.{Id}
use Rattle.ledger_terms.specs.declared.known.Known.{Known}
use Rattle.ledger_terms.specs.declared.template_name.TemplateName.{TemplateName}
use Rattle.ledger_terms.specs.declared.value.Value.{Value}
use Rattle.ledger_model.specs.Conformance.{Demands}
use Rattle.ledger_model.specs.declared.step.Step.TheVariants.{Exercise as ExerciseNext}
use Rattle.lang_eval.specs.Found.{Packages, choice_in, template_in}
use Rattle.lang_eval.specs.Parts.{PartyNames}
use Rattle.audit_model.specs.Rules.{exercised_by, exercised_in}
use Rattle.interpret.specs.Act.{Child, step_of}
use Rattle.interpret.specs.Commands.{args_have_kinds, command_demand, demand_turn, referenced_values, where_there}
use Rattle.interpret.specs.Wanted.{IsWanted}
use Rattle.interpret.specs.declared.command_fault.CommandFault.{CommandFault}
use Rattle.interpret.specs.declared.demand.Demand.{Demand}
use Rattle.interpret.specs.declared.demand.Demand.TheVariants.{Exercise as ExerciseDemand}

gone_on : {A B : Type 0} (x : Option A) (fault : CommandFault) (go : A → Result B CommandFault) (b : B) → where_there x fault go ≡ Ok b
    → (a : A) × (go a ≡ Ok b)
gone_on None fault go b is = cc
gone_on (Some a) fault go b is = (a, is)

held : {B : Type 0} (test : Bool) (answer : Result B CommandFault) (fault : CommandFault) (b : B) → cond test answer (Err fault) ≡ Ok b → answer ≡ Ok b
held true answer fault b is = is
held false answer fault b is = cc

asked : (answer : Result Demand CommandFault) (demand : Demand) → demand_turn answer ≡ Child demand → answer ≡ Ok demand
asked (Ok other) demand is = cc
asked (Err fault) demand is = cc

-- the demand of an exercise by the contract's id is of that contract
demanded : (packages : Packages) (known : List Known) (template : TemplateName) (id choice : List ℕ) (args : List Arg) (demand : Demand)
    → command_demand packages known 0 (Exercise template (Id id) choice args) ≡ Ok demand
    → (values : List Value) × (ExerciseDemand template id choice values ≡ demand)
demanded packages known template id choice args demand is =
    let t = gone_on (template_in template packages) _ _ _ is in
    let c = gone_on (choice_in template choice packages) _ _ _ t.1 in
    let values = gone_on (referenced_values known args) _ _ _ (held (args_have_kinds args (c.0).params) _ _ _ c.1) in (values.0, cc)

exercised : (template : TemplateName) (id choice : List ℕ) (values : List Value) (action : Action)
    → Demands (Some (ExerciseNext template id choice values)) action → exercised_by action ≡ Some id
exercised template id choice values (CreateAction id' instance) demands = absurd demands
exercised template id choice values (ExerciseAction id' salt instance choice' args actors consuming result) demands = ap Some demands.1
exercised template id choice values (FetchAction id' salt instance actors) demands = absurd demands

pub one_exercise : (packages : Packages) (known : List Known) (seed : List ℕ) (act_as : PartyNames) (template : TemplateName) (id choice : List ℕ)
    (args : List Arg) (roots : Actions) → roots ≢ NoRoots → IsWanted packages known seed act_as (Exercise template (Id id) choice args ∷ []) roots
    → exercised_in roots ≡ Some id
one_exercise packages known seed act_as template id choice args NoRoots some wanted = absurd (some refl)
one_exercise packages known seed act_as template id choice args (Root act below NoRoots) some wanted =
    let asks = (wanted.roots).0 in
    let is = demanded packages known template id choice args asks.0 (asked _ _ asks.1) in
    exercised template id choice is.0 act.action (subst (λ (d : Demand). Demands (Some (step_of d)) act.action) (sym is.1) asks.2)
one_exercise packages known seed act_as template id choice args (Root act below (Root other more others)) some wanted = cc
