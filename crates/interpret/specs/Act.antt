-- An action and its consequences, built forwards: the tree, or the first fault with its path. `progress` is what the transaction did before,
-- `path` and `seed` are the action's, and `by` are the parties that authorise it.
use Rattle.std.specs.Prelude.{ℕ, zero, suc, ◌+◌, Bool, cond, nat_le, List, [], ◌∷◌, ◌++◌, Option, Some, None, Result, Ok, Err}
use Rattle.ledger_terms.specs.declared.value.Value.{Value}
use Rattle.ledger_terms.specs.declared.instance.Instance.{Instance}
use Rattle.ledger_terms.specs.declared.known.Known.{Known}
use Rattle.ledger_terms.specs.declared.action.Action.{Action}
use Rattle.ledger_terms.specs.declared.action.Action.TheVariants.{Create, Exercise, Fetch}
use Rattle.ledger_terms.specs.Trees.{ActionNode}
use Rattle.ledger_terms.specs.Forest.{NoRoots, join}
use Rattle.ledger_terms.specs.Trees.{Actions}
use Rattle.ledger_terms.specs.Grown.{tree_of}
use Rattle.ledger_terms.specs.Parties.{is_subset}
use Rattle.ledger_terms.specs.declared.limits.TheConstants.{MOST_ACTIONS}
use Rattle.ledger_model.specs.Conformance.{result_of_child}
use Rattle.ledger_model.specs.Parties.{is_empty}
use Rattle.ledger_model.specs.declared.step.ChoiceCall.{ChoiceCall}
use Rattle.ledger_model.specs.declared.step.ChildResult.{ChildResult}
use Rattle.ledger_model.specs.declared.step.Step.{Step}
use Rattle.ledger_model.specs.declared.step.Step.TheVariants.{Create as CreateNext, Exercise as ExerciseNext, Fetch as FetchNext, Done}
use Rattle.lang_eval.specs.declared.eval_fault.EvalFault.{EvalFault}
use Rattle.lang_eval.specs.declared.eval_fault.EvalFault.TheVariants.{TooLarge}
use Rattle.lang_eval.specs.Found.{Packages}
use Rattle.lang_eval.specs.Next.{next}
use Rattle.lang_eval.specs.Parts.{PartyNames, is_consuming_call}
use Rattle.interpret.specs.declared.command_fault.CommandFault.{CommandFault}
use Rattle.interpret.specs.declared.command_fault.CommandFault.TheVariants.{ContractUnknown, Eval, TooDeep, TooMany, Unauthorised}
use Rattle.interpret.specs.declared.demand.Demand.{Demand}
use Rattle.interpret.specs.declared.demand.Demand.TheVariants.{Create as CreateDemand, Exercise as ExerciseDemand, Fetch as FetchDemand}
use Rattle.interpret.specs.declared.progress.Progress.{Progress}
use Rattle.interpret.specs.Ids.{Hash, child_seed, contract_id}
use Rattle.interpret.specs.Sizes.{is_small_result}
use Rattle.interpret.specs.Tested.{created_signatories, call_controllers, are_authorised, authorisers, fetchers}
use Rattle.interpret.specs.Usable.{usable}

-- what `go` gives of a value; where there is a fault, the fault
abbrev pub on : {A B : Type 0} → Result A CommandFault → (A → Result B CommandFault) → Result B CommandFault
on (Ok v) go = go v
on (Err e) go = Err e

-- an evaluation's answer as one of commands: its fault is one at this path
abbrev pub at_path : {A : Type 0} → List ℕ → Result A EvalFault → Result A CommandFault
at_path path (Ok v) = Ok v
at_path path (Err e) = Err (Eval path e)

-- what a transaction did so far (its Progress), with one more action counted
abbrev pub with_action : Progress → Progress
with_action p = record { created = p.created; consumed = p.consumed; count = p.count + 1 }

-- what a transaction did, with one more contract created
abbrev pub with_created : Known → Progress → Progress
with_created k p = record { created = p.created ++ k ∷ []; consumed = p.consumed; count = p.count }

-- what a transaction did, with the contract of this id consumed where the flag says so, and else as it was
abbrev pub with_consumed : Bool → Hash → Progress → Progress
with_consumed consuming id p = record { created = p.created; consumed = cond consuming (p.consumed ++ id ∷ []) p.consumed; count = p.count }

-- an action that is asked for, as the next step of a body
abbrev pub step_of : Demand → Step
step_of (CreateDemand t fields) = CreateNext t fields
step_of (ExerciseDemand t id choice args) = ExerciseNext t id choice args
step_of (FetchDemand t id) = FetchNext t id

-- What runs one action, given in this order: the progress before it, its path, its seed, who authorises it, and the action that is asked for. It
-- gives the action with its consequences and the progress after it, or the first fault.
abbrev pub Runner : Type 0
Runner = Progress → List ℕ → Hash → PartyNames → Demand → Result (ActionNode × Progress) CommandFault

-- what comes next where actions are asked for one after another: a stop at a fault, the end with a result, or a child
pub data Turn : Type 0 where
  Stop : CommandFault → Turn
  End : Value → Turn
  Child : Demand → Turn

-- What asks for actions one after another, a body or commands: `turn` is what comes at an index (from 0) after what is known of the actions
-- before, and `learn` is what is known after one more action.
pub record Source : Type 0 where
  pub turn : ℕ → List ChildResult → Turn
  pub learn : List ChildResult → Action → List ChildResult

-- what a source came to: the actions that it asked for, its result, and the progress after them
pub record BodyRun : Type 0 where
  pub children : Actions
  pub result : Value
  pub progress : Progress

-- what is done with what comes next: a stop is the fault, an end is handed to `done`, a child to `child`
abbrev pub by_turn : {A : Type 0} → Turn → (Value → Result A CommandFault) → (Demand → Result A CommandFault) → Result A CommandFault
by_turn (Stop e) done child = Err e
by_turn (End v) done child = done v
by_turn (Child s) done child = child s

-- What a source comes to that goes on after `children`, or the first fault: TooMany where the turns are used up. In order: the turns that are left, the
-- source, what runs each child, the seed and the path above the children, who authorises them, the progress, what is known of the children (`seen`),
-- the children, and the index of the next one.
unfoldable pub follow : ℕ → Source → Runner → Hash → List ℕ → PartyNames → Progress → List ChildResult → Actions → ℕ → Result BodyRun CommandFault
follow zero source run seed path by progress seen children index = Err (TooMany path)
follow (suc turns) source run seed path by progress seen children index =
    by_turn (source.turn index seen) (λ v. Ok (record { children = children; result = v; progress = progress })) (λ demand.
    on (run progress (path ++ index ∷ []) (child_seed seed index) by demand) (λ x.
    follow turns source run seed path by x.1 (source.learn seen x.0.root.action) (join children (tree_of x.0)) (index + 1)))

-- how many turns a source has at most: for 64 children, as many as a transaction may have, and the end
unfoldable pub most_children : ℕ
most_children = 65

-- what comes next by a step of the body at this path: its end with a result that keeps its limit (else TooLarge), or a child
abbrev pub step_turn : List ℕ → Step → Turn
step_turn path (Done v) = cond (is_small_result v) (End v) (Stop (Eval path TooLarge))
step_turn path (CreateNext t fields) = Child (CreateDemand t fields)
step_turn path (ExerciseNext t id choice args) = Child (ExerciseDemand t id choice args)
step_turn path (FetchNext t id) = Child (FetchDemand t id)

-- what comes next in the body at this path, whose next step was evaluated: as the step says, or a stop where the evaluation has a fault
abbrev pub turn_of : List ℕ → Result Step EvalFault → Turn
turn_of path (Ok s) = step_turn path s
turn_of path (Err e) = Stop (Eval path e)

-- the body of a call's choice as a source of consequences, of the Exercise at this path; it learns what each child gives
abbrev pub body_source : Packages → ChoiceCall → List ℕ → Source
body_source packages call path =
    record {
      turn = λ index seen. turn_of path (next packages call seen);
      learn = λ seen a. seen ++ result_of_child a ∷ [];
    }

-- the Create of an instance with this seed, as a tree without consequences
abbrev pub created_node : Hash → Instance → ActionNode
created_node seed i = record { root = record { seed = seed; action = Create (contract_id seed i) i }; below = NoRoots }

-- the contract that a Create with this seed makes of an instance
abbrev pub created_known : Hash → Instance → Known
created_known seed i = record { id = contract_id seed i; salt = seed; instance = i }

-- The Create of an instance and the progress after it, or the first fault: of evaluations, and then Unauthorised. In order: the packages, the progress,
-- which counts this action already, its path, its seed, its authorisers, the instance.
abbrev pub do_create : Packages → Progress → List ℕ → Hash → PartyNames → Instance → Result (ActionNode × Progress) CommandFault
do_create packages progress path seed by i =
    on (at_path path (created_signatories packages i)) (λ s. cond (is_subset s by)
    (Ok (created_node seed i, with_created (created_known seed i) progress))
    (Err (Unauthorised path)))

-- the call of a choice on a known contract with these arguments
abbrev pub call_of : Known → List ℕ → List Value → ChoiceCall
call_of k choice args = record { id = k.id; instance = k.instance; choice = choice; args = args }

-- The Exercise of a call as a tree, with what its body came to below it. In order: the action's seed, the contract's salt, the call, its actors,
-- whether it is consuming, what its body came to.
abbrev pub exercised_node : Hash → Hash → ChoiceCall → PartyNames → Bool → BodyRun → ActionNode
exercised_node seed salt call actors consuming f =
    record {
      root = record { seed = seed; action = Exercise call.id salt call.instance call.choice call.args actors consuming f.result };
      below = f.children;
    }

-- The Exercise of a call and the progress after it, or the first fault. A consuming one consumes before its body runs. In order: the packages, what
-- runs the children, the progress, which counts this action already, its path, its seed, its authorisers, the contract's salt, the call.
abbrev pub exercise_on : Packages → Runner → Progress → List ℕ → Hash → PartyNames → Hash → ChoiceCall → Result (ActionNode × Progress) CommandFault
exercise_on packages run progress path seed by salt call =
    on (at_path path (call_controllers packages call)) (λ actors. cond (are_authorised actors by)
    (on (follow most_children (body_source packages call path) run seed path (authorisers packages call.instance actors)
    (with_consumed (is_consuming_call packages call) call.id progress) [] NoRoots 0) (λ f.
    Ok (exercised_node seed salt call actors (is_consuming_call packages call) f, f.progress)))
    (Err (Unauthorised path)))

-- The Exercise of a choice on a contract that was looked up, and the progress after it, or the first fault: ContractUnknown where there is no contract.
-- In order: the packages, what runs the children, the progress before it, its path, its seed, its authorisers, the contract, the choice's name, the
-- arguments.
abbrev pub do_exercise : Packages → Runner → Progress → List ℕ → Hash → PartyNames → Option Known → List ℕ → List Value
    → Result (ActionNode × Progress) CommandFault
do_exercise packages run progress path seed by None choice args = Err (ContractUnknown path)
do_exercise packages run progress path seed by (Some k) choice args = exercise_on packages run (with_action progress) path seed by k.salt
    (call_of k choice args)

-- the Fetch of a contract by these actors with this seed, as a tree without consequences
abbrev pub fetched_node : Hash → Known → PartyNames → ActionNode
fetched_node seed k actors = record { root = record { seed = seed; action = Fetch k.id k.salt k.instance actors }; below = NoRoots }

-- The Fetch of a contract that was looked up, and the progress after it; ContractUnknown where there is no contract, Unauthorised where no stakeholder
-- is among the authorisers. In order: the packages, the progress before it, its path, its seed, its authorisers, the contract.
abbrev pub do_fetch : Packages → Progress → List ℕ → Hash → PartyNames → Option Known → Result (ActionNode × Progress) CommandFault
do_fetch packages progress path seed by None = Err (ContractUnknown path)
do_fetch packages progress path seed by (Some k) =
    cond (is_empty (fetchers packages k.instance by)) (Err (Unauthorised path))
    (Ok (fetched_node seed k (fetchers packages k.instance by), with_action progress))

-- What runs one action that is asked for, where there is room for it: a Create, an Exercise whose children `run` runs, or a Fetch; the contract of
-- these two has to be `usable`. It gives the action with its consequences and the progress after it, or the first fault.
abbrev pub do_demand : Packages → List Known → Runner → Runner
do_demand packages known run progress path seed by (CreateDemand t fields) = do_create packages (with_action progress) path seed by
    (record { template = t; fields = fields })
do_demand packages known run progress path seed by (ExerciseDemand t id choice args) = do_exercise packages run progress path seed by
    (usable packages known progress id t) choice args
do_demand packages known run progress path seed by (FetchDemand t id) = do_fetch packages progress path seed by (usable packages known progress id t)

-- What runs one action, whose children `run` runs: TooMany where the transaction has as many actions as it may already, and else as `do_demand`.
abbrev pub level : Packages → List Known → Runner → Runner
level packages known run progress path seed by demand =
    cond (nat_le MOST_ACTIONS progress.count) (Err (TooMany path)) (do_demand packages known run progress path seed by demand)

-- What runs an action and all below it, at most as many levels as the first argument says, over these packages and known contracts. It is TooDeep where
-- no level is left.
unfoldable pub act : ℕ → Packages → List Known → Runner
act zero packages known = λ progress path seed by demand. Err (TooDeep path)
act (suc left) packages known = level packages known (act left packages known)

-- What the code's `act` answers, an action or a fault, and the progress that it leaves where it was handed in, as `act` here answers both; so contracts
-- compare them. With a fault the progress has no effect.
abbrev pub action_answer : Result ActionNode CommandFault → Progress → Result (ActionNode × Progress) CommandFault
action_answer (Ok node) progress = Ok (node, progress)
action_answer (Err e) progress = Err e

-- What the code's `follow` answers, a result or a fault, and the children and the progress that it leaves where they were handed in, as `follow` here
-- answers all three; so contracts compare them. With a fault children and progress have no effect.
abbrev pub body_answer : Result Value CommandFault → Actions → Progress → Result BodyRun CommandFault
body_answer (Ok v) children progress = Ok (record { children = children; result = v; progress = progress })
body_answer (Err e) children progress = Err e
