-- Where commands stop: recognised from whole trees that are as wanted, and the first test that fails behind them. `left` levels may be used, `by`
-- authorise, `seen` was learnt of the children before, and `progress` is what the transaction did before; `seed` and `path` are the action's, or those of
-- the action above the children that are asked for.
use Rattle.std.specs.Prelude.{◌≡◌, ℕ, zero, suc, ◌+◌, ◌<◌, Bool, true, false, not, nat_le, List, [], ◌∷◌, ◌++◌, Option, Some, None, Result, Ok, Err, ◌⊎◌}
use Rattle.ledger_terms.specs.declared.value.Value.{Value}
use Rattle.ledger_terms.specs.declared.value.Value.TheVariants.{Unit as UnitValue}
use Rattle.ledger_terms.specs.declared.known.Known.{Known}
use Rattle.ledger_terms.specs.declared.command.Command.{Command}
use Rattle.ledger_terms.specs.Trees.{ActionNode}
use Rattle.ledger_terms.specs.Trees.{Actions}
use Rattle.ledger_terms.specs.Parties.{is_subset}
use Rattle.ledger_terms.specs.declared.limits.TheConstants.{MOST_ACTIONS, MOST_ACTION_DEPTH, MOST_ACTION_BYTES}
use Rattle.ledger_model.specs.Parties.{is_empty}
use Rattle.ledger_model.specs.declared.step.ChildResult.{ChildResult}
use Rattle.wire_form.specs.Lengths.{capped}
use Rattle.lang_eval.specs.declared.eval_fault.EvalFault.{EvalFault}
use Rattle.lang_eval.specs.Found.{Packages}
use Rattle.lang_eval.specs.Parts.{PartyNames, is_consuming_call}
use Rattle.interpret.specs.declared.command_fault.CommandFault.{CommandFault}
use Rattle.interpret.specs.declared.command_fault.CommandFault.TheVariants.{ContractUnknown, Eval, TooDeep, TooMany, Unauthorised, TooBig}
use Rattle.interpret.specs.declared.demand.Demand.{Demand}
use Rattle.interpret.specs.declared.demand.Demand.TheVariants.{Create as CreateDemand, Exercise as ExerciseDemand, Fetch as FetchDemand}
use Rattle.interpret.specs.declared.progress.Progress.{Progress}
use Rattle.interpret.specs.Ids.{Hash, child_seed}
use Rattle.interpret.specs.Usable.{usable}
use Rattle.interpret.specs.Tested.{created_signatories, call_controllers, are_authorised, authorisers, fetchers}
use Rattle.interpret.specs.Act.{Source, Stop, Child, body_source, call_of, with_action, with_consumed}
use Rattle.interpret.specs.Commands.{commands_source}
use Rattle.wire_form.specs.Encoded.{encoded_bytes}
use Rattle.interpret.specs.Interpreted.{nothing_done}
use Rattle.interpret.specs.Wanted.{IsTree, Wanted, one_less, progress_with}

-- a test as the first fault: this fault where the test says so (true), and else what the tests behind it give
abbrev pub fault_where : Bool → CommandFault → Option CommandFault → Option CommandFault
fault_where true fault others = Some fault
fault_where false fault others = others

-- the fault of an evaluation at this path, as the first one; where it has a value, what the tests behind it give of that
abbrev pub evaluation_fault : {A : Type 0} → List ℕ → Result A EvalFault → (A → Option CommandFault) → Option CommandFault
evaluation_fault path (Err e) others = Some (Eval path e)
evaluation_fault path (Ok a) others = others a

-- The fault of the first test of an Exercise that fails before its body, None where all pass: its contract is there, its evaluations have no fault
-- (`call_controllers`), and it has actors, all among the authorisers. In order: the packages, its path, its authorisers, the contract that was looked
-- up, the choice's name, the arguments.
abbrev pub exercise_fault : Packages → List ℕ → PartyNames → Option Known → List ℕ → List Value → Option CommandFault
exercise_fault packages path by None choice args = Some (ContractUnknown path)
exercise_fault packages path by (Some k) choice args =
    evaluation_fault path (call_controllers packages (call_of k choice args)) (λ actors. fault_where (not (are_authorised actors by)) (Unauthorised path) None)

-- The fault of the first test of a Fetch that fails, None where all pass: its contract is there, and one of its stakeholders is among the authorisers.
-- In order: the packages, its path, its authorisers, the contract that was looked up.
abbrev pub fetch_fault : Packages → List ℕ → PartyNames → Option Known → Option CommandFault
fetch_fault packages path by None = Some (ContractUnknown path)
fetch_fault packages path by (Some k) = fault_where (is_empty (fetchers packages k.instance by)) (Unauthorised path) None

-- The fault of the first test that fails of an action that is asked for, where depth and number leave room for it; of an Exercise before its body. None
-- where all pass. In order: the packages, the known contracts, the progress before it, its path, its authorisers, the action.
abbrev pub demand_fault : Packages → List Known → Progress → List ℕ → PartyNames → Demand → Option CommandFault
demand_fault packages known progress path by (CreateDemand t fields) =
    evaluation_fault path (created_signatories packages (record { template = t; fields = fields }))
    (λ s. fault_where (not (is_subset s by)) (Unauthorised path) None)
demand_fault packages known progress path by (ExerciseDemand t id choice args) = exercise_fault packages path by
    (usable packages known progress id t) choice args
demand_fault packages known progress path by (FetchDemand t id) = fetch_fault packages path by (usable packages known progress id t)

-- whether a number is 0, as that of the levels that are left
abbrev pub is_zero : ℕ → Bool
is_zero zero = true
is_zero (suc n) = false

-- The fault of the first test that fails of an action that is asked for, of an Exercise before its body; None where all pass. Depth, number, contract,
-- evaluations and authority are tried in this order. Arguments in order: the packages, the known contracts, the levels that are left, the progress
-- before it, its path, its authorisers, the action.
abbrev pub first_fault : Packages → List Known → ℕ → Progress → List ℕ → PartyNames → Demand → Option CommandFault
first_fault packages known left progress path by demand =
    fault_where (is_zero left) (TooDeep path) (fault_where (nat_le MOST_ACTIONS progress.count) (TooMany path)
    (demand_fault packages known progress path by demand))

-- What stands before the place of a stop. The stop is next (`Here`); or the next action is a whole tree, and then comes what follows (`Past`);
-- or it is an Exercise that was begun by these actors on this contract, and the stop is inside (`Inside`).
pub data Before : Type 0 where
  Here : Before
  Past : ActionNode → Before → Before
  Inside : Known → (choice : List ℕ) (args : List Value) (actors : PartyNames) → Before → Before

-- an Exercise that is asked for (`demand`), on contract k, of this choice with these arguments and by these actors, passes all tests before its body
pub record IsBegun (packages : Packages) (known : List Known) (left : ℕ) (progress : Progress) (by : PartyNames) (demand : Demand) (k : Known)
    (choice : List ℕ) (args : List Value) (actors : PartyNames) : Type 0 where
  pub some : 0 < left
  pub room : progress.count < MOST_ACTIONS
  pub asked : demand ≡ ExerciseDemand k.instance.template k.id choice args
  pub found : usable packages known progress k.id k.instance.template ≡ Some k
  pub entered : call_controllers packages (call_of k choice args) ≡ Ok actors
  pub authorised : are_authorised actors by ≡ true

-- what a transaction did when the body of an Exercise of this choice, with these arguments, of contract k begins: a consuming one has consumed its
-- contract then
abbrev pub progress_inside : Packages → Progress → Known → List ℕ → List Value → Progress
progress_inside packages progress k choice args = with_consumed (is_consuming_call packages (call_of k choice args)) k.id (with_action progress)

-- What a source asks for stops with a fault at a place: the source itself gives it there, or the action asked for has it as its `first_fault`. In
-- order: packages, known contracts, levels left, source, authorisers, what was learnt of the children before, seed and path of what is above, index of
-- the next child, progress before it, the place as `Before` tells it from there on, the fault.
abbrev pub Stops : Packages → List Known → ℕ → Source → PartyNames → List ChildResult → Hash → List ℕ → ℕ → Progress → Before → CommandFault → Type 0
Stops packages known left source by seen seed path index progress Here fault =
    (source.turn index seen ≡ Stop fault)
    ⊎ ((demand : Demand) × (source.turn index seen ≡ Child demand) × (first_fault packages known left progress (path ++ index ∷ []) by demand ≡ Some fault))
Stops packages known left source by seen seed path index progress (Past node more) fault =
    (demand : Demand) × (source.turn index seen ≡ Child demand) × IsTree packages known left progress (path ++ index ∷ [])
    (child_seed seed index) by demand node
    × Stops packages known left source by (source.learn seen node.root.action) seed path (index + 1) (progress_with progress node) more fault
Stops packages known left source by seen seed path index progress (Inside k choice args actors more) fault =
    (demand : Demand) × (source.turn index seen ≡ Child demand) × IsBegun packages known left progress by demand k choice args actors
    × Stops packages known (one_less left) (body_source packages (call_of k choice args) (path ++ index ∷ []))
    (authorisers packages k.instance actors) [] (child_seed seed index) (path ++ index ∷ []) 0
    (progress_inside packages progress k choice args) more fault

-- an Exercise that is asked for passes all tests before its body, and stops inside with this fault
pub record IsInside (packages : Packages) (known : List Known) (left : ℕ) (progress : Progress) (path : List ℕ) (seed : Hash) (by : PartyNames)
    (demand : Demand) (fault : CommandFault) : Type 0 where
  pub k : Known
  pub choice : List ℕ
  pub args : List Value
  pub actors : PartyNames
  pub more : Before
  pub begun : IsBegun packages known left progress by demand k choice args actors
  pub stops : Stops packages known (one_less left) (body_source packages (call_of k choice args) path) (authorisers packages k.instance actors) []
      seed path 0 (progress_inside packages progress k choice args) more fault

-- An action that is asked for is refused with a fault: it fails a test itself, or stops inside. In order: the packages, the known contracts, the levels
-- that are left, the progress before it, its path, its seed, its authorisers, the action, the fault.
abbrev pub IsRefused : Packages → List Known → ℕ → Progress → List ℕ → Hash → PartyNames → Demand → CommandFault → Type 0
IsRefused packages known left progress path seed by demand fault =
    (first_fault packages known left progress path by demand ≡ Some fault) ⊎ IsInside packages known left progress path seed by demand fault

-- Commands of these requesters (`act_as`) stop with a fault: at the place of an action, or after all of them with TooBig, where the encoded actions
-- exceed their limit. `seed` is the transaction's.
abbrev pub StopsWith : Packages → List Known → Hash → PartyNames → List Command → CommandFault → Type 0
StopsWith packages known seed act_as commands fault =
    ((before : Before) × Stops packages known MOST_ACTION_DEPTH (commands_source packages known commands) act_as [] seed [] 0 nothing_done before fault)
    ⊎ ((forest : Actions) × Wanted packages known MOST_ACTION_DEPTH (commands_source packages known commands) UnitValue act_as [] seed [] 0 nothing_done forest
    × (MOST_ACTION_BYTES < encoded_bytes forest) × (fault ≡ TooBig (capped (encoded_bytes forest))))
