-- A finished tree that is as wanted: recognised, action by action, from what stands before it.
use Rattle.std.specs.Prelude.{◌≡◌, ℕ, zero, suc, ◌+◌, ◌<◌, ◌≤◌, true, List, [], ◌∷◌, ◌++◌, Some}
use Rattle.ledger_terms.specs.declared.value.Value.{Value}
use Rattle.ledger_terms.specs.declared.value.Value.TheVariants.{Unit as UnitValue}
use Rattle.ledger_terms.specs.declared.known.Known.{Known}
use Rattle.ledger_terms.specs.declared.command.Command.{Command}
use Rattle.ledger_terms.specs.declared.action.Action.{Action}
use Rattle.ledger_terms.specs.declared.action.Action.TheVariants.{Create, Exercise, Fetch}
use Rattle.ledger_terms.specs.Trees.{ActionNode}
use Rattle.ledger_terms.specs.Forest.{NoRoots, Root, preorder}
use Rattle.ledger_terms.specs.declared.act.Act.{Act}
use Rattle.ledger_terms.specs.Trees.{Actions}
use Rattle.ledger_terms.specs.declared.limits.TheConstants.{MOST_ACTIONS, MOST_ACTION_DEPTH, MOST_ACTION_BYTES}
use Rattle.ledger_model.specs.Language.{roles_of}
use Rattle.ledger_model.specs.Conformance.{Demands, Possible}
use Rattle.ledger_model.specs.Authority.{is_authorised, authorisers_below}
use Rattle.ledger_model.specs.declared.step.ChildResult.{ChildResult}
use Rattle.lang_eval.specs.Found.{Packages}
use Rattle.lang_eval.specs.Parts.{PartyNames}
use Rattle.interpret.specs.declared.demand.Demand.{Demand}
use Rattle.interpret.specs.declared.progress.Progress.{Progress}
use Rattle.interpret.specs.Ids.{Hash, child_seed, contract_id}
use Rattle.interpret.specs.Language.{the_language}
use Rattle.interpret.specs.Tested.{fetchers}
use Rattle.interpret.specs.Usable.{usable}
use Rattle.interpret.specs.Act.{Source, End, Child, body_source, step_of, with_action, with_created, with_consumed}
use Rattle.interpret.specs.Commands.{commands_source}
use Rattle.interpret.specs.Interpreted.{nothing_done}
use Rattle.wire_form.specs.Encoded.{encoded_bytes}

-- The contract of an action is one that it may use: a Create has the id of its seed and instance, and what another action uses is known or
-- was created before, and wasn't consumed before. `progress` is what the transaction did before the action, `seed` the action's.
abbrev pub IsInput : Packages → List Known → Progress → Hash → Action → Type 0
IsInput packages known progress seed (Create id i) = id ≡ contract_id seed i
IsInput packages known progress seed (Exercise id salt i choice args actors consuming result) =
    usable packages known progress id i.template ≡ Some (record { id = id; salt = salt; instance = i })
IsInput packages known progress seed (Fetch id salt i actors) =
    usable packages known progress id i.template ≡ Some (record { id = id; salt = salt; instance = i })

-- the actors of a Fetch are the set of stakeholders among the authorisers `by`; of other actions this says nothing
abbrev pub IsFetchedBy : Packages → PartyNames → Action → Type 0
IsFetchedBy packages by (Create id i) = Unit {0}
IsFetchedBy packages by (Exercise id salt i choice args actors consuming result) = Unit {0}
IsFetchedBy packages by (Fetch id salt i actors) = actors ≡ fetchers packages i by

-- what an action has to meet by itself, after this progress, authorised by `by`, with this seed; what stands below it isn't asked
pub record IsSound (packages : Packages) (known : List Known) (progress : Progress) (by : PartyNames) (seed : Hash) (action : Action) : Type 0 where
  pub input : IsInput packages known progress seed action
  pub possible : Possible (the_language packages) action
  pub authorised : is_authorised (roles_of (the_language packages)) by action ≡ true
  pub fetched : IsFetchedBy packages by action

-- what a transaction did so far, with one more action, which has this seed
abbrev pub after_action : Progress → Hash → Action → Progress
after_action p seed (Create id i) = with_created (record { id = id; salt = seed; instance = i }) (with_action p)
after_action p seed (Exercise id salt i choice args actors consuming result) = with_consumed consuming id (with_action p)
after_action p seed (Fetch id salt i actors) = with_action p

-- what a transaction did, with one more action
abbrev pub after : Progress → Act → Progress
after p act = after_action p act.seed act.action

-- what a transaction did, with more actions, in order
abbrev pub after_all : Progress → List Act → Progress
after_all p [] = p
after_all p (act ∷ more) = after_all (after p act) more

-- the number less one, and 0 of 0: the levels that are left below an action
abbrev pub one_less : ℕ → ℕ
one_less zero = zero
one_less (suc n) = n

-- a source that asks for nothing and ends with Unit, as below a Create or a Fetch
abbrev pub no_source : Source
no_source = record { turn = λ index seen. End UnitValue; learn = λ seen a. [] }

-- what asks for the consequences of the action at a path: the body of an Exercise's choice, and nothing for the others
abbrev pub source_of : Packages → List ℕ → Action → Source
source_of packages path (Create id i) = no_source
source_of packages path (Exercise id salt i choice args actors consuming result) =
    body_source packages (record { id = id; instance = i; choice = choice; args = args }) path
source_of packages path (Fetch id salt i actors) = no_source

-- what the source of an action's consequences has to end with: the result of an Exercise, and Unit for the others
abbrev pub result_of : Action → Value
result_of (Create id i) = UnitValue
result_of (Exercise id salt i choice args actors consuming result) = result
result_of (Fetch id salt i actors) = UnitValue

-- These trees are all that a source still asks for, to the end with this result: each action is the one asked for, keeps the limits, has its place's
-- seed, is sound, and has its choice's consequences. In order: packages, known contracts, levels left, source, result, authorisers, what was learnt of
-- the children before, seed and path of what is above, index of the first tree, progress before it, the trees.
abbrev pub Wanted : Packages → List Known → ℕ → Source → Value → PartyNames → List ChildResult → Hash → List ℕ → ℕ → Progress → Actions → Type 0
Wanted packages known left source result by seen seed path index progress NoRoots = source.turn index seen ≡ End result
Wanted packages known left source result by seen seed path index progress (Root act consequences others) =
    ((demand : Demand) × (source.turn index seen ≡ Child demand) × Demands (Some (step_of demand)) act.action)
    × (0 < left)
    × (progress.count < MOST_ACTIONS)
    × (act.seed ≡ child_seed seed index)
    × IsSound packages known progress by act.seed act.action
    × Wanted packages known (one_less left) (source_of packages (path ++ index ∷ []) act.action) (result_of act.action)
    (authorisers_below (roles_of (the_language packages)) act.action) [] act.seed (path ++ index ∷ []) 0 (after progress act) consequences
    × Wanted packages known left source result by (source.learn seen act.action) seed path (index + 1)
    (after_all (after progress act) (preorder consequences)) others

-- The transaction that commands ask for: its roots answer the commands in order, 16 levels deep at most, and its encoded
-- actions keep their limit. `seed` is the transaction's, and `act_as` are its requesters.
pub record IsWanted (packages : Packages) (known : List Known) (seed : Hash) (act_as : PartyNames) (commands : List Command) (forest : Actions) : Type 0 where
  pub roots : Wanted packages known MOST_ACTION_DEPTH (commands_source packages known commands) UnitValue act_as [] seed [] 0 nothing_done forest
  pub small : encoded_bytes forest ≤ MOST_ACTION_BYTES

-- The tree `node` is what `demand` asks for at this path, and all of it is as wanted: `seed` is that of its root, which `by` authorises, it may use
-- `left` levels, and `progress` was before it. `Stops` asks this of each tree before the place of a stop.
pub record IsTree (packages : Packages) (known : List Known) (left : ℕ) (progress : Progress) (path : List ℕ) (seed : Hash) (by : PartyNames)
    (demand : Demand) (node : ActionNode) : Type 0 where
  pub some : 0 < left
  pub room : progress.count < MOST_ACTIONS
  pub seeded : node.root.seed ≡ seed
  pub demanded : Demands (Some (step_of demand)) node.root.action
  pub sound : IsSound packages known progress by node.root.seed node.root.action
  pub children : Wanted packages known (one_less left) (source_of packages path node.root.action) (result_of node.root.action)
      (authorisers_below (roles_of (the_language packages)) node.root.action) [] node.root.seed path 0
      (after_action progress node.root.seed node.root.action) node.below

-- what a transaction did, with all actions of one more tree
abbrev pub progress_with : Progress → ActionNode → Progress
progress_with p n = after_all (after p n.root) (preorder n.below)
