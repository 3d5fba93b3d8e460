-- A prepared tree with its seeds and ids, or the first fault. `known` are the contracts that labels and inputs may name.
use Rattle.std.specs.Prelude.{ℕ, ◌+◌, ◌-◌, Bool, true, ◌&&◌, cond, nat_le, is_some, List, [], ◌∷◌, ◌++◌, Option, Some, None, Result, Ok, Err}
use Rattle.std.specs.List.{list_all}
use Rattle.ledger_terms.specs.declared.known.Known.{Known}
use Rattle.ledger_terms.specs.declared.instance.Instance.{Instance}
use Rattle.ledger_terms.specs.declared.value.Value.{Value}
use Rattle.ledger_terms.specs.declared.template_name.TemplateName.{TemplateName}
use Rattle.ledger_terms.specs.declared.contract_ref.ContractRef.{ContractRef}
use Rattle.ledger_terms.specs.declared.contract_ref.ContractRef.TheVariants.{Id, Label}
use Rattle.ledger_terms.specs.declared.arg.Arg.{Arg}
use Rattle.ledger_terms.specs.declared.arg.Arg.TheVariants.{Plain, Contract}
use Rattle.ledger_terms.specs.declared.input.Input.{Input}
use Rattle.ledger_terms.specs.declared.input.Input.TheVariants.{Known as KnownInput, Forged}
use Rattle.ledger_terms.specs.declared.action.Action.{Action}
use Rattle.ledger_terms.specs.declared.action.Action.TheVariants.{Create, Exercise, Fetch}
use Rattle.ledger_terms.specs.Drafts.{Drafts}
use Rattle.ledger_terms.specs.declared.draft_action.DraftAction.{DraftAction}
use Rattle.ledger_terms.specs.declared.draft_action.DraftAction.TheVariants.{Create as DraftCreate, Exercise as DraftExercise, Fetch as DraftFetch}
use Rattle.ledger_terms.specs.Forest.{NoRoots, Root, join}
use Rattle.ledger_terms.specs.Trees.{Actions}
use Rattle.ledger_terms.specs.Grown.{tree_of}
use Rattle.ledger_terms.specs.Trees.{ActionNode}
use Rattle.ledger_terms.specs.declared.limits.TheConstants.{MOST_ACTIONS, MOST_ACTION_DEPTH}
use Rattle.interpret.specs.declared.command_fault.CommandFault.{CommandFault}
use Rattle.interpret.specs.declared.command_fault.CommandFault.TheVariants.{ContractUnknown, TooDeep, TooMany}
use Rattle.interpret.specs.Ids.{Hash, child_seed, contract_id, label_seed}
use Rattle.interpret.specs.Sizes.{are_spelled}
use Rattle.interpret.specs.Usable.{find_known, find_salt}
use Rattle.interpret.specs.Act.{on}
use Rattle.interpret.specs.Commands.{referenced_values, referenced_id, referenced_value, where_there}
use Rattle.interpret.specs.Interpreted.{if_small}
use Rattle.interpret.specs.Stops.{is_zero}

-- whether a reference names a contract as far as labels go: a label has to name a known contract, an id is taken as it is
abbrev pub is_named : List Known → ContractRef → Bool
is_named known (Id id) = true
is_named known (Label l) = is_some (find_salt (label_seed l) known)

-- whether a field or argument that is handed in is a value, an id, or a label that names a known contract
abbrev pub is_arg_named : List Known → Arg → Bool
is_arg_named known (Plain v) = true
is_arg_named known (Contract r) = is_named known r

-- whether each label among fields or arguments names a known contract
abbrev pub are_named : List Known → List Arg → Bool
are_named known args = list_all (λ a. is_arg_named known a) args

-- whether the reference that tells the id of a contract that is handed in, if it is a label, names a known contract; true where it is an id itself, and
-- where there is none
abbrev pub is_id_named : List Known → Option ContractRef → Bool
is_id_named known None = true
is_id_named known (Some r) = is_named known r

-- whether each label in the input of a draft names a known contract
abbrev pub is_input_named : List Known → Input → Bool
is_input_named known (KnownInput r) = is_named known r
is_input_named known (Forged id salt template fields) = is_id_named known id && are_named known fields

-- whether each label in a draft, without its consequences, names a known contract
abbrev pub is_draft_named : List Known → DraftAction → Bool
is_draft_named known (DraftCreate template fields) = are_named known fields
is_draft_named known (DraftExercise input choice args actors consuming result) =
    is_input_named known input && (are_named known args && is_arg_named known result)
is_draft_named known (DraftFetch input actors) = is_input_named known input

-- whether each label in drafts, with all their consequences, names a known contract
abbrev pub all_named : List Known → Drafts → Bool
all_named known NoRoots = true
all_named known (Root d children others) = all_named known children && (all_named known others && is_draft_named known d)

-- the known contract that a reference names, by its id or by the seed of its label; None where none is known
abbrev pub known_of : List Known → ContractRef → Option Known
known_of known (Id id) = find_known id known
known_of known (Label l) = find_salt (label_seed l) known

-- The id of a contract with this salt. An instance without a spelling has no id, and gets the salt in its place; no transaction has it, since the
-- encoded bytes of its action exceed the limit.
unfoldable pub id_of : Hash → Instance → Hash
id_of salt i = cond (are_spelled i.fields) (contract_id salt i) salt

-- The id of a contract that is handed in with this salt and instance: the one that the reference with it names, or without one that of salt and
-- instance. None for a label that names no known contract.
abbrev pub forged_id : List Known → Option ContractRef → Hash → Instance → Option Hash
forged_id known None salt i = Some (id_of salt i)
forged_id known (Some r) salt i = referenced_id known r

-- what `go` makes of the values of fields, and None where they aren't there
abbrev pub with_fields : Option (List Value) → (List Value → Option Known) → Option Known
with_fields None go = None
with_fields (Some values) go = go values

-- the contract of this salt and instance with an id that was looked up; None without an id
abbrev pub with_id : Hash → Instance → Option Hash → Option Known
with_id salt i None = None
with_id salt i (Some id) = Some (record { id = id; salt = salt; instance = i })

-- the instance of a template with these values
abbrev pub instance_of : TemplateName → List Value → Instance
instance_of template values = record { template = template; fields = values }

-- The contract that is handed in; None where a label among its parts names no known contract. In order: the known contracts, the reference that tells
-- its id, if there is one, its salt, its template, its fields.
abbrev pub forged_contract : List Known → Option ContractRef → Hash → TemplateName → List Arg → Option Known
forged_contract known id salt template fields =
    with_fields (referenced_values known fields) (λ values. with_id salt (instance_of template values) (forged_id known id salt (instance_of template values)))

-- The contract that the input of a draft stands for: a known one, whatever the tree itself does, or what is handed in. None where a contract
-- that it says is known isn't, or a label in it names no known contract.
abbrev pub input_of : List Known → Input → Option Known
input_of known (KnownInput r) = known_of known r
input_of known (Forged id salt template fields) = forged_contract known id salt template fields

-- what `go` makes of what was looked up, and None where it isn't there
abbrev pub there : {A B : Type 0} → Option A → (A → Option B) → Option B
there None go = None
there (Some x) go = go x

-- The Exercise of a draft; None where its contract is said to be known and isn't, or a label in it names no known contract. In order: the known
-- contracts, the input, the choice's name, the arguments, the actors, whether it is consuming, the result.
abbrev pub exercise_of_draft : List Known → Input → List ℕ → List Arg → List (List ℕ) → Bool → Arg → Option Action
exercise_of_draft known input choice args actors consuming result =
    there (input_of known input) (λ k. there (referenced_values known args) (λ values. there (referenced_value known result) (λ v.
    Some (Exercise k.id k.salt k.instance choice values actors consuming v))))

-- The Fetch of a draft, of this input and by these actors. None where its contract is said to be known and isn't, or a label in it names no known
-- contract.
abbrev pub fetch_of_draft : List Known → Input → List (List ℕ) → Option Action
fetch_of_draft known input actors = there (input_of known input) (λ k. Some (Fetch k.id k.salt k.instance actors))

-- The action of a draft with this seed. None where its contract is said to be known and isn't, or a label in it names no known contract.
abbrev pub filled_action : List Known → Hash → DraftAction → Option Action
filled_action known seed (DraftCreate template fields) =
    there (referenced_values known fields) (λ values. Some (Create (id_of seed (instance_of template values)) (instance_of template values)))
filled_action known seed (DraftExercise input choice args actors consuming result) = exercise_of_draft known input choice args actors consuming result
filled_action known seed (DraftFetch input actors) = fetch_of_draft known input actors

-- One draft as a tree, with how many actions there are then, or the first fault: depth, number of actions and contract are tried, then what stands
-- below it. In order: the known contracts, the levels that are left, its path, its seed, how many actions stand before it, the draft, and what fills
-- the drafts below it after so many actions.
abbrev pub fill_one : List Known → ℕ → List ℕ → Hash → ℕ → DraftAction → (ℕ → Result (Actions × ℕ) CommandFault) → Result (Actions × ℕ) CommandFault
fill_one known left path seed count d below =
    cond (is_zero left) (Err (TooDeep path)) (cond (nat_le MOST_ACTIONS count) (Err (TooMany path))
    (where_there (filled_action known seed d) (ContractUnknown path) (λ action.
    on (below (count + 1)) (λ b. Ok (Root (record { seed = seed; action = action }) b.0 NoRoots, b.1)))))

-- Drafts as trees one after another, with how many actions there are then, or the first fault. In order: the known contracts, the levels that are left,
-- the seed and the path of what is above, the index of the first draft, how many actions stand before it, the drafts.
abbrev pub fill_all : List Known → ℕ → Hash → List ℕ → ℕ → ℕ → Drafts → Result (Actions × ℕ) CommandFault
fill_all known left seed path index count NoRoots = Ok (NoRoots, count)
fill_all known left seed path index count (Root d children others) =
    on (fill_one known left (path ++ index ∷ []) (child_seed seed index) count d
    (λ n. fill_all known (left - 1) (child_seed seed index) (path ++ index ∷ []) 0 n children)) (λ x.
    on (fill_all known left seed path (index + 1) x.1 others) (λ y. Ok (join x.0 y.0, y.1)))

-- The first of these drafts alone, as a tree with what stands below it, and with how many actions there are then; no drafts give no tree. In order: the
-- known contracts, the levels that are left, its path, its seed, how many actions stand before it, the drafts.
abbrev pub fill_tree : List Known → ℕ → List ℕ → Hash → ℕ → Drafts → Result (Actions × ℕ) CommandFault
fill_tree known left path seed count NoRoots = Ok (NoRoots, count)
fill_tree known left path seed count (Root d children others) = fill_one known left path seed count d (λ n. fill_all known (left - 1) seed path 0 n children)

-- What the code's `fill_draft` answers, and the count of actions that it leaves where it was handed in, as `fill_tree` answers both; so contracts
-- compare them. With a fault the count has no effect.
abbrev pub node_answer : Result ActionNode CommandFault → ℕ → Result (Actions × ℕ) CommandFault
node_answer (Ok n) count = Ok (tree_of n, count)
node_answer (Err e) count = Err e

-- What the code's `fill_list` answers, and the count of actions that it leaves where it was handed in, as `fill_all` answers both; so contracts compare
-- them. With a fault the count has no effect.
abbrev pub list_answer : Result Actions CommandFault → ℕ → Result (Actions × ℕ) CommandFault
list_answer (Ok f) count = Ok (f, count)
list_answer (Err e) count = Err e

-- the trees of the first argument in front of those that were filled, with the count of these; a fault stays that fault (only a proof about loops names
-- it)
abbrev pub behind : Actions → Result (Actions × ℕ) CommandFault → Result (Actions × ℕ) CommandFault
behind front r = on r (λ y. Ok (join front y.0, y.1))

-- Root drafts as trees one after another, with how many actions there are then, or the first fault; the labels of each root are tried before its
-- actions (ContractUnknown at the root). In order: the known contracts, the transaction's seed, the index of the first draft, how many actions stand
-- before it, the drafts.
abbrev pub fill_roots : List Known → Hash → ℕ → ℕ → Drafts → Result (Actions × ℕ) CommandFault
fill_roots known seed index count NoRoots = Ok (NoRoots, count)
fill_roots known seed index count (Root d children others) =
    cond (all_named known (Root d children NoRoots))
    (on (fill_tree known MOST_ACTION_DEPTH (index ∷ []) (child_seed seed index) count (Root d children NoRoots)) (λ x.
    on (fill_roots known seed (index + 1) x.1 others) (λ y. Ok (join x.0 y.0, y.1))))
    (Err (ContractUnknown (index ∷ [])))

-- all root drafts of a transaction with this seed as trees, or the first fault; the encoded bytes aren't tried yet
abbrev pub filled_roots : List Known → Hash → Drafts → Result Actions CommandFault
filled_roots known seed drafts = on (fill_roots known seed 0 0 drafts) (λ x. Ok x.0)

-- The transaction with this seed that drafts ask for over these known contracts, or the first fault: what `fill` answers. The last test is that of the
-- encoded bytes.
unfoldable pub filling : List Known → Hash → Drafts → Result Actions CommandFault
filling known seed drafts = on (filled_roots known seed drafts) if_small
