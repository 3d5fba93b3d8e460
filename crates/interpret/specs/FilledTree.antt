-- A finished tree that is what drafts ask for, and where drafts stop: recognised from the drafts as they stand. `known` are the contracts
-- that labels and inputs may name.
use Rattle.std.specs.Prelude.{◌≡◌, ℕ, suc, ◌<◌, ◌≤◌, Bool, true, ◌&&◌, if◌then◌else◌, nat_le, nat_lt, is_some, length, List, [], ◌∷◌, ◌++◌}
use Rattle.std.specs.Prelude.{Option, Some, None, flat_map, ◌⊎◌}
use Rattle.ledger_terms.specs.declared.known.Known.{Known}
use Rattle.ledger_terms.specs.declared.instance.Instance.{Instance}
use Rattle.ledger_terms.specs.declared.value.Value.{Value}
use Rattle.ledger_terms.specs.declared.value.Value.TheVariants.{Contract as ContractValue}
use Rattle.ledger_terms.specs.declared.contract_ref.ContractRef.{ContractRef}
use Rattle.ledger_terms.specs.declared.contract_ref.ContractRef.TheVariants.{Id, Label}
use Rattle.ledger_terms.specs.declared.arg.Arg.{Arg}
use Rattle.ledger_terms.specs.declared.arg.Arg.TheVariants.{Plain, Contract}
use Rattle.ledger_terms.specs.declared.input.Input.{Input}
use Rattle.ledger_terms.specs.declared.input.Input.TheVariants.{Known as KnownInput, Forged}
use Rattle.ledger_terms.specs.declared.action.Action.{Action}
use Rattle.ledger_terms.specs.declared.action.Action.TheVariants.{Create, Exercise, Fetch}
use Rattle.ledger_terms.specs.Drafts.{Drafts}
use Rattle.ledger_terms.specs.declared.draft_action.DraftAction.{DraftAction}
use Rattle.ledger_terms.specs.declared.draft_action.DraftAction.TheVariants.{Create as DraftCreate, Exercise as DraftExercise, Fetch as DraftFetch}
use Rattle.ledger_terms.specs.Forest.{Forest, NoRoots, Root, preorder, size, number_from, paths_from}
use Rattle.ledger_terms.specs.Trees.{Actions}
use Rattle.wire_form.specs.Lengths.{capped}
use Rattle.interpret.specs.declared.command_fault.CommandFault.{CommandFault}
use Rattle.interpret.specs.declared.command_fault.CommandFault.TheVariants.{ContractUnknown, TooDeep, TooMany, TooBig}
use Rattle.interpret.specs.Ids.{Hash, child_seed, label_seed}
use Rattle.interpret.specs.Usable.{find_known, find_salt}
use Rattle.wire_form.specs.Encoded.{encoded_bytes}
use Rattle.ledger_terms.specs.Depth.{depth}
use Rattle.ledger_terms.specs.declared.limits.TheConstants.{MOST_ACTIONS, MOST_ACTION_DEPTH, MOST_ACTION_BYTES}
use Rattle.interpret.specs.Filled.{id_of, is_draft_named}

-- A reference names the contract of id `named`: an id names itself, and a label the first known contract whose salt is the seed of the label's action.
abbrev pub Names : List Known → ContractRef → Hash → Type 0
Names known (Id id) named = named ≡ id
Names known (Label l) named = (k : Known) × (find_salt (label_seed l) known ≡ Some k) × (named ≡ k.id)

-- the value is that of a field or argument that is handed in; a reference gives the contract that it names
abbrev pub IsValueOf : List Known → Arg → Value → Type 0
IsValueOf known (Plain v) value = value ≡ v
IsValueOf known (Contract r) value = (id : Hash) × Names known r id × (value ≡ ContractValue id)

-- the values are those of fields or arguments that are handed in, one for each, in order
abbrev pub AreValuesOf : List Known → List Arg → List Value → Type 0
AreValuesOf known [] [] = Unit {0}
AreValuesOf known (a ∷ as') (v ∷ vs) = IsValueOf known a v × AreValuesOf known as' vs
AreValuesOf known as' vs = ⊥

-- the reference names the known contract k, by its id or by the seed of its label
abbrev pub IsKnownAs : List Known → ContractRef → Known → Type 0
IsKnownAs known (Id id) k = find_known id known ≡ Some k
IsKnownAs known (Label l) k = find_salt (label_seed l) known ≡ Some k

-- The last argument, `id`, is that of a contract that is handed in with this salt and instance: the one that the reference with it names, or without
-- one the hash of both (`id_of`).
abbrev pub IsForgedId : List Known → Option ContractRef → Hash → Instance → Hash → Type 0
IsForgedId known None salt i id = id ≡ id_of salt i
IsForgedId known (Some r) salt i id = Names known r id

-- the input of a draft stands for the contract of this id, salt and instance
abbrev pub IsInputOf : List Known → Input → Hash → Hash → Instance → Type 0
IsInputOf known (KnownInput r) id salt i = IsKnownAs known r (record { id = id; salt = salt; instance = i })
IsInputOf known (Forged given salt' template fields) id salt i =
    (salt ≡ salt') × (i.template ≡ template) × AreValuesOf known fields i.fields × IsForgedId known given salt i id

-- the action, which has this seed, is that of the draft
abbrev pub IsActionOf : List Known → Hash → DraftAction → Action → Type 0
IsActionOf known seed (DraftCreate template fields) (Create id i) =
    (i.template ≡ template) × AreValuesOf known fields i.fields × (id ≡ id_of seed i)
IsActionOf known seed (DraftExercise input choice args actors consuming result) (Exercise id salt i choice' args' actors' consuming' result') =
    IsInputOf known input id salt i × (choice' ≡ choice) × AreValuesOf known args args' × (actors' ≡ actors) × (consuming' ≡ consuming)
    × IsValueOf known result result'
IsActionOf known seed (DraftFetch input actors) (Fetch id salt i actors') = IsInputOf known input id salt i × (actors' ≡ actors)
IsActionOf known seed draft action = ⊥

-- The trees have the shape of the drafts, and each action is that of its draft and has the seed of its place below `seed`. In order: the known
-- contracts, that seed, the index of the first draft, the drafts, the trees.
abbrev pub AreFilled : List Known → Hash → ℕ → Drafts → Actions → Type 0
AreFilled known seed index NoRoots NoRoots = Unit {0}
AreFilled known seed index (Root d drafts others) (Root act consequences more) =
    (act.seed ≡ child_seed seed index)
    × IsActionOf known act.seed d act.action
    × AreFilled known act.seed 0 drafts consequences
    × AreFilled known seed (suc index) others more
AreFilled known seed index drafts actions = ⊥

-- the transaction with this seed that drafts ask for, which keeps the limits
pub record IsFilled (known : List Known) (seed : Hash) (drafts : Drafts) (forest : Actions) : Type 0 where
  pub trees : AreFilled known seed 0 drafts forest
  pub few : size forest ≤ MOST_ACTIONS
  pub shallow : depth forest ≤ MOST_ACTION_DEPTH
  pub small : encoded_bytes forest ≤ MOST_ACTION_BYTES

-- ---- where drafts stop

-- a draft with its number in pre-order, from 0, and its path
abbrev pub Placed : Type 0
Placed = ℕ × (List ℕ × DraftAction)

-- whether the input of a draft names a contract that is known; true of one that hands a contract in
abbrev pub is_input_known : List Known → Input → Bool
is_input_known known (KnownInput (Id id)) = is_some (find_known id known)
is_input_known known (KnownInput (Label l)) = is_some (find_salt (label_seed l) known)
is_input_known known (Forged given salt template fields) = true

-- whether the contract that a draft says is known is known; true of a Create, which names none
abbrev pub is_contract_known : List Known → DraftAction → Bool
is_contract_known known (DraftCreate template fields) = true
is_contract_known known (DraftExercise input choice args actors consuming result) = is_input_known known input
is_contract_known known (DraftFetch input actors) = is_input_known known input

-- The tests of one draft in order: its depth of at most 16, its number below 64, and whether its contract is known. Each is true where it passes, and
-- has beside it the fault that it gives where it is false.
abbrev pub action_tests : List Known → Placed → List (Bool × CommandFault)
action_tests known x =
    (nat_le (length (x.1).0) MOST_ACTION_DEPTH, TooDeep (x.1).0)
    ∷ (nat_lt x.0 MOST_ACTIONS, TooMany (x.1).0)
    ∷ (is_contract_known known (x.1).1, ContractUnknown (x.1).0)
    ∷ []

-- whether every label in these drafts, with all their consequences, names a known contract
abbrev pub are_placed_named : List Known → Forest Placed → Bool
are_placed_named known NoRoots = true
are_placed_named known (Root x below others) =
    are_placed_named known below && (are_placed_named known others && is_draft_named known (x.1).1)

-- the tests of root drafts in order: for each root that of its labels, and then those of its actions in pre-order
abbrev pub root_tests : List Known → Forest Placed → List (Bool × CommandFault)
root_tests known NoRoots = []
root_tests known (Root x below others) =
    (are_placed_named known (Root x below NoRoots), ContractUnknown (x.1).0)
    ∷ (flat_map (action_tests known) (x ∷ preorder below) ++ root_tests known others)

-- the tests of drafts in order, but for that of the encoded bytes
abbrev pub tests_of : List Known → Drafts → List (Bool × CommandFault)
tests_of known drafts = root_tests known (number_from 0 (paths_from [] 0 drafts))

-- the fault of the first test that is false; None where all are true
abbrev pub first_failing : List (Bool × CommandFault) → Option CommandFault
first_failing [] = None
first_failing (t ∷ ts) = if t.0 then first_failing ts else Some t.1

-- Drafts of a transaction with this seed stop with a fault (the last argument): the first test that fails gives it; or none fails, the encoded bytes of
-- their transaction exceed the limit, and it is TooBig.
abbrev pub FillStops : List Known → Hash → Drafts → CommandFault → Type 0
FillStops known seed drafts fault =
    (first_failing (tests_of known drafts) ≡ Some fault)
    ⊎ ((forest : Actions) × AreFilled known seed 0 drafts forest × (size forest ≤ MOST_ACTIONS) × (depth forest ≤ MOST_ACTION_DEPTH)
    × (MOST_ACTION_BYTES < encoded_bytes forest) × (fault ≡ TooBig (capped (encoded_bytes forest))))
