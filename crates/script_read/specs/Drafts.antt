-- Prepared trees: drafts of actions, each with its children. `hosts` is the topology, `at` the place of the JSON value `d` that is read. An input is
-- the contract that a draft uses: one that is known, or a forged one, whose parts are handed in as they are. An Err is the first fault: Shape says that
-- a value has another form than it should or that a member is absent; NotInteger, Limit and Unknown come of the values and references inside
-- (`Args.antt`, `Refs.antt`).
use Rattle.std.specs.Prelude.{ℕ, ◌+◌, Bool, ◌||◌, List, [], ◌∷◌, Option, Some, None, if◌then◌else◌, Result, Ok, Err, codes, ⊤}
use Rattle.std.specs.Ordering.{nat_cmp, match_ordering}
use Rattle.std.specs.Cmp.Lexicographic.{slice_cmp}
use Rattle.serde_json.specs.Data.{Data, null, boolean, number, string, array, object, Items, no_items, item, Members, no_members, member}
use Rattle.ledger_terms.specs.Forest.{NoRoots, Root, join}
use Rattle.ledger_terms.specs.Drafts.{Drafts}
use Rattle.ledger_terms.specs.declared.draft_action.DraftAction.{DraftAction}
use Rattle.ledger_terms.specs.declared.draft_action.DraftAction.TheVariants.{Create as DraftCreate, Exercise as DraftExercise, Fetch as DraftFetch}
use Rattle.ledger_terms.specs.Pointers.{at_item, at_member}
use Rattle.ledger_terms.specs.declared.host.Host.{Host}
use Rattle.ledger_terms.specs.declared.arg.Arg.{Arg}
use Rattle.ledger_terms.specs.declared.contract_ref.ContractRef.{ContractRef}
use Rattle.ledger_terms.specs.declared.input.Input.{Input}
use Rattle.ledger_terms.specs.declared.input.Input.TheVariants as input
use Rattle.ledger_terms.specs.declared.template_name.TemplateName.{TemplateName}
use Rattle.ledger_terms.specs.Answers.{◌>>=◌, check}
use Rattle.json_walk.specs.declared.limits.TheConstants.{FIELDS, PARAMETERS, DRAFTS, DRAFT_DEPTH}
use Rattle.json_walk.specs.Walk.{within_limit, Place, name_in, truth_in, has_members, item_count, member_of}
use Rattle.json_walk.specs.Texts.{template_in}
use Rattle.lang_read.specs.Parties.{parties_of}
use Rattle.json_walk.specs.declared.walk_fault.WalkFault.{WalkFault}
use Rattle.json_walk.specs.declared.walk_fault.WalkFault.TheVariants.{Shape}
use Rattle.script_read.specs.Refs.{hash_of, reference_of}
use Rattle.script_read.specs.Args.{arg_of, args_in}
use Rattle.script_read.specs.Commands.{reference_in, has_create_members, is_create, is_exercise}

-- ---- inputs

-- whether an input is a known contract: an object `{"known": ..}` with that member alone
unfoldable pub is_known : Data → Bool
is_known d = has_members (codes "known" ∷ []) [] d

-- whether a value is an object with just the members of a forged input
unfoldable pub has_forged_members : Data → Bool
has_forged_members d = has_members (codes "id" ∷ codes "salt" ∷ codes "instance" ∷ []) [] d

-- the id of a forged input where it is no null: a reference, as a Some
unfoldable pub some_id_of : List Host → Place → Data → Result (Option ContractRef) WalkFault
some_id_of hosts at d = do
  reference ← reference_of hosts at d
  Ok (Some reference)

-- the id of a forged input: a reference, or None for null, which stands for the hash of salt and instance
unfoldable pub id_of : List Host → Place → Data → Result (Option ContractRef) WalkFault
id_of hosts at null = Ok None
id_of hosts at (boolean b) = some_id_of hosts at (boolean b)
id_of hosts at (number n) = some_id_of hosts at (number n)
id_of hosts at (string s) = some_id_of hosts at (string s)
id_of hosts at (array ds) = some_id_of hosts at (array ds)
id_of hosts at (object ms) = some_id_of hosts at (object ms)

-- the id in the member `id` of a forged input, None for null; Shape where that member is absent
unfoldable pub id_in : List Host → Place → Data → Result (Option ContractRef) WalkFault
id_in hosts at d = do
  m ← member_of at (codes "id") d
  id_of hosts (at_member at (codes "id")) m

-- the salt in the member `salt` of a forged input, 32 bytes that are written as 64 hexadecimal digits; Shape at the input where the member is absent,
-- at the member where it is no such text
unfoldable pub salt_in : Place → Data → Result (List ℕ) WalkFault
salt_in at d = do
  m ← member_of at (codes "salt") d
  hash_of (at_member at (codes "salt")) m

-- the name of a template and the fields in an object with the members `template` and `fields` alone, as a forged instance and a drafted Create have
-- them
unfoldable pub instance_of : List Host → Place → Data → Result (TemplateName × List Arg) WalkFault
instance_of hosts at d = do
  _ ← check (has_create_members d) (Shape at)
  template ← template_in at d
  fields ← args_in hosts at (codes "fields") FIELDS d
  Ok (template, fields)

-- the name of a template and the fields in the member `instance` of a forged input
unfoldable pub instance_in : List Host → Place → Data → Result (TemplateName × List Arg) WalkFault
instance_in hosts at d = do
  m ← member_of at (codes "instance") d
  instance_of hosts (at_member at (codes "instance")) m

-- the forged input that an object with the members `id`, `salt` and `instance` alone spells; Shape where the value is anything else
unfoldable pub forged_of : List Host → Place → Data → Result Input WalkFault
forged_of hosts at d = do
  _ ← check (has_forged_members d) (Shape at)
  id ← id_in hosts at d
  salt ← salt_in at d
  parts ← instance_in hosts at d
  Ok (input.Forged id salt parts.0 parts.1)

-- the input that is a known contract, by the reference in the member `known`
unfoldable pub known_of : List Host → Place → Data → Result Input WalkFault
known_of hosts at d = do
  reference ← reference_in hosts at (codes "known") d
  Ok (input.Known reference)

-- the input that an object spells: a known contract where `known` is its one member, and else a forged one
unfoldable pub input_of : List Host → Place → Data → Result Input WalkFault
input_of hosts at d = if is_known d then known_of hosts at d else forged_of hosts at d

-- the input in the member `contract` of a draft
unfoldable pub input_in : List Host → Place → Data → Result Input WalkFault
input_in hosts at d = do
  m ← member_of at (codes "contract") d
  input_of hosts (at_member at (codes "contract")) m

-- ---- drafts without children

-- the set of the parties whose names the list in the member `actors` of a draft has; Unknown at one for which nobody of the topology confirms
unfoldable pub actors_in : List Host → Place → Data → Result (List (List ℕ)) WalkFault
actors_in hosts at d = do
  m ← member_of at (codes "actors") d
  parties_of hosts (at_member at (codes "actors")) m

-- the value or the reference to a contract in the member `result` of a drafted Exercise
unfoldable pub result_in : List Host → Place → Data → Result Arg WalkFault
result_in hosts at d = do
  m ← member_of at (codes "result") d
  arg_of hosts (at_member at (codes "result")) m

-- a forest of one draft, without children: what a Create or a Fetch is read as
abbrev pub alone : DraftAction → Drafts
alone a = Root a NoRoots NoRoots

-- the draft of a Create, alone, of the object in `{"create": ..}`
unfoldable pub create_draft_of : List Host → Place → Data → Result Drafts WalkFault
create_draft_of hosts at d = do
  parts ← instance_of hosts at d
  Ok (alone (DraftCreate parts.0 parts.1))

-- whether a value is an object with just the members of a drafted Fetch
unfoldable pub has_fetch_members : Data → Bool
has_fetch_members d = has_members (codes "contract" ∷ codes "actors" ∷ []) [] d

-- the draft of a Fetch, alone, of the object in `{"fetch": ..}`
unfoldable pub fetch_draft_of : List Host → Place → Data → Result Drafts WalkFault
fetch_draft_of hosts at d = do
  _ ← check (has_fetch_members d) (Shape at)
  contract ← input_in hosts at d
  actors ← actors_in hosts at d
  Ok (alone (DraftFetch contract actors))

-- whether a draft is a Fetch: an object with the member `fetch` alone
unfoldable pub is_fetch : Data → Bool
is_fetch d = has_members (codes "fetch" ∷ []) [] d

-- the draft of a Create, alone, in the member `create` of a draft
unfoldable pub create_draft_in : List Host → Place → Data → Result Drafts WalkFault
create_draft_in hosts at d = do
  m ← member_of at (codes "create") d
  create_draft_of hosts (at_member at (codes "create")) m

-- the draft of a Fetch, alone, in the member `fetch` of a draft
unfoldable pub fetch_draft_in : List Host → Place → Data → Result Drafts WalkFault
fetch_draft_in hosts at d = do
  m ← member_of at (codes "fetch") d
  fetch_draft_of hosts (at_member at (codes "fetch")) m

-- ---- an exercise but for its children

-- whether a value is an object with just the members of a drafted Exercise
unfoldable pub has_draft_members : Data → Bool
has_draft_members d =
    has_members (codes "contract" ∷ codes "choice" ∷ codes "args" ∷ codes "actors" ∷ codes "consuming" ∷ codes "result" ∷ codes "children" ∷ []) [] d

-- the first three parts of a drafted Exercise: its input, the name of its choice, and the arguments
unfoldable pub call_of : List Host → Place → Data → Result (Input × List ℕ × List Arg) WalkFault
call_of hosts at d = do
  contract ← input_in hosts at d
  choice ← name_in at (codes "choice") d
  args ← args_in hosts at (codes "args") PARAMETERS d
  Ok (contract, choice, args)

-- the other three parts of a drafted Exercise: its actors, whether it consumes, and its result
unfoldable pub effect_of : List Host → Place → Data → Result (List (List ℕ) × Bool × Arg) WalkFault
effect_of hosts at d = do
  actors ← actors_in hosts at d
  consuming ← truth_in at (codes "consuming") d
  result ← result_in hosts at d
  Ok (actors, consuming, result)

-- the draft of an Exercise without its children, of the object in `{"exercise": ..}`
unfoldable pub exercise_draft_of : List Host → Place → Data → Result DraftAction WalkFault
exercise_draft_of hosts at d = do
  _ ← check (has_draft_members d) (Shape at)
  call ← call_of hosts at d
  effect ← effect_of hosts at d
  Ok (DraftExercise call.0 call.1 call.2 effect.0 effect.1 effect.2)

-- ---- trees

-- whether a value is an object with one member, `create`, `exercise` or `fetch`
unfoldable pub is_draft : Data → Bool
is_draft d = is_create d || (is_exercise d || is_fetch d)

-- Nothing where a draft at this depth, 1 for a root, keeps the limit on depth, 16, else the fault Limit at the draft's place. As drafts are read before
-- their children, the first that breaks it stands at depth 17.
abbrev pub within_tree : Place → ℕ → Result ⊤ WalkFault
within_tree at depth = within_limit at DRAFT_DEPTH depth

-- the draft, without children, of an object that is a Create or a Fetch, as `draft_of` has found before; any other is Shape
unfoldable pub leaf_of : List Host → Place → Data → Result Drafts WalkFault
leaf_of hosts at d = if is_create d then create_draft_in hosts at d else fetch_draft_in hosts at d

-- Each of these takes `depth`, how deep its drafts stand, and `n`, the number of items of all lists of drafts that were begun so far (`drafts_from`
-- has it inside `before`). Beside the forest that it reads it gives that number after it.
abbrev mutual
  -- the draft that a value spells, with all below it, and the count after it: Shape where it has not the form of one, then Limit where it stands
  -- too deep, then a fault inside
  pub draft_of : List Host → Place → ℕ → ℕ → Data → Result (Drafts × ℕ) WalkFault
  draft_of hosts at depth n (object ms) =
      check (is_draft (object ms)) (Shape at)
      >>= (λ _. within_tree at depth
      >>= (λ _. if is_exercise (object ms)
      then exercise_member hosts at depth n ms
      else (leaf_of hosts at (object ms) >>= (λ f. Ok (f, n)))))
  draft_of hosts at depth n null = Err (Shape at)
  draft_of hosts at depth n (boolean b) = Err (Shape at)
  draft_of hosts at depth n (number m) = Err (Shape at)
  draft_of hosts at depth n (string s) = Err (Shape at)
  draft_of hosts at depth n (array ds) = Err (Shape at)

  -- the Exercise in the first member `exercise` of an object at the place `at`, with all below it, and the count after it; Shape where the object has
  -- no such member
  pub exercise_member : List Host → Place → ℕ → ℕ → Members → Result (Drafts × ℕ) WalkFault
  exercise_member hosts at depth n no_members = Err (Shape at)
  exercise_member hosts at depth n (member k d ms) =
      match_ordering (slice_cmp nat_cmp (codes "exercise") k)
      (exercise_member hosts at depth n ms)
      (node_of hosts (at_member at (codes "exercise")) depth n d)
      (exercise_member hosts at depth n ms)

  -- the Exercise of the object in `{"exercise": ..}`, with all below it, and the count after it
  pub node_of : List Host → Place → ℕ → ℕ → Data → Result (Drafts × ℕ) WalkFault
  node_of hosts at depth n (object ms) =
      exercise_draft_of hosts at (object ms)
      >>= (λ a. children_member hosts at depth n ms
      >>= (λ c. Ok (Root a c.0 NoRoots, c.1)))
  node_of hosts at depth n null = Err (Shape at)
  node_of hosts at depth n (boolean b) = Err (Shape at)
  node_of hosts at depth n (number m) = Err (Shape at)
  node_of hosts at depth n (string s) = Err (Shape at)
  node_of hosts at depth n (array ds) = Err (Shape at)

  -- the drafts in the first member `children` of a drafted Exercise that stands at `depth`, which stand one deeper, and the count after them; Shape
  -- where it has no such member
  pub children_member : List Host → Place → ℕ → ℕ → Members → Result (Drafts × ℕ) WalkFault
  children_member hosts at depth n no_members = Err (Shape at)
  children_member hosts at depth n (member k d ms) =
      match_ordering (slice_cmp nat_cmp (codes "children") k)
      (children_member hosts at depth n ms)
      (tree_of hosts (at_member at (codes "children")) (depth + 1) n d)
      (children_member hosts at depth n ms)

  -- the drafts of a list, all at `depth`, with all below them, and the count after them: Shape where it is no list, Limit where the count with its
  -- length is too great, which is tried before its items are read
  pub tree_of : List Host → Place → ℕ → ℕ → Data → Result (Drafts × ℕ) WalkFault
  tree_of hosts at depth n (array ds) =
      within_limit at DRAFTS (n + item_count ds)
      >>= (λ _. drafts_from hosts at depth 0 (NoRoots, n + item_count ds) ds)
  tree_of hosts at depth n null = Err (Shape at)
  tree_of hosts at depth n (boolean b) = Err (Shape at)
  tree_of hosts at depth n (number m) = Err (Shape at)
  tree_of hosts at depth n (string s) = Err (Shape at)
  tree_of hosts at depth n (object ms) = Err (Shape at)

  -- Reads the items of a list of drafts, of which the first here is item i. `before` has the drafts of the items before them and the count so far, and
  -- the result has both with the drafts that are read here.
  pub drafts_from : List Host → Place → ℕ → ℕ → Drafts × ℕ → Items → Result (Drafts × ℕ) WalkFault
  drafts_from hosts at depth i before no_items = Ok before
  drafts_from hosts at depth i before (item d ds) =
      draft_of hosts (at_item at i) depth before.1 d
      >>= (λ f. drafts_from hosts at depth (i + 1) (join before.0 f.0, f.1) ds)
