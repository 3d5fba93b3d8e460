-- What filling gives is what the first of its tests that fails says.
use Rattle.std.proofs.Common.{◌≡◌, ℕ, zero, suc, ◌+◌, ◌-◌, ◌<◌, Bool, true, false, List, [], ◌∷◌, ◌++◌, length, Option, Some, None, Result, Ok, Err, refl, sym, ap, subst, ◌∙◌, inl, inr, arith}
use Rattle.std.specs.Prelude.{◌&&◌, nat_le, nat_lt, is_some, flat_map}
use Rattle.std.proofs.lemmas.Bool.{cases_Bool}
use Rattle.std.proofs.lemmas.Bool.Decides.{nat_tests}
use Rattle.std.proofs.lemmas.Grind.{flat_map-append}
use Rattle.std.proofs.lemmas.List.{length-append}
use Rattle.ledger_terms.proofs.Deciding.{both}
use Rattle.ledger_terms.specs.declared.known.Known.{Known}
use Rattle.ledger_terms.specs.declared.instance.Instance.{Instance}
use Rattle.ledger_terms.specs.declared.value.Value.{Value}
use Rattle.ledger_terms.specs.declared.value.Value.TheVariants.{Contract as ContractValue}
use Rattle.ledger_terms.specs.declared.contract_ref.ContractRef.{ContractRef}
use Rattle.ledger_terms.specs.declared.contract_ref.ContractRef.TheVariants.{Id, Label}
use Rattle.ledger_terms.specs.declared.arg.Arg.{Arg}
use Rattle.ledger_terms.specs.declared.arg.Arg.TheVariants.{Plain, Contract}
use Rattle.ledger_terms.specs.declared.input.Input.{Input}
use Rattle.ledger_terms.specs.declared.input.Input.TheVariants.{Known as KnownInput, Forged}
use Rattle.ledger_terms.specs.declared.action.Action.{Action}
use Rattle.ledger_terms.specs.declared.action.Action.TheVariants.{Create, Exercise, Fetch}
use Rattle.ledger_terms.specs.Drafts.{Drafts}
use Rattle.ledger_terms.specs.declared.draft_action.DraftAction.{DraftAction}
use Rattle.ledger_terms.specs.declared.draft_action.DraftAction.TheVariants.{Create as DraftCreate, Exercise as DraftExercise, Fetch as DraftFetch}
use Rattle.ledger_terms.specs.Forest.{NoRoots, Root, join, preorder, size, number_from, paths_from}
use Rattle.ledger_terms.specs.Trees.{Actions}
use Rattle.interpret.specs.declared.command_fault.CommandFault.{CommandFault}
use Rattle.interpret.specs.declared.command_fault.CommandFault.TheVariants.{ContractUnknown}
use Rattle.interpret.specs.Ids.{Hash, child_seed, label_seed}
use Rattle.interpret.specs.Usable.{find_salt}
use Rattle.interpret.specs.Act.{on}
use Rattle.interpret.specs.Stops.{is_zero}
use Rattle.interpret.specs.Commands.{referenced_id, id_of_known, referenced_value, referenced_values}
use Rattle.interpret.specs.Filled.{id_of, is_named, is_arg_named, are_named, is_id_named, is_input_named, is_draft_named, all_named, forged_id, instance_of, input_of, filled_action, fill_one, fill_all, fill_roots}
use Rattle.interpret.specs.FilledTree.{IsActionOf, AreFilled, is_input_known, is_contract_known, action_tests, are_placed_named, root_tests, first_failing}
use Rattle.interpret.proofs.DraftActions.{action_from}

-- ---- what is named can be resolved
module _ (known : List Known) where
  found_refers : (o : Option Known) → is_some o ≡ true → (id : Hash) × (id_of_known o ≡ Some id)
  found_refers None h = cc
  found_refers (Some k) h = (k.id, refl)

  named_refers : (r : ContractRef) → is_named known r ≡ true → (id : Hash) × (referenced_id known r ≡ Some id)
  named_refers (Id id) h = (id, refl)
  named_refers (Label l) h = found_refers (find_salt (label_seed l) known) h

  named_value : (a : Arg) → is_arg_named known a ≡ true → (v : Value) × (referenced_value known a ≡ Some v)
  named_value (Plain v) h = (v, refl)
  named_value (Contract r) h = let n = named_refers r h in (ContractValue n.0, rw n.1 refl)

  named_values : (as' : List Arg) → are_named known as' ≡ true → (vs : List Value) × (referenced_values known as' ≡ Some vs)
  named_values [] h = ([], refl)
  named_values (a ∷ as') h =
      let p = both (is_arg_named known a) (are_named known as') h in
      let v = named_value a p.0 in
      let vs = named_values as' p.1 in
      (v.0 ∷ vs.0, rw (v.1, vs.1) refl)

  named_id : (given : Option ContractRef) (salt : Hash) (i : Instance) → is_id_named known given ≡ true → (id : Hash) × (forged_id known given salt i ≡ Some id)
  named_id None salt i h = (id_of salt i, refl)
  named_id (Some r) salt i h = named_refers r h

  named_input : (input : Input) → is_input_named known input ≡ true → is_some (input_of known input) ≡ is_input_known known input
  named_input (KnownInput (Id id)) h = refl
  named_input (KnownInput (Label l)) h = refl
  named_input (Forged given salt template fields) h =
      let p = both (is_id_named known given) (are_named known fields) h in
      let vs = named_values fields p.1 in
      let id = named_id given salt (instance_of template vs.0) p.0 in
      rw (vs.1, id.1) refl

  none_there : {A : Type 0} (o : Option A) → is_some o ≡ false → o ≡ None
  none_there None h = refl
  none_there (Some x) h = cc

  one_there : {A : Type 0} (o : Option A) → is_some o ≡ true → (x : A) × (o ≡ Some x)
  one_there None h = cc
  one_there (Some x) h = (x, refl)

  -- with its labels named, an action is there exactly where its contract is known
  missing : (seed : Hash) (d : DraftAction) → is_draft_named known d ≡ true → is_contract_known known d ≡ false → filled_action known seed d ≡ None
  missing seed (DraftCreate template fields) n h = cc
  missing seed (DraftExercise input choice args actors consuming result) n h =
      let p = both (is_input_named known input) (are_named known args && is_arg_named known result) n in
      rw (none_there (input_of known input) (named_input input p.0 ∙ h)) refl
  missing seed (DraftFetch input actors) n h = rw (none_there (input_of known input) (named_input input n ∙ h)) refl

  exercised_is : (seed : Hash) (input : Input) (choice : List ℕ) (args : List Arg) (actors : List (List ℕ)) (consuming : Bool) (result : Arg)
      (k : Known) (vs : List Value) (v : Value) → input_of known input ≡ Some k → referenced_values known args ≡ Some vs
      → referenced_value known result ≡ Some v
      → filled_action known seed (DraftExercise input choice args actors consuming result) ≡ Some (Exercise k.id k.salt k.instance choice vs actors consuming v)
  exercised_is seed input choice args actors consuming result k vs v p q r = rw (p, q, r) refl

  fetched_is : (seed : Hash) (input : Input) (actors : List (List ℕ)) (k : Known) → input_of known input ≡ Some k
      → filled_action known seed (DraftFetch input actors) ≡ Some (Fetch k.id k.salt k.instance actors)
  fetched_is seed input actors k p = rw p refl

  found : (seed : Hash) (d : DraftAction) → is_draft_named known d ≡ true → is_contract_known known d ≡ true
      → (a : Action) × (filled_action known seed d ≡ Some a)
  found seed (DraftCreate template fields) n h = let vs = named_values fields n in
      (Create (id_of seed (instance_of template vs.0)) (instance_of template vs.0), rw vs.1 refl)
  found seed (DraftExercise input choice args actors consuming result) n h =
      let p = both (is_input_named known input) (are_named known args && is_arg_named known result) n in
      let q = both (are_named known args) (is_arg_named known result) p.1 in
      let k = one_there (input_of known input) (named_input input p.0 ∙ h) in
      let vs = named_values args q.0 in
      let v = named_value result q.1 in (
        Exercise (k.0).id (k.0).salt (k.0).instance choice vs.0 actors consuming v.0,
        exercised_is seed input choice args actors consuming result k.0
            vs.0 v.0 k.1 vs.1 v.1,
      )
  found seed (DraftFetch input actors) n h = let k = one_there (input_of known input) (named_input input n ∙ h) in
      (Fetch (k.0).id (k.0).salt (k.0).instance actors, fetched_is seed input actors k.0 k.1)

is_some_level : (n : ℕ) → 0 < n → is_zero n ≡ false
is_some_level zero h = absurd (omega arith)
is_some_level (suc n) h = refl

-- ---- tests one after another
abbrev pub or_else : Option CommandFault → Option CommandFault → Option CommandFault
or_else None o = o
or_else (Some e) o = Some e

pub failing_append : (xs ys : List (Bool × CommandFault)) → first_failing (xs ++ ys) ≡ or_else (first_failing xs) (first_failing ys)
failing_append [] ys = refl
failing_append (t ∷ xs) ys =
    elim (cases_Bool t.0) [
      | inl b ↦ rw b (failing_append xs ys)
      | inr b ↦ rw b refl
    ]

pub size_paths : (above : List ℕ) (k : ℕ) (f : Drafts) → size (paths_from above k f) ≡ size f
size_paths above k NoRoots = refl
size_paths above k (Root d ds others) = rw (size_paths (above ++ k ∷ []) 0 ds, size_paths above (suc k) others) refl

module _ (known : List Known) where
  abbrev pub tests : ℕ → List ℕ → ℕ → Drafts → List (Bool × CommandFault)
  tests n above k f = flat_map (action_tests known) (preorder (number_from n (paths_from above k f)))

  pub tests_root : (n : ℕ) (above : List ℕ) (k : ℕ) (d : DraftAction) (ds others : Drafts)
      → tests n above k (Root d ds others) ≡ action_tests known (n, (above ++ k ∷ [], d)) ++
      (tests (suc n) (above ++ k ∷ []) 0 ds ++ tests (suc n + size ds) above (suc k) others)
  tests_root n above k d ds others =
      rw (size_paths (above ++ k ∷ []) 0 ds)
      (ap (λ (ts : List (Bool × CommandFault)). action_tests known (n, (above ++ k ∷ [], d)) ++ ts)
      (flat_map-append (action_tests known) (preorder (number_from (suc n) (paths_from (above ++ k ∷ []) 0 ds)))
      (preorder (number_from (suc n + size ds) (paths_from above (suc k) others)))))

  -- what filling some drafts gives, from the first of their tests that fails
  abbrev pub Runs : Option CommandFault → Result (Actions × ℕ) CommandFault → Hash → ℕ → ℕ → Drafts → Type 0
  Runs None r seed index n f = (forest : Actions) × (r ≡ Ok (forest, n + size f)) × AreFilled known seed index f forest
  Runs (Some e) r seed index n f = r ≡ Err e

  module _ (seed sd : Hash) (a : Action) (index n : ℕ) (d : DraftAction) (ds others : Drafts) (r : Result (Actions × ℕ) CommandFault)
      (go : ℕ → Result (Actions × ℕ) CommandFault) (seeded : sd ≡ child_seed seed index) (is : IsActionOf known sd d a) where
    pub joined : (o p : Option CommandFault) → Runs o r sd 0 (suc n) ds → Runs p (go (suc n + size ds)) seed (suc index) (suc n + size ds) others
        → Runs (or_else o p) (on {A = Actions × ℕ} {B = Actions × ℕ}
        (on {A = Actions × ℕ} {B = Actions × ℕ} r (λ b. Ok (Root (record { seed = sd; action = a }) b.0 NoRoots, b.1)))
        (λ x. on {A = Actions × ℕ} {B = Actions × ℕ} (go x.1) (λ y. Ok (join x.0 y.0, y.1)))) seed index n (Root d ds others)
    joined None None x y = (
      Root (record { seed = sd; action = a }) x.0 y.0,
      rw (x.1, y.1)
          (ap (λ (m : ℕ). Ok (Root (record { seed = sd; action = a }) x.0 y.0, m)) (omega arith)),
      (seeded, is, x.2, y.2),
    )
    joined None (Some e) x y = rw (x.1, y) refl
    joined (Some e) p x y = rw x refl

  -- one draft with those below it, where the tests and the filling of those after it are these
  module _ (left : ℕ) (above : List ℕ) (seed : Hash) (index n : ℕ) (d : DraftAction) (ds others : Drafts) (more : List (Bool × CommandFault))
      (go : ℕ → Result (Actions × ℕ) CommandFault) where
    abbrev place : List ℕ
    place = above ++ index ∷ []

    abbrev own : Hash
    own = child_seed seed index

    abbrev pub Whole : List (Bool × CommandFault) → Type 0
    Whole ts =
        Runs (first_failing ts)
        (on {A = Actions × ℕ} {B = Actions × ℕ} (fill_one known left place own n d (λ m. fill_all known (left - 1) own place 0 m ds))
        (λ x. on {A = Actions × ℕ} {B = Actions × ℕ} (go x.1) (λ y. Ok (join x.0 y.0, y.1))))
        seed index n (Root d ds others)

    abbrev pub all_tests : List (Bool × CommandFault)
    all_tests = action_tests known (n, (place, d)) ++ (tests (suc n) place 0 ds ++ more)

    place_length : length place ≡ length above + 1
    place_length = length-append above (index ∷ [])

    deep_case : left ≡ 0 → length above + left ≡ 16 → Whole all_tests
    deep_case none deep =
        let far : nat_le (length place) 16 ≡ false = grind (arith, nat_tests, place_length, deep, none) in
        rw (far, none) refl

    many_case : 0 < left → length above + left ≡ 16 → nat_lt n 64 ≡ false → Whole all_tests
    many_case some deep many =
        let shallow : nat_le (length place) 16 ≡ true = grind (arith, nat_tests, place_length, deep, some) in
        let not_zero : is_zero left ≡ false = is_some_level left some in
        let many' : nat_le 64 n ≡ true = grind (arith, nat_tests, many) in
        rw (shallow, many, not_zero, many') refl

    unknown_case : 0 < left → length above + left ≡ 16 → nat_lt n 64 ≡ true → is_draft_named known d ≡ true → is_contract_known known d ≡ false
        → Whole all_tests
    unknown_case some deep few named unknown =
        let shallow : nat_le (length place) 16 ≡ true = grind (arith, nat_tests, place_length, deep, some) in
        let not_zero : is_zero left ≡ false = is_some_level left some in
        let few' : nat_le 64 n ≡ false = grind (arith, nat_tests, few) in
        rw (shallow, few, unknown, not_zero, few', missing known own d named unknown) refl

    module _ (some : 0 < left) (deep : length above + left ≡ 16) (named : is_draft_named known d ≡ true)
        (x : Runs (first_failing (tests (suc n) place 0 ds)) (fill_all known (left - 1) own place 0 (suc n) ds) own 0 (suc n) ds)
        (y : Runs (first_failing more) (go (suc n + size ds)) seed (suc index) (suc n + size ds) others) where
      known_case : nat_lt n 64 ≡ true → is_contract_known known d ≡ true → Whole all_tests
      known_case few is =
          let shallow : nat_le (length place) 16 ≡ true = grind (arith, nat_tests, place_length, deep, some) in
          let not_zero : is_zero left ≡ false = is_some_level left some in
          let few' : nat_le 64 n ≡ false = grind (arith, nat_tests, few) in
          let a = found known own d named is in
          let one : n + 1 ≡ suc n = omega arith in
          rw (shallow, few, is, not_zero, few', a.1, one, failing_append (tests (suc n) place 0 ds) more)
          (joined seed own a.0 index n d ds others (fill_all known (left - 1) own place 0 (suc n) ds) go refl (action_from known own d a.0 a.1)
          (first_failing (tests (suc n) place 0 ds)) (first_failing more) x y)

      pub one_law : Whole all_tests
      one_law =
          elim (cases_Bool (nat_lt n 64)) [
            | inr many ↦ many_case some deep many
            | inl few ↦ elim (cases_Bool (is_contract_known known d)) [
              | inr unknown ↦ unknown_case some deep few named unknown
              | inl is ↦ known_case few is
            ]
          ]

-- ---- all of a list of drafts
module _ (known : List Known) where
  -- a level less, where one was left
  one_down : (above : List ℕ) (index left : ℕ) → 0 < left → length above + left ≡ 16 → length (above ++ index ∷ []) + (left - 1) ≡ 16
  one_down above index left some deep = let e : length (above ++ index ∷ []) ≡ length above + 1 = length-append above (index ∷ []) in
      omega (arith, e, deep, some)

  abbrev Next : (left : ℕ) (above : List ℕ) (seed : Hash) (index n : ℕ) (others : Drafts) → Type 0
  Next left above seed index n others = Runs known (first_failing (tests known n above (suc index) others))
      (fill_all known left seed above (index + 1) n others) seed (suc index) n others

  next_is : (left : ℕ) (above : List ℕ) (seed : Hash) (index n : ℕ) (others : Drafts)
      → Runs known (first_failing (tests known n above (suc index) others)) (fill_all known left seed above (suc index) n others) seed
      (suc index) n others → Next left above seed index n others
  next_is left above seed index n others h =
      let e : suc index ≡ index + 1 = omega arith in
      subst (λ (i : ℕ). Runs known (first_failing (tests known n above (suc index) others)) (fill_all known left seed above i n others) seed
      (suc index) n others) e h

  pub all_law : (f : Drafts) (left : ℕ) (above : List ℕ) (seed : Hash) (index n : ℕ) → length above + left ≡ 16 → all_named known f ≡ true
      → Runs known (first_failing (tests known n above index f)) (fill_all known left seed above index n f) seed index n f
  all_law NoRoots left above seed index n deep named = (NoRoots, ap (λ (m : ℕ). Ok (NoRoots, m)) (omega arith), tt)
  all_law (Root d ds others) zero above seed index n deep named =
      subst (λ (ts : List (Bool × CommandFault)). Runs known (first_failing ts) (fill_all known 0 seed above index n (Root d ds others)) seed index n
      (Root d ds others)) (sym (tests_root known n above index d ds others))
      (deep_case known 0 above seed index n d ds others (tests known (suc n + size ds) above (suc index) others)
      (λ m. fill_all known 0 seed above (index + 1) m others) refl deep)
  all_law (Root d ds others) (suc l) above seed index n deep named =
      let some : 0 < suc l = omega arith in
      let p = both (all_named known ds) (all_named known others && is_draft_named known d) named in
      let q = both (all_named known others) (is_draft_named known d) p.1 in
      subst (λ (ts : List (Bool × CommandFault)). Runs known (first_failing ts) (fill_all known (suc l) seed above index n (Root d ds others)) seed
      index n (Root d ds others)) (sym (tests_root known n above index d ds others))
      (one_law known (suc l) above seed index n d ds others (tests known (suc n + size ds) above (suc index) others)
      (λ m. fill_all known (suc l) seed above (index + 1) m others) some deep q.1
      (all_law ds (suc l - 1) (above ++ index ∷ []) (child_seed seed index) 0 (suc n) (one_down above index (suc l) some deep) p.0)
      (next_is (suc l) above seed index (suc n + size ds) others (all_law others (suc l) above seed (suc index) (suc n + size ds) deep q.0)))

  -- ---- roots
  pub named_placed : (n : ℕ) (above : List ℕ) (k : ℕ) (f : Drafts) → are_placed_named known (number_from n (paths_from above k f)) ≡ all_named known f
  named_placed n above k NoRoots = refl
  named_placed n above k (Root d ds others) =
      rw (named_placed (suc n) (above ++ k ∷ []) 0 ds, named_placed (suc n + size (paths_from (above ++ k ∷ []) 0 ds)) above (suc k) others) refl

  abbrev pub roots_tests : ℕ → ℕ → Drafts → List (Bool × CommandFault)
  roots_tests n k f = root_tests known (number_from n (paths_from [] k f))

  -- the tests of the first root, its labels first
  pub tests_first : (n k : ℕ) (d : DraftAction) (ds others : Drafts)
      → roots_tests n k (Root d ds others) ≡ (all_named known (Root d ds NoRoots), ContractUnknown (k ∷ [])) ∷
      (action_tests known (n, (k ∷ [], d)) ++ (tests known (suc n) (k ∷ []) 0 ds ++ roots_tests (suc n + size ds) (suc k) others))
  tests_first n k d ds others = rw (size_paths (k ∷ []) 0 ds, named_placed (suc n) (k ∷ []) 0 ds) refl

  abbrev NextRoots : (seed : Hash) (index n : ℕ) (others : Drafts) → Type 0
  NextRoots seed index n others = Runs known (first_failing (roots_tests n (suc index) others)) (fill_roots known seed (index + 1) n others) seed
      (suc index) n others

  next_roots : (seed : Hash) (index n : ℕ) (others : Drafts)
      → Runs known (first_failing (roots_tests n (suc index) others)) (fill_roots known seed (suc index) n others) seed (suc index) n others
      → NextRoots seed index n others
  next_roots seed index n others h =
      let e : suc index ≡ index + 1 = omega arith in
      subst (λ (i : ℕ). Runs known (first_failing (roots_tests n (suc index) others)) (fill_roots known seed i n others) seed (suc index) n others) e h

  abbrev WholeRoots : (seed : Hash) (index n : ℕ) (d : DraftAction) (ds others : Drafts) → List (Bool × CommandFault) → Type 0
  WholeRoots seed index n d ds others ts = Runs known (first_failing ts) (fill_roots known seed index n (Root d ds others)) seed index n (Root d ds others)

  unnamed_root : (seed : Hash) (index n : ℕ) (d : DraftAction) (ds others : Drafts) (rest : List (Bool × CommandFault))
      → all_named known (Root d ds NoRoots) ≡ false
      → WholeRoots seed index n d ds others ((all_named known (Root d ds NoRoots), ContractUnknown (index ∷ [])) ∷ rest)
  unnamed_root seed index n d ds others rest unnamed = rw unnamed refl

  named_root : (seed : Hash) (index n : ℕ) (d : DraftAction) (ds others : Drafts) → NextRoots seed index (suc n + size ds) others
      → all_named known (Root d ds NoRoots) ≡ true
      → WholeRoots seed index n d ds others
      ((all_named known (Root d ds NoRoots), ContractUnknown (index ∷ [])) ∷
      (action_tests known (n, (index ∷ [], d)) ++ (tests known (suc n) (index ∷ []) 0 ds ++ roots_tests (suc n + size ds) (suc index) others)))
  named_root seed index n d ds others next named =
      let p = both (all_named known ds) (true && is_draft_named known d) named in
      rw named
      (one_law known 16 [] seed index n d ds others (roots_tests (suc n + size ds) (suc index) others)
      (λ m. fill_roots known seed (index + 1) m others) (omega arith) refl p.1
      (all_law ds 15 (index ∷ []) (child_seed seed index) 0 (suc n) refl p.0) next)

  pub roots_law : (f : Drafts) (seed : Hash) (index n : ℕ) → Runs known (first_failing (roots_tests n index f)) (fill_roots known seed index n f) seed index n f
  roots_law NoRoots seed index n = (NoRoots, ap (λ (m : ℕ). Ok (NoRoots, m)) (omega arith), tt)
  roots_law (Root d ds others) seed index n =
      let next = next_roots seed index (suc n + size ds) others (roots_law others seed (suc index) (suc n + size ds)) in
      subst (λ (ts : List (Bool × CommandFault)). WholeRoots seed index n d ds others ts) (sym (tests_first n index d ds others))
      (elim (cases_Bool (all_named known (Root d ds NoRoots))) [
        | inl named ↦ named_root seed index n d ds others next named
        | inr unnamed ↦ unnamed_root seed index n d ds others
            (action_tests known (n, (index ∷ [], d)) ++ (tests known (suc n) (index ∷ []) 0 ds ++ roots_tests (suc n + size ds) (suc index) others)) unnamed
      ])
