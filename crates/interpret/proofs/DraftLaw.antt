-- What drafts are filled to is what they ask for, and where they are refused they stop.
use Rattle.std.proofs.Common.{◌≡◌, ◌≢◌, ℕ, suc, ◌+◌, ◌<◌, ◌≤◌, Bool, true, false, List, [], ◌∷◌, ◌++◌, length, Option, Some, None, Result, Ok, Err, refl, sym, ap, subst, ◌∙◌, inl, inr, arith}
use Rattle.std.specs.Prelude.{nat_le, nat_lt, max, IfOk, IfErr}
use Rattle.ledger_terms.specs.Answers.{UnlessMemory}
use Rattle.std.proofs.lemmas.Bool.{cases_Bool}
use Rattle.std.proofs.lemmas.Bool.Decides.{nat_tests}
use Rattle.std.proofs.lemmas.List.{length-append}
use Rattle.ledger_terms.proofs.Deciding.{both_true}
use Rattle.ledger_terms.specs.declared.known.Known.{Known}
use Rattle.ledger_terms.specs.declared.instance.Instance.{Instance}
use Rattle.ledger_terms.specs.declared.value.Value.{Value}
use Rattle.ledger_terms.specs.declared.contract_ref.ContractRef.{ContractRef}
use Rattle.ledger_terms.specs.declared.contract_ref.ContractRef.TheVariants.{Id, Label}
use Rattle.ledger_terms.specs.declared.arg.Arg.{Arg}
use Rattle.ledger_terms.specs.declared.arg.Arg.TheVariants.{Plain, Contract}
use Rattle.ledger_terms.specs.declared.input.Input.{Input}
use Rattle.ledger_terms.specs.declared.input.Input.TheVariants.{Known as KnownInput, Forged}
use Rattle.ledger_terms.specs.declared.action.Action.{Action}
use Rattle.ledger_terms.specs.declared.action.Action.TheVariants.{Create, Exercise, Fetch}
use Rattle.ledger_terms.specs.Drafts.{Drafts}
use Rattle.ledger_terms.specs.declared.draft_action.DraftAction.{DraftAction}
use Rattle.ledger_terms.specs.declared.draft_action.DraftAction.TheVariants.{Create as DraftCreate, Exercise as DraftExercise, Fetch as DraftFetch}
use Rattle.ledger_terms.specs.Forest.{NoRoots, Root, size}
use Rattle.ledger_terms.specs.declared.act.Act.{Act}
use Rattle.ledger_terms.specs.Trees.{Actions}
use Rattle.wire_form.specs.Lengths.{capped}
use Rattle.interpret.specs.declared.command_fault.CommandFault.{CommandFault}
use Rattle.interpret.specs.declared.command_fault.CommandFault.TheVariants.{ContractUnknown, TooDeep, TooMany, TooBig, Memory}
use Rattle.interpret.specs.Ids.{Hash, child_seed}
use Rattle.wire_form.specs.Encoded.{encoded_bytes}
use Rattle.interpret.specs.Interpreted.{if_small}
use Rattle.ledger_terms.specs.Depth.{depth}
use Rattle.interpret.specs.Filled.{is_named, is_arg_named, are_named, is_id_named, is_input_named, is_draft_named, all_named, fill_roots, filling}
use Rattle.interpret.specs.FilledTree.{Names, IsValueOf, AreValuesOf, IsForgedId, IsInputOf, IsActionOf, AreFilled, IsFilled, FillStops, is_input_known, is_contract_known, action_tests, tests_of, first_failing}
use Rattle.interpret.proofs.DraftActions.{action_to}
use Rattle.interpret.proofs.DraftTests.{or_else, failing_append, tests, tests_root, Runs, roots_tests, tests_first, roots_law}

module _ (known : List Known) where
  -- ---- what is recognised is named and known
  names_named : (r : ContractRef) (id : Hash) → Names known r id → is_named known r ≡ true
  names_named (Id d) id h = refl
  names_named (Label l) id h = rw h.1 refl

  value_named : (a : Arg) (v : Value) → IsValueOf known a v → is_arg_named known a ≡ true
  value_named (Plain w) v h = refl
  value_named (Contract r) v h = names_named r h.0 h.1

  values_named : (as' : List Arg) (vs : List Value) → AreValuesOf known as' vs → are_named known as' ≡ true
  values_named [] vs h = refl
  values_named (a ∷ as') [] h = absurd h
  values_named (a ∷ as') (v ∷ vs) h = both_true _ _ (value_named a v h.0) (values_named as' vs h.1)

  id_named : (given : Option ContractRef) (salt : Hash) (i : Instance) (id : Hash) → IsForgedId known given salt i id → is_id_named known given ≡ true
  id_named None salt i id h = refl
  id_named (Some r) salt i id h = names_named r id h

  input_named : (input : Input) (id salt : Hash) (i : Instance) → IsInputOf known input id salt i → is_input_named known input ≡ true
  input_named (KnownInput (Id d)) id salt i h = refl
  input_named (KnownInput (Label l)) id salt i h = rw h refl
  input_named (Forged given salt' template fields) id salt i h = both_true _ _ (id_named given salt i id h.3) (values_named fields i.fields h.2)

  input_known : (input : Input) (id salt : Hash) (i : Instance) → IsInputOf known input id salt i → is_input_known known input ≡ true
  input_known (KnownInput (Id d)) id salt i h = rw h refl
  input_known (KnownInput (Label l)) id salt i h = rw h refl
  input_known (Forged given salt' template fields) id salt i h = refl

  action_named : (seed : Hash) (d : DraftAction) (a : Action) → IsActionOf known seed d a → is_draft_named known d ≡ true
  action_named seed (DraftCreate template fields) (Create id i) h = values_named fields i.fields h.1
  action_named seed (DraftCreate template fields) (Exercise id salt i choice args actors consuming result) h = absurd h
  action_named seed (DraftCreate template fields) (Fetch id salt i actors) h = absurd h
  action_named seed (DraftExercise input choice args actors consuming result) (Create id i) h = absurd h
  action_named seed (DraftExercise input choice args actors consuming result) (Exercise id salt i choice' args' actors' consuming' result') h =
      both_true _ _ (input_named input id salt i h.0) (both_true _ _ (values_named args args' h.2) (value_named result result' h.5))
  action_named seed (DraftExercise input choice args actors consuming result) (Fetch id salt i actors') h = absurd h
  action_named seed (DraftFetch input actors) (Create id i) h = absurd h
  action_named seed (DraftFetch input actors) (Exercise id salt i choice args actors' consuming result) h = absurd h
  action_named seed (DraftFetch input actors) (Fetch id salt i actors') h = input_named input id salt i h.0

  action_known : (seed : Hash) (d : DraftAction) (a : Action) → IsActionOf known seed d a → is_contract_known known d ≡ true
  action_known seed (DraftCreate template fields) a h = refl
  action_known seed (DraftExercise input choice args actors consuming result) (Create id i) h = absurd h
  action_known seed (DraftExercise input choice args actors consuming result) (Exercise id salt i choice' args' actors' consuming' result')
      h = input_known input id salt i h.0
  action_known seed (DraftExercise input choice args actors consuming result) (Fetch id salt i actors') h = absurd h
  action_known seed (DraftFetch input actors) (Create id i) h = absurd h
  action_known seed (DraftFetch input actors) (Exercise id salt i choice args actors' consuming result) h = absurd h
  action_known seed (DraftFetch input actors) (Fetch id salt i actors') h = input_known input id salt i h.0

  -- ---- what is recognised has the size of the drafts, and is the only one
  filled_named : (f : Drafts) (forest : Actions) (seed : Hash) (k : ℕ) → AreFilled known seed k f forest → all_named known f ≡ true
  filled_named NoRoots forest seed k h = refl
  filled_named (Root d ds others) NoRoots seed k h = absurd h
  filled_named (Root d ds others) (Root act below more) seed k h =
      both_true _ _ (filled_named ds below act.seed 0 h.2) (both_true _ _ (filled_named others more seed (suc k) h.3) (action_named act.seed d act.action h.1))

  filled_size : (f : Drafts) (forest : Actions) (seed : Hash) (k : ℕ) → AreFilled known seed k f forest → size forest ≡ size f
  filled_size NoRoots NoRoots seed k h = refl
  filled_size NoRoots (Root act below more) seed k h = absurd h
  filled_size (Root d ds others) NoRoots seed k h = absurd h
  filled_size (Root d ds others) (Root act below more) seed k h = rw (filled_size ds below act.seed 0 h.2, filled_size others more seed (suc k) h.3) refl

  same_action : (seed : Hash) (d : DraftAction) (a b : Action) → IsActionOf known seed d a → IsActionOf known seed d b → a ≡ b
  same_action seed d a b p q = let same : Some a ≡ Some b = sym (action_to known seed d a p) ∙ action_to known seed d b q in cc

  abbrev act_of : Hash → Action → Act
  act_of seed action = record { seed = seed; action = action }

  same_act : (seed : Hash) (d : DraftAction) (x y : Act) → x.seed ≡ seed → y.seed ≡ seed → IsActionOf known x.seed d x.action
      → IsActionOf known y.seed d y.action → x ≡ y
  same_act seed d x y p q is is' =
      let a : x.action ≡ y.action = same_action seed d x.action y.action (subst (λ (s : Hash). IsActionOf known s d x.action) p is)
      (subst (λ (s : Hash). IsActionOf known s d y.action) q is') in
      let s : x.seed ≡ y.seed = p ∙ sym q in
      subst (λ (b : Action). act_of x.seed x.action ≡ act_of y.seed b) a (ap (λ (s : Hash). act_of s x.action) s)

  pub one_filled : (f : Drafts) (a b : Actions) (seed : Hash) (k : ℕ) → AreFilled known seed k f a → AreFilled known seed k f b → a ≡ b
  one_filled NoRoots NoRoots NoRoots seed k p q = refl
  one_filled NoRoots NoRoots (Root act below more) seed k p q = absurd q
  one_filled NoRoots (Root act below more) b seed k p q = absurd p
  one_filled (Root d ds others) NoRoots b seed k p q = absurd p
  one_filled (Root d ds others) (Root act below more) NoRoots seed k p q = absurd q
  one_filled (Root d ds others) (Root act below more) (Root act' below' more') seed k p q =
      let x : act ≡ act' = same_act (child_seed seed k) d act act' p.0 q.0 p.1 q.1 in
      let s : act'.seed ≡ act.seed = q.0 ∙ sym p.0 in
      let y : below ≡ below' = one_filled ds below below' act.seed 0 p.2 (subst (λ (s : Hash). AreFilled known s 0 ds below') s q.2) in
      let z : more ≡ more' = one_filled others more more' seed (suc k) p.3 q.3 in
      rw (x, y, z) refl

  -- ---- what is recognised within the limits passes all tests
  part_none : (xs ys : List (Bool × CommandFault)) → first_failing xs ≡ None → first_failing ys ≡ None → first_failing (xs ++ ys) ≡ None
  part_none xs ys p q = failing_append xs ys ∙ rw (p, q) refl

  own_passes : (n : ℕ) (path : List ℕ) (d : DraftAction) (rest : List (Bool × CommandFault)) → length path ≤ 16 → n < 64
      → is_contract_known known d ≡ true → first_failing rest ≡ None → first_failing (action_tests known (n, (path, d)) ++ rest) ≡ None
  own_passes n path d rest short few is more =
      let shallow : nat_le (length path) 16 ≡ true = grind (arith, nat_tests, short) in
      let few' : nat_lt n 64 ≡ true = grind (arith, nat_tests, few) in
      rw (shallow, few', is) more

  le_max_left : (a b c m : ℕ) → m + max a b ≤ c → m + a ≤ c
  le_max_left a b c m h = omega (arith, h)

  le_max_right : (a b c m : ℕ) → m + max a b ≤ c → m + b ≤ c
  le_max_right a b c m h = omega (arith, h)

  pub passes : (f : Drafts) (forest : Actions) (seed : Hash) (n : ℕ) (above : List ℕ) (k : ℕ) → AreFilled known seed k f forest
      → length above + depth forest ≤ 16 → n + size forest ≤ 64 → first_failing (tests known n above k f) ≡ None
  passes NoRoots forest seed n above k h shallow few = refl
  passes (Root d ds others) NoRoots seed n above k h shallow few = absurd h
  passes (Root d ds others) (Root act below more) seed n above k h shallow few =
      let len : length (above ++ k ∷ []) ≡ length above + 1 = length-append above (k ∷ []) in
      let same : size below ≡ size ds = filled_size ds below act.seed 0 h.2 in
      let left : length above + suc (depth below) ≤ 16 = le_max_left (suc (depth below)) (depth more) 16 (length above) shallow in
      let right : length above + depth more ≤ 16 = le_max_right (suc (depth below)) (depth more) 16 (length above) shallow in
      let own : length (above ++ k ∷ []) ≤ 16 = omega (arith, len, left) in
      let down : length (above ++ k ∷ []) + depth below ≤ 16 = omega (arith, len, left) in
      let here : n < 64 = omega (arith, few) in
      let inside : suc n + size below ≤ 64 = omega (arith, few) in
      let beside : suc n + size ds + size more ≤ 64 = omega (arith, few, same) in
      ap first_failing (tests_root known n above k d ds others)
      ∙ own_passes n (above ++ k ∷ []) d (tests known (suc n) (above ++ k ∷ []) 0 ds ++ tests known (suc n + size ds) above (suc k) others) own here
      (action_known act.seed d act.action h.1)
      (part_none (tests known (suc n) (above ++ k ∷ []) 0 ds) (tests known (suc n + size ds) above (suc k) others)
      (passes ds below act.seed (suc n) (above ++ k ∷ []) 0 h.2 down inside) (passes others more seed (suc n + size ds) above (suc k) h.3 right beside))

  named_passes : (d : DraftAction) (ds : Drafts) (ts : List (Bool × CommandFault)) (fault : CommandFault)
      → all_named known (Root d ds NoRoots) ≡ true → first_failing ts ≡ None → first_failing ((all_named known (Root d ds NoRoots), fault) ∷ ts) ≡ None
  named_passes d ds ts fault named more = rw named more

  pub roots_pass : (f : Drafts) (forest : Actions) (seed : Hash) (n k : ℕ) → AreFilled known seed k f forest → depth forest ≤ 16
      → n + size forest ≤ 64 → first_failing (roots_tests known n k f) ≡ None
  roots_pass NoRoots forest seed n k h shallow few = refl
  roots_pass (Root d ds others) NoRoots seed n k h shallow few = absurd h
  roots_pass (Root d ds others) (Root act below more) seed n k h shallow few =
      let same : size below ≡ size ds = filled_size ds below act.seed 0 h.2 in
      let left : 0 + suc (depth below) ≤ 16 = le_max_left (suc (depth below)) (depth more) 16 0 (omega (arith, shallow)) in
      let right : 0 + depth more ≤ 16 = le_max_right (suc (depth below)) (depth more) 16 0 (omega (arith, shallow)) in
      let down : 1 + depth below ≤ 16 = omega (arith, left) in
      let beside_right : depth more ≤ 16 = omega (arith, right) in
      let here : n < 64 = omega (arith, few) in
      let inside : suc n + size below ≤ 64 = omega (arith, few) in
      let beside : suc n + size ds + size more ≤ 64 = omega (arith, few, same) in
      ap first_failing (tests_first known n k d ds others)
      ∙ named_passes d ds (action_tests known (n, (k ∷ [], d)) ++
      (tests known (suc n) (k ∷ []) 0 ds ++ roots_tests known (suc n + size ds) (suc k) others)) (ContractUnknown (k ∷ []))
      (both_true _ _ (filled_named ds below act.seed 0 h.2) (action_named act.seed d act.action h.1))
      (own_passes n (k ∷ []) d (tests known (suc n) (k ∷ []) 0 ds ++ roots_tests known (suc n + size ds) (suc k) others) (omega arith) here
      (action_known act.seed d act.action h.1)
      (part_none (tests known (suc n) (k ∷ []) 0 ds) (roots_tests known (suc n + size ds) (suc k) others)
      (passes ds below act.seed (suc n) (k ∷ []) 0 h.2 down inside) (roots_pass others more seed (suc n + size ds) (suc k) h.3 beside_right beside)))

  -- ---- what passes all tests keeps the limits
  no_left : (o p : Option CommandFault) → or_else o p ≡ None → o ≡ None
  no_left None p h = refl
  no_left (Some e) p h = cc

  no_right : (o p : Option CommandFault) → or_else o p ≡ None → p ≡ None
  no_right None p h = h
  no_right (Some e) p h = cc

  none_parts : (xs ys : List (Bool × CommandFault)) → first_failing (xs ++ ys) ≡ None → (first_failing xs ≡ None) × (first_failing ys ≡ None)
  none_parts xs ys h =
      let e : or_else (first_failing xs) (first_failing ys) ≡ None = sym (failing_append xs ys) ∙ h in
      (no_left (first_failing xs) (first_failing ys) e, no_right (first_failing xs) (first_failing ys) e)

  test_passed : (b : Bool) (fault : CommandFault) (ts : List (Bool × CommandFault)) → first_failing ((b, fault) ∷ ts) ≡ None
      → (b ≡ true) × (first_failing ts ≡ None)
  test_passed true fault ts h = (refl, h)
  test_passed false fault ts h = cc

  own_passed : (n : ℕ) (path : List ℕ) (d : DraftAction) (rest : List (Bool × CommandFault))
      → first_failing (action_tests known (n, (path, d)) ++ rest) ≡ None → (length path ≤ 16) × (n < 64) × (first_failing rest ≡ None)
  own_passed n path d rest h =
      let a = test_passed (nat_le (length path) 16) (TooDeep path) ((nat_lt n 64, TooMany path) ∷ (is_contract_known known d, ContractUnknown path) ∷ rest) h in
      let b = test_passed (nat_lt n 64) (TooMany path) ((is_contract_known known d, ContractUnknown path) ∷ rest) a.1 in
      let c = test_passed (is_contract_known known d) (ContractUnknown path) rest b.1 in
      let short : length path ≤ 16 = grind (arith, nat_tests, a.0) in
      let few : n < 64 = grind (arith, nat_tests, b.0) in
      (short, few, c.1)

  max_le : (a b c m : ℕ) → m + a ≤ c → m + b ≤ c → m + max a b ≤ c
  max_le a b c m p q = omega (arith, p, q)

  pub kept : (f : Drafts) (forest : Actions) (seed : Hash) (n : ℕ) (above : List ℕ) (k : ℕ) → AreFilled known seed k f forest
      → first_failing (tests known n above k f) ≡ None → n ≤ 64 → length above ≤ 16 → (n + size forest ≤ 64) × (length above + depth forest ≤ 16)
  kept NoRoots NoRoots seed n above k h none few short = (omega (arith, few), omega (arith, short))
  kept NoRoots (Root act below more) seed n above k h none few short = absurd h
  kept (Root d ds others) NoRoots seed n above k h none few short = absurd h
  kept (Root d ds others) (Root act below more) seed n above k h none few short =
      let len : length (above ++ k ∷ []) ≡ length above + 1 = length-append above (k ∷ []) in
      let same : size below ≡ size ds = filled_size ds below act.seed 0 h.2 in
      let own = own_passed n (above ++ k ∷ []) d (tests known (suc n) (above ++ k ∷ []) 0 ds ++ tests known (suc n + size ds) above (suc k) others)
      (sym (ap first_failing (tests_root known n above k d ds others)) ∙ none) in
      let parts = none_parts (tests known (suc n) (above ++ k ∷ []) 0 ds) (tests known (suc n + size ds) above (suc k) others) own.2 in
      let next : suc n ≤ 64 = omega (arith, own.1) in
      let inside = kept ds below act.seed (suc n) (above ++ k ∷ []) 0 h.2 parts.0 next own.0 in
      let after : suc n + size ds ≤ 64 = omega (arith, inside.0, same) in
      let beside = kept others more seed (suc n + size ds) above (suc k) h.3 parts.1 after short in
      let down : length above + suc (depth below) ≤ 16 = omega (arith, inside.1, len) in
      let all : n + suc (size below + size more) ≤ 64 = omega (arith, beside.0, same) in
      (all, max_le (suc (depth below)) (depth more) 16 (length above) down beside.1)

  pub roots_kept : (f : Drafts) (forest : Actions) (seed : Hash) (n k : ℕ) → AreFilled known seed k f forest
      → first_failing (roots_tests known n k f) ≡ None → n ≤ 64 → (n + size forest ≤ 64) × (0 + depth forest ≤ 16)
  roots_kept NoRoots NoRoots seed n k h none few = (omega (arith, few), omega arith)
  roots_kept NoRoots (Root act below more) seed n k h none few = absurd h
  roots_kept (Root d ds others) NoRoots seed n k h none few = absurd h
  roots_kept (Root d ds others) (Root act below more) seed n k h none few =
      let same : size below ≡ size ds = filled_size ds below act.seed 0 h.2 in
      let rest = test_passed (all_named known (Root d ds NoRoots)) (ContractUnknown (k ∷ []))
      (action_tests known (n, (k ∷ [], d)) ++ (tests known (suc n) (k ∷ []) 0 ds ++ roots_tests known (suc n + size ds) (suc k) others))
      (sym (ap first_failing (tests_first known n k d ds others)) ∙ none) in
      let own = own_passed n (k ∷ []) d (tests known (suc n) (k ∷ []) 0 ds ++ roots_tests known (suc n + size ds) (suc k) others) rest.1 in
      let parts = none_parts (tests known (suc n) (k ∷ []) 0 ds) (roots_tests known (suc n + size ds) (suc k) others) own.2 in
      let next : suc n ≤ 64 = omega (arith, own.1) in
      let inside = kept ds below act.seed (suc n) (k ∷ []) 0 h.2 parts.0 next own.0 in
      let after : suc n + size ds ≤ 64 = omega (arith, inside.0, same) in
      let beside = roots_kept others more seed (suc n + size ds) (suc k) h.3 parts.1 after in
      let down : 0 + suc (depth below) ≤ 16 = omega (arith, inside.1) in
      let all : n + suc (size below + size more) ≤ 64 = omega (arith, beside.0, same) in
      (all, max_le (suc (depth below)) (depth more) 16 0 down beside.1)

-- ---- the whole
module _ (known : List Known) (seed : Hash) (drafts : Drafts) where
  -- what is given where the tests pass
  ran : (x : Actions × ℕ) → fill_roots known seed 0 0 drafts ≡ Ok x → filling known seed drafts ≡ if_small x.0
  unfolding filling
  ran x h = rw h refl

  refused : (e : CommandFault) → fill_roots known seed 0 0 drafts ≡ Err e → filling known seed drafts ≡ Err e
  unfolding filling
  refused e h = rw h refl

  ok_small : (f forest : Actions) → if_small f ≡ Ok forest → (f ≡ forest) × (encoded_bytes forest ≤ 32768)
  ok_small f forest h =
      elim (cases_Bool (nat_le (encoded_bytes f) 32768)) [
        | inl b ↦
            let same : f ≡ forest = let e : Ok f ≡ Ok forest = rw b at h in cc in
            let few : encoded_bytes f ≤ 32768 = grind (arith, nat_tests) in
            (same, subst (λ (f : Actions). encoded_bytes f ≤ 32768) same few)
        | inr b ↦ let wrong : Err (TooBig (capped (encoded_bytes f))) ≡ Ok forest = rw b at h in absurd cc
      ]

  err_big : (f : Actions) (fault : CommandFault) → if_small f ≡ Err fault → (32768 < encoded_bytes f) × (fault ≡ TooBig (capped (encoded_bytes f)))
  err_big f fault h =
      elim (cases_Bool (nat_le (encoded_bytes f) 32768)) [
        | inl b ↦ let wrong : Ok f ≡ Err fault = rw b at h in absurd cc
        | inr b ↦
            let e : Err (TooBig (capped (encoded_bytes f))) ≡ Err fault = rw b at h in
            let more : 32768 < encoded_bytes f = grind (arith, nat_tests) in
            let is : fault ≡ TooBig (capped (encoded_bytes f)) = cc in
            (more, is)
      ]

  is_small : (f : Actions) → encoded_bytes f ≤ 32768 → if_small f ≡ Ok f
  is_small f h = let few : nat_le (encoded_bytes f) 32768 ≡ true = grind (arith, nat_tests, h) in rw few refl

  is_big : (f : Actions) → 32768 < encoded_bytes f → if_small f ≡ Err (TooBig (capped (encoded_bytes f)))
  is_big f h = let many : nat_le (encoded_bytes f) 32768 ≡ false = grind (arith, nat_tests, h) in rw many refl

  abbrev Ran : Option CommandFault → Type 0
  Ran o = Runs known o (fill_roots known seed 0 0 drafts) seed 0 0 drafts

  given_case : (forest : Actions) (o : Option CommandFault) → first_failing (tests_of known drafts) ≡ o → Ran o
      → filling known seed drafts ≡ Ok forest → IsFilled known seed drafts forest
  given_case forest (Some e) tested r h = absurd (let wrong : Err e ≡ Ok forest = sym (refused e r) ∙ h in cc)
  given_case forest None tested r h =
      let parts = ok_small r.0 forest (sym (ran (r.0, 0 + size drafts) r.1) ∙ h) in
      let limits = roots_kept known drafts r.0 seed 0 0 r.2 tested (omega arith) in
      let few : size r.0 ≤ 64 = omega (arith, limits.0) in
      let shallow : depth r.0 ≤ 16 = omega (arith, limits.1) in
      record {
        trees = subst (λ (f : Actions). AreFilled known seed 0 drafts f) parts.0 r.2;
        few = subst (λ (f : Actions). size f ≤ 64) parts.0 few;
        shallow = subst (λ (f : Actions). depth f ≤ 16) parts.0 shallow;
        small = parts.1;
      }

  pub given_is_filled : (forest : Actions) → filling known seed drafts ≡ Ok forest → IsFilled known seed drafts forest
  given_is_filled forest h = given_case forest (first_failing (tests_of known drafts)) refl (roots_law known drafts seed 0 0) h

  -- where a recognised tree keeps two of the limits, it is what the roots are filled to
  filled_run : (forest : Actions) → AreFilled known seed 0 drafts forest → size forest ≤ 64 → depth forest ≤ 16 → filling known seed drafts ≡ if_small forest
  filled_run forest are few shallow =
      let none : first_failing (tests_of known drafts) ≡ None = roots_pass known drafts forest seed 0 0 are shallow (omega (arith, few)) in
      let r : Ran None = subst (λ (o : Option CommandFault). Ran o) none (roots_law known drafts seed 0 0) in
      ran (r.0, 0 + size drafts) r.1 ∙ ap if_small (one_filled known drafts r.0 forest seed 0 r.2 are)

  pub filled_is_given : (forest : Actions) → IsFilled known seed drafts forest → filling known seed drafts ≡ Ok forest
  filled_is_given forest h = filled_run forest h.trees h.few h.shallow ∙ is_small forest h.small

  stop_case : (fault : CommandFault) (o : Option CommandFault) → first_failing (tests_of known drafts) ≡ o → Ran o
      → filling known seed drafts ≡ Err fault → FillStops known seed drafts fault
  stop_case fault (Some e) tested r h = let same : Err e ≡ Err fault = sym (refused e r) ∙ h in let is : e ≡ fault = cc in inl (tested ∙ ap Some is)
  stop_case fault None tested r h =
      let big = err_big r.0 fault (sym (ran (r.0, 0 + size drafts) r.1) ∙ h) in
      let limits = roots_kept known drafts r.0 seed 0 0 r.2 tested (omega arith) in
      let few : size r.0 ≤ 64 = omega (arith, limits.0) in
      let shallow : depth r.0 ≤ 16 = omega (arith, limits.1) in
      inr (r.0, r.2, few, shallow, big.0, big.1)

  pub given_stops : (fault : CommandFault) → filling known seed drafts ≡ Err fault → FillStops known seed drafts fault
  given_stops fault h = stop_case fault (first_failing (tests_of known drafts)) refl (roots_law known drafts seed 0 0) h

  pub stop_is_given : (fault : CommandFault) → FillStops known seed drafts fault → filling known seed drafts ≡ Err fault
  stop_is_given fault (inl s) = refused fault (subst (λ (o : Option CommandFault). Ran o) s (roots_law known drafts seed 0 0))
  stop_is_given fault (inr s) = filled_run s.0 s.1 s.2 s.3 ∙ is_big s.0 s.4 ∙ ap (λ (e : CommandFault). Err e) (sym s.5)

  pub filled_answer : (r : Result Actions CommandFault) → UnlessMemory Memory r (filling known seed drafts)
      → IfOk r (λ forest. IsFilled known seed drafts forest)
  filled_answer (Ok forest) h = given_is_filled forest (sym (h (λ e. cc)))
  filled_answer (Err e) h = tt

  pub stop_answer : (r : Result Actions CommandFault) → UnlessMemory Memory r (filling known seed drafts)
      → IfErr r (λ fault. fault ≢ Memory → FillStops known seed drafts fault)
  stop_answer (Ok forest) h = tt
  stop_answer (Err e) h = λ fresh. given_stops e (sym (h (λ m. fresh cc)))
