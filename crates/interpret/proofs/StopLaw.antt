-- A refusal is a stop, and a stop is refused.
use Rattle.std.proofs.Common.{◌≡◌, ◌⊎◌, ℕ, zero, suc, ◌+◌, ◌<◌, ◌≤◌, true, false, not, cond, List, [], ◌∷◌, ◌++◌, Option, Some, None, Result, Ok, Err, refl, sym, ap, subst, ◌∙◌, inl, inr, arith}
use Rattle.std.specs.Prelude.{nat_le}
use Rattle.std.proofs.lemmas.Bool.{cases_Bool}
use Rattle.std.proofs.lemmas.Bool.Decides.{nat_tests}
use Rattle.ledger_terms.specs.declared.value.Value.{Value}
use Rattle.ledger_terms.specs.declared.known.Known.{Known}
use Rattle.ledger_terms.specs.declared.template_name.TemplateName.{TemplateName}
use Rattle.ledger_terms.specs.Trees.{ActionNode}
use Rattle.ledger_terms.specs.Forest.{NoRoots, join}
use Rattle.ledger_terms.specs.Trees.{Actions}
use Rattle.ledger_terms.specs.Grown.{tree_of}
use Rattle.ledger_terms.specs.Parties.{is_subset}
use Rattle.ledger_model.specs.Parties.{is_empty}
use Rattle.ledger_model.specs.declared.step.ChildResult.{ChildResult}
use Rattle.lang_eval.specs.declared.eval_fault.EvalFault.{EvalFault}
use Rattle.lang_eval.specs.Found.{Packages}
use Rattle.lang_eval.specs.Parts.{PartyNames, is_consuming_call}
use Rattle.interpret.specs.declared.command_fault.CommandFault.{CommandFault}
use Rattle.interpret.specs.declared.demand.Demand.{Demand}
use Rattle.interpret.specs.declared.demand.Demand.TheVariants.{Create as CreateDemand, Exercise as ExerciseDemand, Fetch as FetchDemand}
use Rattle.interpret.specs.declared.command_fault.CommandFault.TheVariants.{ContractUnknown, Eval, TooDeep, TooMany, Unauthorised}
use Rattle.interpret.specs.declared.progress.Progress.{Progress}
use Rattle.interpret.specs.Ids.{Hash, child_seed}
use Rattle.interpret.specs.Usable.{usable}
use Rattle.interpret.specs.Tested.{created_signatories, call_controllers, are_authorised, authorisers, fetchers}
use Rattle.interpret.specs.Act.{Runner, Source, Turn, Stop, End, Child, BodyRun, on, at_path, by_turn, with_action, do_exercise, do_fetch, do_demand, exercised_node, fetched_node, call_of, body_source, follow, most_children, level, act}
use Rattle.interpret.specs.Wanted.{IsTree, after_action, one_less, progress_with, source_of, result_of}
use Rattle.interpret.specs.Stops.{Before, Here, Past, Inside, IsInside, IsRefused, Stops, fault_where, evaluation_fault, exercise_fault, fetch_fault, demand_fault, first_fault, progress_inside}
use Rattle.interpret.proofs.Steps.{most_is}
use Rattle.interpret.proofs.Found.{found_facts}
use Rattle.interpret.proofs.Law.{Good, act_law, refound}
use Rattle.interpret.proofs.Completeness.{Complete, act_done, one_grows, wanted_room, after_action-count}

err_same : {A : Type 0} (x y : CommandFault) → (let r : Result A CommandFault = Err x in r ≡ Err y) → x ≡ y
err_same x y h = cc

some_same : (x y : CommandFault) → Some x ≡ Some y → x ≡ y
some_same x y h = cc

module _ (packages : Packages) (known : List Known) where
  -- a whole tree keeps the limit on actions
  tree_room : (left : ℕ) (progress : Progress) (path : List ℕ) (seed : Hash) (by : PartyNames) (demand : Demand) (node : ActionNode)
      → IsTree packages known left progress path seed by demand node → (progress_with progress node).count ≤ 64
  tree_room left progress path seed by demand node t =
      wanted_room packages known (one_less left) (source_of packages path node.root.action) (result_of node.root.action) _ [] node.root.seed path 0
      (after_action progress node.root.seed node.root.action) node.below (omega (arith, after_action-count progress node.root.seed node.root.action, t.room)) t.children

  abbrev pub Refusing : ℕ → Runner → Type 0
  Refusing left run =
      (progress : Progress) (path : List ℕ) (seed : Hash) (by : PartyNames) (demand : Demand) (fault : CommandFault)
      → run progress path seed by demand ≡ Err fault → IsRefused packages known left progress path seed by demand fault

  abbrev pub Refused : ℕ → Runner → Type 0
  Refused left run =
      (progress : Progress) (path : List ℕ) (seed : Hash) (by : PartyNames) (demand : Demand) (fault : CommandFault)
      → IsRefused packages known left progress path seed by demand fault → run progress path seed by demand ≡ Err fault

  module _ (left : ℕ) (run : Runner) (source : Source) (by : PartyNames) (seed : Hash) (path : List ℕ) (fault : CommandFault) where
    abbrev Stopped : Progress → List ChildResult → ℕ → Type 0
    Stopped progress seen index = (b : Before) × Stops packages known left source by seen seed path index progress b fault

    module _ (good : Good packages known left run) (refusing : Refusing left run) where
      abbrev Ahead : ℕ → Type 0
      Ahead n =
          (progress : Progress) (seen : List ChildResult) (children : Actions) (index : ℕ) → 64 < n + progress.count → progress.count ≤ 64
          → follow n source run seed path by progress seen children index ≡ Err fault → Stopped progress seen index

      child_stop : (n : ℕ) → Ahead n → (progress : Progress) (seen : List ChildResult) (children : Actions) (index : ℕ) → 64 < suc n + progress.count
          → progress.count ≤ 64 → (d : Demand) → source.turn index seen ≡ Child d → (x : Result (ActionNode × Progress) CommandFault)
          → run progress (path ++ index ∷ []) (child_seed seed index) by d ≡ x
          → on x (λ x. follow n source run seed path by x.1 (source.learn seen x.0.root.action) (join children (tree_of x.0)) (index + 1)) ≡ Err fault
          → Stopped progress seen index
      child_stop n ahead progress seen children index turns room d asked (Err e) ran h =
          let same : e ≡ fault = err_same e fault h in
          elim (refusing progress (path ++ index ∷ []) (child_seed seed index) by d fault (ran ∙ ap (λ (e : CommandFault). Err e) same)) [
            | inl first ↦ (Here, inr (d, asked, first))
            | inr w ↦ (Inside w.k w.choice w.args w.actors w.more, (d, asked, w.begun, w.stops))
          ]
      child_stop n ahead progress seen children index turns room d asked (Ok x) ran h =
          let right = good progress (path ++ index ∷ []) (child_seed seed index) by d x.0 x.1 ran in
          let grows = one_grows progress x.0 in
          let within = tree_room left progress (path ++ index ∷ []) (child_seed seed index) by d x.0 right.tree in
          let same : x.1 ≡ progress_with progress x.0 = right.grown in
          let turns' : 64 < n + x.1.count = subst (λ (p : Progress). 64 < n + p.count) (sym same) (omega (arith, grows, turns)) in
          let within' : x.1.count ≤ 64 = subst (λ (p : Progress). p.count ≤ 64) (sym same) within in
          let more = ahead x.1 (source.learn seen x.0.root.action) (join children (tree_of x.0)) (index + 1) turns' within' h in (
            Past x.0 more.0,
            (
              d,
              asked,
              right.tree,
              subst
                  (λ (p : Progress). Stops packages known left source by (source.learn seen x.0.root.action) seed path (index + 1) p more.0 fault) same more.1,
            ),
          )

      turn_stop : (n : ℕ) → Ahead n → (progress : Progress) (seen : List ChildResult) (children : Actions) (index : ℕ) → 64 < suc n + progress.count
          → progress.count ≤ 64 → (t : Turn) → source.turn index seen ≡ t
          → by_turn t (λ v. Ok (record { children = children; result = v; progress = progress }))
          (λ demand. on (run progress (path ++ index ∷ []) (child_seed seed index) by demand)
          (λ x. follow n source run seed path by x.1 (source.learn seen x.0.root.action) (join children (tree_of x.0)) (index + 1))) ≡ Err fault
          → Stopped progress seen index
      turn_stop n ahead progress seen children index turns room (Stop e) asked h = (Here, inl (asked ∙ ap (λ (e : CommandFault). Stop e) (err_same e fault h)))
      turn_stop n ahead progress seen children index turns room (End v) asked h = absurd
          (let no : Ok (record { children = children; result = v; progress = progress }) ≡ Err fault = h in cc)
      turn_stop n ahead progress seen children index turns room (Child d) asked h = child_stop n ahead progress seen children index turns room d asked _ refl h

      pub follow_stop : (n : ℕ) → Ahead n
      unfolding follow
      follow_stop zero = λ progress seen children index turns room h. absurd (omega (arith, turns, room))
      follow_stop (suc n) = λ progress seen children index turns room h. turn_stop n (follow_stop n) progress seen children index turns room _ refl h

    module _ (complete : Complete packages known left run) (refused : Refused left run) where
      pub follow_halts : (b : Before) (n : ℕ) (progress : Progress) (seen : List ChildResult) (children : Actions) (index : ℕ) → 64 < n + progress.count
          → progress.count ≤ 64 → Stops packages known left source by seen seed path index progress b fault
          → follow n source run seed path by progress seen children index ≡ Err fault
      unfolding follow
      follow_halts b zero progress seen children index turns room s = absurd (omega (arith, turns, room))
      follow_halts Here (suc n) progress seen children index turns room (inl itself) = rw itself refl
      follow_halts Here (suc n) progress seen children index turns room (inr asked) =
          rw (asked.1, refused progress (path ++ index ∷ []) (child_seed seed index) by asked.0 fault (inl asked.2)) refl
      follow_halts (Past node more) (suc n) progress seen children index turns room s =
          let ran = complete progress (path ++ index ∷ []) (child_seed seed index) by s.0 node.root.seed node.root.action node.below s.2 in
          let grows = one_grows progress node in
          let within = tree_room left progress (path ++ index ∷ []) (child_seed seed index) by s.0 node s.2 in
          rw (s.1, ran) (follow_halts more n (progress_with progress node) (source.learn seen node.root.action) (join children (tree_of node)) (index + 1)
          (omega (arith, grows, turns)) within s.3)
      follow_halts (Inside k choice args actors more) (suc n) progress seen children index turns room s =
          rw (
            s.1,
            refused progress (path ++ index ∷ []) (child_seed seed index) by s.0 fault
                (inr (record { k = k; choice = choice; args = args; actors = actors; more = more; begun = s.2; stops = s.3 })),
          ) refl

  made_stop : (path : List ℕ) (by : PartyNames) (x : PartyNames → ActionNode × Progress) (fault : CommandFault) (r : Result PartyNames EvalFault)
      → on (at_path path r) (λ s. cond (is_subset s by) (Ok (x s)) (Err (Unauthorised path))) ≡ Err fault
      → evaluation_fault path r (λ s. fault_where (not (is_subset s by)) (Unauthorised path) None) ≡ Some fault
  made_stop path by x fault (Err e) h = ap (λ (f : CommandFault). Some f) (err_same (Eval path e) fault h)
  made_stop path by x fault (Ok s) h =
      elim (cases_Bool (is_subset s by)) [
        | inl b ↦ let no : Ok (x s) ≡ Err fault = rw b at h in absurd cc
        | inr b ↦ let e : Err (Unauthorised path) ≡ Err fault = rw b at h in rw b (ap (λ (f : CommandFault). Some f) (err_same (Unauthorised path) fault e))
      ]

  made_halts : (path : List ℕ) (by : PartyNames) (x : PartyNames → ActionNode × Progress) (fault : CommandFault) (r : Result PartyNames EvalFault)
      → evaluation_fault path r (λ s. fault_where (not (is_subset s by)) (Unauthorised path) None) ≡ Some fault
      → on (at_path path r) (λ s. cond (is_subset s by) (Ok (x s)) (Err (Unauthorised path))) ≡ Err fault
  made_halts path by x fault (Err e) h = ap (λ (f : CommandFault). Err f) (some_same (Eval path e) fault h)
  made_halts path by x fault (Ok s) h =
      elim (cases_Bool (is_subset s by)) [
        | inl b ↦ let no : None ≡ Some fault = rw b at h in absurd cc
        | inr b ↦ let e : Some (Unauthorised path) ≡ Some fault = rw b at h in rw b (ap (λ (f : CommandFault). Err f) (some_same (Unauthorised path) fault e))
      ]

  fetch_stop : (progress : Progress) (path : List ℕ) (seed : Hash) (by : PartyNames) (fault : CommandFault) (o : Option Known)
      → do_fetch packages progress path seed by o ≡ Err fault → fetch_fault packages path by o ≡ Some fault
  fetch_stop progress path seed by fault None h = ap (λ (f : CommandFault). Some f) (err_same (ContractUnknown path) fault h)
  fetch_stop progress path seed by fault (Some k) h =
      elim (cases_Bool (is_empty (fetchers packages k.instance by))) [
        | inl b ↦ let e : Err (Unauthorised path) ≡ Err fault = rw b at h in rw b (ap (λ (f : CommandFault). Some f) (err_same (Unauthorised path) fault e))
        | inr b ↦ let no : Ok (fetched_node seed k (fetchers packages k.instance by), with_action progress) ≡ Err fault = rw b at h in absurd cc
      ]

  fetch_halts : (progress : Progress) (path : List ℕ) (seed : Hash) (by : PartyNames) (fault : CommandFault) (o : Option Known)
      → fetch_fault packages path by o ≡ Some fault → do_fetch packages progress path seed by o ≡ Err fault
  fetch_halts progress path seed by fault None h = ap (λ (f : CommandFault). Err f) (some_same (ContractUnknown path) fault h)
  fetch_halts progress path seed by fault (Some k) h =
      elim (cases_Bool (is_empty (fetchers packages k.instance by))) [
        | inl b ↦ let e : Some (Unauthorised path) ≡ Some fault = rw b at h in rw b (ap (λ (f : CommandFault). Err f) (some_same (Unauthorised path) fault e))
        | inr b ↦ let no : None ≡ Some fault = rw b at h in absurd cc
      ]

  module _ (left : ℕ) (run : Runner) (progress : Progress) (path : List ℕ) (seed : Hash) (by : PartyNames) (t : TemplateName) (id : Hash)
      (choice : List ℕ) (args : List Value) (fault : CommandFault) (room : progress.count < 64) where
    abbrev InStep : Type 0
    InStep = IsInside packages known (suc left) progress path seed by (ExerciseDemand t id choice args) fault

    abbrev body_run : Known → PartyNames → Result BodyRun CommandFault
    body_run k actors =
        follow most_children (body_source packages (call_of k choice args) path) run seed path (authorisers packages k.instance actors)
        (progress_inside packages progress k choice args) [] NoRoots 0

    abbrev node_after : Known → PartyNames → BodyRun → Result (ActionNode × Progress) CommandFault
    node_after k actors f = Ok (exercised_node seed k.salt (call_of k choice args) actors (is_consuming_call packages (call_of k choice args)) f, f.progress)

    module _ (good : Good packages known left run) (refusing : Refusing left run) where
      ran_stop : (k : Known) (actors : PartyNames) → usable packages known progress id t ≡ Some k
          → call_controllers packages (call_of k choice args) ≡ Ok actors → are_authorised actors by ≡ true → (r : Result BodyRun CommandFault)
          → body_run k actors ≡ r → on r (λ f. node_after k actors f) ≡ Err fault → InStep
      ran_stop k actors found entered b (Ok f) ran h = absurd (let no : node_after k actors f ≡ Err fault = h in cc)
      ran_stop k actors found entered b (Err e) ran h =
          let facts = found_facts packages known progress id t k found in
          let stopped = follow_stop left run (body_source packages (call_of k choice args) path) (authorisers packages k.instance actors) seed path
          fault good refusing most_children (progress_inside packages progress k choice args) [] NoRoots 0 (omega (arith, most_is))
          (omega (arith, room)) (ran ∙ ap (λ (e : CommandFault). Err e) (err_same e fault h)) in
          record {
            k = k;
            choice = choice;
            args = args;
            actors = actors;
            more = stopped.0;
            begun = record {
              some = omega arith;
              room = room;
              asked = ap (λ (t : TemplateName). ExerciseDemand t id choice args) (sym facts.template_is)
                  ∙ ap (λ (d : Hash). ExerciseDemand k.instance.template d choice args) (sym facts.id_is);
              found = refound packages known progress id t k found;
              entered = entered;
              authorised = b;
            };
            stops = stopped.1;
          }

      entered_stop : (k : Known) → usable packages known progress id t ≡ Some k → (r : Result PartyNames EvalFault)
          → call_controllers packages (call_of k choice args) ≡ r
          → on (at_path path r) (λ actors. cond (are_authorised actors by) (on (body_run k actors) (λ f. node_after k actors f))
          (Err (Unauthorised path))) ≡ Err fault
          → (evaluation_fault path r (λ actors. fault_where (not (are_authorised actors by)) (Unauthorised path) None) ≡ Some fault) ⊎ InStep
      entered_stop k found (Err e) entered h = inl (ap (λ (f : CommandFault). Some f) (err_same (Eval path e) fault h))
      entered_stop k found (Ok actors) entered h =
          elim (cases_Bool (are_authorised actors by)) [
            | inl b ↦ inr (ran_stop k actors found entered b _ refl (rw b at h))
            | inr b ↦ let e : Err (Unauthorised path) ≡ Err fault = rw b at h in
                rw b (inl (ap (λ (f : CommandFault). Some f) (err_same (Unauthorised path) fault e)))
          ]

      used_stop : (o : Option Known) → usable packages known progress id t ≡ o
          → do_exercise packages run progress path seed by o choice args ≡ Err fault → (exercise_fault packages path by o choice args ≡ Some fault) ⊎ InStep
      used_stop None found h = inl (ap (λ (f : CommandFault). Some f) (err_same (ContractUnknown path) fault h))
      used_stop (Some k) found h = entered_stop k found _ refl h

    entered_halts : (k : Known) (r : Result PartyNames EvalFault)
        → evaluation_fault path r (λ actors. fault_where (not (are_authorised actors by)) (Unauthorised path) None) ≡ Some fault
        → on (at_path path r) (λ actors. cond (are_authorised actors by) (on (body_run k actors) (λ f. node_after k actors f))
        (Err (Unauthorised path))) ≡ Err fault
    entered_halts k (Err e) h = ap (λ (f : CommandFault). Err f) (some_same (Eval path e) fault h)
    entered_halts k (Ok actors) h =
        elim (cases_Bool (are_authorised actors by)) [
          | inl b ↦ let no : None ≡ Some fault = rw b at h in absurd cc
          | inr b ↦ let e : Some (Unauthorised path) ≡ Some fault = rw b at h in rw b (ap (λ (f : CommandFault). Err f) (some_same (Unauthorised path) fault e))
        ]

    used_halts : (o : Option Known) → exercise_fault packages path by o choice args ≡ Some fault
        → do_exercise packages run progress path seed by o choice args ≡ Err fault
    used_halts None h = ap (λ (f : CommandFault). Err f) (some_same (ContractUnknown path) fault h)
    used_halts (Some k) h = entered_halts k (call_controllers packages (call_of k choice args)) h

  step_stop : (left : ℕ) (run : Runner) (good : Good packages known left run) (refusing : Refusing left run) (progress : Progress) (path : List ℕ)
      (seed : Hash) (by : PartyNames) (fault : CommandFault) → progress.count < 64 → (demand : Demand)
      → do_demand packages known run progress path seed by demand ≡ Err fault
      → (demand_fault packages known progress path by demand ≡ Some fault) ⊎ IsInside packages known (suc left) progress path seed by demand fault
  step_stop left run good refusing progress path seed by fault room (CreateDemand t fields) h = inl
      (made_stop path by _ fault (created_signatories packages (record { template = t; fields = fields })) h)
  step_stop left run good refusing progress path seed by fault room (ExerciseDemand t id choice args) h =
      used_stop left run progress path seed by t id choice args fault room good refusing _ refl h
  step_stop left run good refusing progress path seed by fault room (FetchDemand t id) h = inl
      (fetch_stop progress path seed by fault (usable packages known progress id t) h)

  step_halts : (left : ℕ) (run : Runner) (progress : Progress) (path : List ℕ) (seed : Hash) (by : PartyNames) (fault : CommandFault)
      → progress.count < 64 → (demand : Demand) → demand_fault packages known progress path by demand ≡ Some fault
      → do_demand packages known run progress path seed by demand ≡ Err fault
  step_halts left run progress path seed by fault room (CreateDemand t fields) h = made_halts path by _ fault
      (created_signatories packages (record { template = t; fields = fields })) h
  step_halts left run progress path seed by fault room (ExerciseDemand t id choice args) h = used_halts left run progress path seed by t id choice
      args fault room (usable packages known progress id t) h
  step_halts left run progress path seed by fault room (FetchDemand t id) h = fetch_halts progress path seed by fault (usable packages known progress id t) h

  level_stop : (left : ℕ) (run : Runner) → Good packages known left run → Refusing left run → Refusing (suc left) (level packages known run)
  level_stop left run good refusing progress path seed by demand fault h =
      elim (cases_Bool (nat_le 64 progress.count)) [
        | inl b ↦ let e : Err (TooMany path) ≡ Err fault = rw b at h in rw b (inl (ap (λ (f : CommandFault). Some f) (err_same (TooMany path) fault e)))
        | inr b ↦ rw b (step_stop left run good refusing progress path seed by fault (grind (arith, nat_tests)) demand (rw b at h))
      ]

  first_halts : (left : ℕ) (run : Runner) (progress : Progress) (path : List ℕ) (seed : Hash) (by : PartyNames) (demand : Demand)
      (fault : CommandFault) → first_fault packages known (suc left) progress path by demand ≡ Some fault
      → level packages known run progress path seed by demand ≡ Err fault
  first_halts left run progress path seed by demand fault h =
      elim (cases_Bool (nat_le 64 progress.count)) [
        | inl b ↦ let e : Some (TooMany path) ≡ Some fault = rw b at h in rw b (ap (λ (f : CommandFault). Err f) (some_same (TooMany path) fault e))
        | inr b ↦ rw b (step_halts left run progress path seed by fault (grind (arith, nat_tests)) demand (rw b at h))
      ]

  inside_halts : (left : ℕ) (run : Runner) → Complete packages known left run → Refused left run
      → (progress : Progress) (path : List ℕ) (seed : Hash) (by : PartyNames) (demand : Demand) (fault : CommandFault)
      → IsInside packages known (suc left) progress path seed by demand fault → level packages known run progress path seed by demand ≡ Err fault
  inside_halts left run complete refused progress path seed by demand fault w =
      let room : nat_le 64 progress.count ≡ false = grind (arith, nat_tests, w.begun.room) in
      let ran = follow_halts left run (body_source packages (call_of w.k w.choice w.args) path) (authorisers packages w.k.instance w.actors) seed
      path fault complete refused w.more most_children (progress_inside packages progress w.k w.choice w.args) [] NoRoots 0
      (omega (arith, most_is)) (omega (arith, w.begun.room)) w.stops in
      rw (room, w.begun.asked, w.begun.found, w.begun.entered, w.begun.authorised, ran) refl

  level_halts : (left : ℕ) (run : Runner) → Complete packages known left run → Refused left run → Refused (suc left) (level packages known run)
  level_halts left run complete refused progress path seed by demand fault (inl first) = first_halts left run progress path seed by demand fault first
  level_halts left run complete refused progress path seed by demand fault (inr w) = inside_halts left run complete refused progress path seed by demand fault w

  -- What is refused at any depth stops there.
  pub act_stop : (left : ℕ) → Refusing left (act left packages known)
  unfolding act
  act_stop zero = λ progress path seed by demand fault h. inl (ap (λ (f : CommandFault). Some f) (err_same (TooDeep path) fault h))
  act_stop (suc left) = level_stop left (act left packages known) (act_law packages known left) (act_stop left)

  zero_halts : (progress : Progress) (path : List ℕ) (seed : Hash) (by : PartyNames) (demand : Demand) (fault : CommandFault)
      → IsRefused packages known 0 progress path seed by demand fault → act 0 packages known progress path seed by demand ≡ Err fault
  unfolding act
  zero_halts progress path seed by demand fault (inl first) = ap (λ (f : CommandFault). Err f) (some_same (TooDeep path) fault first)
  zero_halts progress path seed by demand fault (inr w) = absurd (omega (arith, w.begun.some))

  -- And what stops there is refused.
  pub act_halts : (left : ℕ) → Refused left (act left packages known)
  unfolding act
  act_halts zero = λ progress path seed by demand fault s. zero_halts progress path seed by demand fault s
  act_halts (suc left) = level_halts left (act left packages known) (act_done packages known left) (act_halts left)
