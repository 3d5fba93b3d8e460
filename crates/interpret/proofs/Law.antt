-- What is built forwards is as wanted.
use Rattle.std.proofs.Common.{◌≡◌, ℕ, zero, suc, ◌+◌, ◌<◌, true, false, cond, List, [], ◌∷◌, ◌++◌, Option, Some, None, Result, Ok, Err, refl, sym, ap, subst, ◌∙◌, inl, inr, arith}
use Rattle.std.specs.Prelude.{nat_le}
use Rattle.std.proofs.lemmas.Bool.{cases_Bool}
use Rattle.std.proofs.lemmas.Bool.Decides.{nat_tests}
use Rattle.ledger_terms.proofs.Deciding.{both_true}
use Rattle.ledger_terms.specs.declared.value.Value.{Value}
use Rattle.ledger_terms.specs.declared.known.Known.{Known}
use Rattle.ledger_terms.specs.declared.template_name.TemplateName.{TemplateName}
use Rattle.ledger_terms.specs.Trees.{ActionNode}
use Rattle.ledger_terms.specs.Forest.{NoRoots, Root, preorder, join}
use Rattle.ledger_terms.specs.declared.act.Act.{Act}
use Rattle.ledger_terms.specs.Trees.{Actions}
use Rattle.ledger_terms.specs.Grown.{tree_of}
use Rattle.ledger_terms.specs.Parties.{is_subset}
use Rattle.ledger_terms.proofs.Grow.{join-assoc, join-end}
use Rattle.ledger_model.specs.Conformance.{result_of_child}
use Rattle.ledger_model.specs.Parties.{is_empty, within}
use Rattle.ledger_model.specs.declared.step.ChoiceCall.{ChoiceCall}
use Rattle.ledger_model.specs.declared.step.ChildResult.{ChildResult}
use Rattle.ledger_model.specs.declared.step.Step.{Step}
use Rattle.ledger_model.specs.declared.step.Step.TheVariants.{Create as CreateNext, Exercise as ExerciseNext, Fetch as FetchNext, Done}
use Rattle.lang_eval.specs.declared.eval_fault.EvalFault.{EvalFault}
use Rattle.lang_eval.specs.declared.eval_fault.EvalFault.TheVariants.{TooLarge}
use Rattle.lang_eval.specs.Found.{Packages}
use Rattle.lang_eval.specs.Language.{parties_if_typed, signatories_in, observers_in}
use Rattle.lang_eval.specs.Next.{next}
use Rattle.lang_eval.specs.Parts.{PartyNames, is_consuming_call}
use Rattle.interpret.specs.declared.command_fault.CommandFault.{CommandFault}
use Rattle.interpret.specs.declared.demand.Demand.{Demand}
use Rattle.interpret.specs.declared.demand.Demand.TheVariants.{Create as CreateDemand, Exercise as ExerciseDemand, Fetch as FetchDemand}
use Rattle.interpret.specs.declared.command_fault.CommandFault.TheVariants.{ContractUnknown, Eval, TooDeep, TooMany, Unauthorised}
use Rattle.interpret.specs.declared.progress.Progress.{Progress}
use Rattle.interpret.specs.Ids.{Hash, child_seed}
use Rattle.interpret.specs.Sizes.{is_small_result}
use Rattle.interpret.specs.Usable.{usable}
use Rattle.interpret.specs.Tested.{created_signatories, call_controllers, are_authorised, authorisers, fetchers, signers}
use Rattle.interpret.specs.Act.{Runner, Source, Turn, Stop, End, Child, BodyRun, on, at_path, by_turn, with_action, with_created, with_consumed, created_node, created_known, do_exercise, do_fetch, do_demand, exercised_node, fetched_node, call_of, body_source, turn_of, step_turn, follow, most_children, level, act}
use Rattle.interpret.specs.Wanted.{Wanted, IsTree, after, after_all, progress_with}
use Rattle.interpret.proofs.Facts.{created_facts, called_facts, exercisable}
use Rattle.interpret.proofs.Found.{found_facts}
use Rattle.interpret.proofs.Fetched.{set_members}

pub after_all-append : (p : Progress) (xs ys : List Act) → after_all p (xs ++ ys) ≡ after_all (after_all p xs) ys
after_all-append p [] ys = refl
after_all-append p (x ∷ xs) ys = after_all-append (after p x) xs ys

ok_same : {A E : Type 0} (x y : A) → (let r : Result A E = Ok x in r ≡ Ok y) → x ≡ y
ok_same x y h = cc

-- what an action that was built is
pub record Right (packages : Packages) (known : List Known) (left : ℕ) (progress : Progress) (path : List ℕ) (seed : Hash) (by : PartyNames)
    (demand : Demand) (node : ActionNode) (p : Progress) : Type 0 where
  pub tree : IsTree packages known left progress path seed by demand node
  pub grown : p ≡ progress_with progress node

pub record Rest (packages : Packages) (known : List Known) (left : ℕ) (source : Source) (by : PartyNames) (seen : List ChildResult) (seed : Hash)
    (path : List ℕ) (index : ℕ) (progress : Progress) (children : Actions) (f : BodyRun) : Type 0 where
  pub rest : Actions
  pub joins : f.children ≡ join children rest
  pub wanted : Wanted packages known left source f.result by seen seed path index progress rest
  pub grown : f.progress ≡ after_all progress (preorder rest)

module _ (packages : Packages) (known : List Known) where
  abbrev pub Good : ℕ → Runner → Type 0
  Good left run =
      (progress : Progress) (path : List ℕ) (seed : Hash) (by : PartyNames) (demand : Demand) (node : ActionNode) (p : Progress)
      → run progress path seed by demand ≡ Ok (node, p) → Right packages known left progress path seed by demand node p

  module _ (left : ℕ) (run : Runner) (good : Good left run) (source : Source) (by : PartyNames) (seed : Hash) (path : List ℕ) (f : BodyRun) where
    abbrev Ahead : ℕ → Type 0
    Ahead n =
        (progress : Progress) (seen : List ChildResult) (children : Actions) (index : ℕ) → follow n source run seed path by progress seen children index
        ≡ Ok f → Rest packages known left source by seen seed path index progress children f

    one_more : (progress : Progress) (seen : List ChildResult) (children : Actions) (index : ℕ) (d : Demand) (node : ActionNode) (p : Progress)
        → source.turn index seen ≡ Child d → Right packages known left progress (path ++ index ∷ []) (child_seed seed index) by d node p
        → Rest packages known left source by (source.learn seen node.root.action) seed path (index + 1) p (join children (tree_of node)) f
        → Rest packages known left source by seen seed path index progress children f
    one_more progress seen children index d node p asked right more =
        record {
          rest = Root node.root node.below more.rest;
          joins = more.joins ∙ join-assoc children (tree_of node) more.rest;
          wanted = (
            (d, asked, right.tree.demanded),
            right.tree.some,
            right.tree.room,
            right.tree.seeded,
            right.tree.sound,
            right.tree.children,
            subst (λ (q : Progress). Wanted packages known left source f.result by (source.learn seen node.root.action) seed path (index + 1) q more.rest)
                right.grown more.wanted,
          );
          grown = more.grown ∙ (ap (λ (q : Progress). after_all q (preorder more.rest)) right.grown
              ∙ sym (after_all-append (after progress node.root) (preorder node.below) (preorder more.rest)));
        }

    child_case : (n : ℕ) → Ahead n → (progress : Progress) (seen : List ChildResult) (children : Actions) (index : ℕ) (d : Demand)
        → source.turn index seen ≡ Child d → (x : Result (ActionNode × Progress) CommandFault)
        → run progress (path ++ index ∷ []) (child_seed seed index) by d ≡ x
        → on x (λ x. follow n source run seed path by x.1 (source.learn seen x.0.root.action) (join children (tree_of x.0)) (index + 1)) ≡ Ok f
        → Rest packages known left source by seen seed path index progress children f
    child_case n more progress seen children index d asked (Err e) ran h = absurd (let no : Err e ≡ Ok f = h in cc)
    child_case n more progress seen children index d asked (Ok x) ran h =
        one_more progress seen children index d x.0 x.1 asked (good _ _ _ _ _ x.0 x.1 ran)
        (more x.1 (source.learn seen x.0.root.action) (join children (tree_of x.0)) (index + 1) h)

    turn_case : (n : ℕ) → Ahead n → (progress : Progress) (seen : List ChildResult) (children : Actions) (index : ℕ) (t : Turn) → source.turn index seen ≡ t
        → by_turn t (λ v. Ok (record { children = children; result = v; progress = progress }))
        (λ demand. on (run progress (path ++ index ∷ []) (child_seed seed index) by demand)
        (λ x. follow n source run seed path by x.1 (source.learn seen x.0.root.action) (join children (tree_of x.0)) (index + 1))) ≡ Ok f
        → Rest packages known left source by seen seed path index progress children f
    turn_case n more progress seen children index (Stop e) asked h = absurd (let no : Err e ≡ Ok f = h in cc)
    turn_case n more progress seen children index (End v) asked h =
        let same : record { children = children; result = v; progress = progress } ≡ f = ok_same _ f h in
        record {
          rest = NoRoots;
          joins = sym (ap (λ (f : BodyRun). f.children) same) ∙ sym (join-end children);
          wanted = asked ∙ ap (λ (f : BodyRun). End f.result) same;
          grown = sym (ap (λ (f : BodyRun). f.progress) same);
        }
    turn_case n more progress seen children index (Child d) asked h = child_case n more progress seen children index d asked _ refl h

    pub follow_law : (n : ℕ) → Ahead n
    unfolding follow
    follow_law zero = λ progress seen children index h. absurd (let no : Err (TooMany path) ≡ Ok f = h in cc)
    follow_law (suc n) = λ progress seen children index h. turn_case n (follow_law n) progress seen children index _ refl h

  -- a body ends with a result that keeps its limit
  ended_step : (path : List ℕ) (s : Step) (v : Value) → step_turn path s ≡ End v → is_small_result v ≡ true
  ended_step path (Done w) v h =
      elim (cases_Bool (is_small_result w)) [
        | inl b ↦ let same : End w ≡ End v = rw b at h in let e : w ≡ v = cc in sym (ap is_small_result e) ∙ b
        | inr b ↦ let no : Stop (Eval path TooLarge) ≡ End v = rw b at h in absurd cc
      ]
  ended_step path (CreateNext t fields) v h = cc
  ended_step path (ExerciseNext t id choice args) v h = cc
  ended_step path (FetchNext t id) v h = cc

  ended_turn : (path : List ℕ) (r : Result Step EvalFault) (v : Value) → turn_of path r ≡ End v → is_small_result v ≡ true
  ended_turn path (Ok s) v h = ended_step path s v h
  ended_turn path (Err e) v h = cc

  small_result : (call : ChoiceCall) (at : List ℕ) (left : ℕ) (result : Value) (by : PartyNames) (seen : List ChildResult) (seed : Hash) (path : List ℕ)
      (index : ℕ) (progress : Progress) (forest : Actions)
      → Wanted packages known left (body_source packages call at) result by seen seed path index progress forest → is_small_result result ≡ true
  small_result call at left result by seen seed path index progress NoRoots w = ended_turn at (next packages call seen) result w
  small_result call at left result by seen seed path index progress (Root a consequences others) w =
      small_result call at left result by (seen ++ result_of_child a.action ∷ []) seed path (index + 1)
      (after_all (after progress a) (preorder consequences)) others w.6

  right_created : (left : ℕ) (progress : Progress) (path : List ℕ) (seed : Hash) (by : PartyNames) (t : TemplateName) (fields : List Value)
      (s : PartyNames) → progress.count < 64 → created_signatories packages (record { template = t; fields = fields }) ≡ Ok s → is_subset s by ≡ true
      → Right packages known (suc left) progress path seed by (CreateDemand t fields) (created_node seed (record { template = t; fields = fields }))
      (with_created (created_known seed (record { template = t; fields = fields })) (with_action progress))
  right_created left progress path seed by t fields s room made b =
      let facts = created_facts packages (record { template = t; fields = fields }) s made in
      record {
        tree = record {
          some = omega arith;
          room = room;
          seeded = refl;
          demanded = (refl, refl);
          sound = record {
            input = refl;
            possible = (facts.kinds, facts.creatable);
            authorised = ap (λ (s : PartyNames). is_subset s by) facts.signers ∙ b;
            fetched = tt;
          };
          children = refl;
        };
        grown = refl;
      }

  made_case : (left : ℕ) (progress : Progress) (path : List ℕ) (seed : Hash) (by : PartyNames) (t : TemplateName) (fields : List Value)
      (x : ActionNode × Progress) → progress.count < 64 → (r : Result PartyNames EvalFault)
      → created_signatories packages (record { template = t; fields = fields }) ≡ r
      → on (at_path path r) (λ s. cond (is_subset s by)
      (Ok (
        created_node seed (record { template = t; fields = fields }),
        with_created (created_known seed (record { template = t; fields = fields }))
            (with_action progress),
      )) (Err (Unauthorised path))) ≡ Ok x → Right packages known (suc left) progress path seed by (CreateDemand t fields) x.0 x.1
  made_case left progress path seed by t fields x room (Err e) made h = absurd (let no : Err (Eval path e) ≡ Ok x = h in cc)
  made_case left progress path seed by t fields x room (Ok s) made h =
      elim (cases_Bool (is_subset s by)) [
        | inl b ↦ subst (λ (x : ActionNode × Progress). Right packages known (suc left) progress path seed by (CreateDemand t fields) x.0 x.1)
            (ok_same _ x (rw b at h)) (right_created left progress path seed by t fields s room made b)
        | inr b ↦ let no : Err (Unauthorised path) ≡ Ok x = rw b at h in absurd cc
      ]

  -- a contract that is used stands under its own id and template
  pub refound : (progress : Progress) (id : Hash) (t : TemplateName) (k : Known) → usable packages known progress id t ≡ Some k
      → usable packages known progress k.id k.instance.template ≡ Some k
  refound progress id t k found =
      let facts = found_facts packages known progress id t k found in
      ap (λ (d : Hash). usable packages known progress d k.instance.template) facts.id_is
      ∙ (ap (λ (t : TemplateName). usable packages known progress id t) facts.template_is ∙ found)

  right_exercised : (left : ℕ) (run : Runner) (good : Good left run) (progress : Progress) (path : List ℕ) (seed : Hash) (by : PartyNames)
      (t : TemplateName) (id : Hash) (choice : List ℕ) (args : List Value) (k : Known) (actors : PartyNames) (f : BodyRun) → progress.count < 64
      → usable packages known progress id t ≡ Some k → call_controllers packages (call_of k choice args) ≡ Ok actors
      → are_authorised actors by ≡ true
      → follow most_children (body_source packages (call_of k choice args) path) run seed path (authorisers packages k.instance actors)
      (with_consumed (is_consuming_call packages (call_of k choice args)) k.id (with_action progress)) [] NoRoots 0 ≡ Ok f
      → Right packages known (suc left) progress path seed by (ExerciseDemand t id choice args)
      (exercised_node seed k.salt (call_of k choice args) actors (is_consuming_call packages (call_of k choice args)) f) f.progress
  unfolding signers
  right_exercised left run good progress path seed by t id choice args k actors f room found entered b ran =
      let facts = found_facts packages known progress id t k found in
      let rest = follow_law left run good (body_source packages (call_of k choice args) path) (authorisers packages k.instance actors) seed path f
      most_children _ [] NoRoots 0 ran in
      let all : rest.rest ≡ f.children = sym rest.joins in
      let small = small_result (call_of k choice args) path left f.result (authorisers packages k.instance actors) [] seed path 0 _ rest.rest rest.wanted in
      record {
        tree = record {
          some = omega arith;
          room = room;
          seeded = refl;
          demanded = (facts.template_is, facts.id_is, refl, refl);
          sound = record {
            input = refound progress id t k found;
            possible = (
              facts.kinds,
              exercisable packages (call_of k choice args) actors f.result
                  (called_facts packages (call_of k choice args) actors entered) small,
            );
            authorised = b;
            fetched = tt;
          };
          children = subst (λ (forest : Actions). Wanted packages known left (body_source packages (call_of k choice args) path) f.result
              (authorisers packages k.instance actors) [] seed path 0
              (with_consumed (is_consuming_call packages (call_of k choice args)) k.id (with_action progress)) forest) all rest.wanted;
        };
        grown = rest.grown ∙ ap (λ (forest : Actions). after_all
            (with_consumed (is_consuming_call packages (call_of k choice args)) k.id (with_action progress)) (preorder forest)) all;
      }

  module _ (left : ℕ) (run : Runner) (good : Good left run) (progress : Progress) (path : List ℕ) (seed : Hash) (by : PartyNames) (t : TemplateName)
      (id : Hash) (choice : List ℕ) (args : List Value) (x : ActionNode × Progress) (room : progress.count < 64) where
    ran_case : (k : Known) (actors : PartyNames) → usable packages known progress id t ≡ Some k
        → call_controllers packages (call_of k choice args) ≡ Ok actors → are_authorised actors by ≡ true → (r : Result BodyRun CommandFault)
        → follow most_children (body_source packages (call_of k choice args) path) run seed path (authorisers packages k.instance actors)
        (with_consumed (is_consuming_call packages (call_of k choice args)) k.id (with_action progress)) [] NoRoots 0 ≡ r
        → on r (λ f. Ok (exercised_node seed k.salt (call_of k choice args) actors (is_consuming_call packages (call_of k choice args)) f, f.progress))
        ≡ Ok x → Right packages known (suc left) progress path seed by (ExerciseDemand t id choice args) x.0 x.1
    ran_case k actors found entered b (Err e) ran h = absurd (let no : Err e ≡ Ok x = h in cc)
    ran_case k actors found entered b (Ok f) ran h =
        subst (λ (x : ActionNode × Progress). Right packages known (suc left) progress path seed by (ExerciseDemand t id choice args) x.0 x.1) (ok_same _ x h)
        (right_exercised left run good progress path seed by t id choice args k actors f room found entered b ran)

    entered_case : (k : Known) → usable packages known progress id t ≡ Some k → (r : Result PartyNames EvalFault)
        → call_controllers packages (call_of k choice args) ≡ r
        → on (at_path path r) (λ actors. cond (are_authorised actors by)
        (on (follow most_children (body_source packages (call_of k choice args) path) run seed path (authorisers packages k.instance actors)
        (with_consumed (is_consuming_call packages (call_of k choice args)) k.id (with_action progress)) [] NoRoots 0)
        (λ f. Ok (exercised_node seed k.salt (call_of k choice args) actors (is_consuming_call packages (call_of k choice args)) f, f.progress)))
        (Err (Unauthorised path))) ≡ Ok x → Right packages known (suc left) progress path seed by (ExerciseDemand t id choice args) x.0 x.1
    entered_case k found (Err e) entered h = absurd (let no : Err (Eval path e) ≡ Ok x = h in cc)
    entered_case k found (Ok actors) entered h =
        elim (cases_Bool (are_authorised actors by)) [
          | inl b ↦ ran_case k actors found entered b _ refl (rw b at h)
          | inr b ↦ let no : Err (Unauthorised path) ≡ Ok x = rw b at h in absurd cc
        ]

    used_case : (o : Option Known) → usable packages known progress id t ≡ o → do_exercise packages run progress path seed by o choice args ≡ Ok x
        → Right packages known (suc left) progress path seed by (ExerciseDemand t id choice args) x.0 x.1
    used_case None found h = absurd (let no : Err (ContractUnknown path) ≡ Ok x = h in cc)
    used_case (Some k) found h = entered_case k found _ refl h

  right_fetched : (left : ℕ) (progress : Progress) (path : List ℕ) (seed : Hash) (by : PartyNames) (t : TemplateName) (id : Hash) (k : Known)
      → progress.count < 64 → usable packages known progress id t ≡ Some k → is_empty (fetchers packages k.instance by) ≡ false
      → Right packages known (suc left) progress path seed by (FetchDemand t id) (fetched_node seed k (fetchers packages k.instance by)) (with_action progress)
  unfolding fetchers
  right_fetched left progress path seed by t id k room found b =
      let facts = found_facts packages known progress id t k found in
      record {
        tree = record {
          some = omega arith;
          room = room;
          seeded = refl;
          demanded = (facts.template_is, facts.id_is);
          sound = record {
            input = refound progress id t k found;
            possible = facts.kinds;
            authorised = both_true _ _ (rw b refl)
                (set_members (within (signatories_in (parties_if_typed packages k.instance) ++ observers_in (parties_if_typed packages k.instance)) by));
            fetched = refl;
          };
          children = refl;
        };
        grown = refl;
      }

  fetched_case : (left : ℕ) (progress : Progress) (path : List ℕ) (seed : Hash) (by : PartyNames) (t : TemplateName) (id : Hash)
      (x : ActionNode × Progress) → progress.count < 64 → (o : Option Known) → usable packages known progress id t ≡ o
      → do_fetch packages progress path seed by o ≡ Ok x → Right packages known (suc left) progress path seed by (FetchDemand t id) x.0 x.1
  fetched_case left progress path seed by t id x room None found h = absurd (let no : Err (ContractUnknown path) ≡ Ok x = h in cc)
  fetched_case left progress path seed by t id x room (Some k) found h =
      elim (cases_Bool (is_empty (fetchers packages k.instance by))) [
        | inl b ↦ let no : Err (Unauthorised path) ≡ Ok x = rw b at h in absurd cc
        | inr b ↦ subst (λ (x : ActionNode × Progress). Right packages known (suc left) progress path seed by (FetchDemand t id) x.0 x.1)
            (ok_same _ x (rw b at h)) (right_fetched left progress path seed by t id k room found b)
      ]

  step_law : (left : ℕ) (run : Runner) (good : Good left run) (progress : Progress) (path : List ℕ) (seed : Hash) (by : PartyNames)
      (x : ActionNode × Progress) → progress.count < 64 → (demand : Demand) → do_demand packages known run progress path seed by demand ≡ Ok x
      → Right packages known (suc left) progress path seed by demand x.0 x.1
  step_law left run good progress path seed by x room (CreateDemand t fields) h = made_case left progress path seed by t fields x room _ refl h
  step_law left run good progress path seed by x room (ExerciseDemand t id choice args) h =
      used_case left run good progress path seed by t id choice args x room _ refl h
  step_law left run good progress path seed by x room (FetchDemand t id) h = fetched_case left progress path seed by t id x room _ refl h

  level_law : (left : ℕ) (run : Runner) → Good left run → Good (suc left) (level packages known run)
  level_law left run good progress path seed by demand node p h =
      elim (cases_Bool (nat_le 64 progress.count)) [
        | inl b ↦ let no : Err (TooMany path) ≡ Ok (node, p) = rw b at h in absurd cc
        | inr b ↦ step_law left run good progress path seed by (node, p) (grind (arith, nat_tests)) demand (rw b at h)
      ]

  -- What is built at any depth is as wanted.
  pub act_law : (left : ℕ) → Good left (act left packages known)
  unfolding act
  act_law zero = λ progress path seed by demand node p h. absurd (let no : Err (TooDeep path) ≡ Ok (node, p) = h in cc)
  act_law (suc left) = level_law left (act left packages known) (act_law left)
