-- What the tests of a tree say is whether it conforms.
use Rattle.std.proofs.Common.{◌≡◌, ℕ, Bool, true, List, [], ◌∷◌, ◌++◌, Result, Ok, Err, refl, ap}
use Rattle.std.specs.Prelude.{◌&&◌, Some, IfOk}
use Rattle.std.specs.Bool.{Decides}
use Rattle.ledger_terms.proofs.Deciding.{both, both_true, bytes_decide, lists_decide}
use Rattle.ledger_terms.proofs.SameValues.{value_decides, template_decides}
use Rattle.ledger_terms.specs.declared.value.Value.{Value}
use Rattle.ledger_terms.specs.declared.action.Action.{Action}
use Rattle.ledger_terms.specs.declared.action.Action.TheVariants.{Create, Exercise, Fetch}
use Rattle.ledger_terms.specs.Forest.{NoRoots, Root}
use Rattle.ledger_terms.specs.Trees.{Actions}
use Rattle.ledger_terms.specs.Grown.{tree_of}
use Rattle.ledger_terms.specs.Trees.{ActionNode}
use Rattle.ledger_model.specs.Conformance.{Body, NoBody, BodyOf, body_of, result_of_child, Demands, Possible, Ends, Continues, AreRest, Conforms}
use Rattle.ledger_model.specs.declared.step.ChildResult.{ChildResult}
use Rattle.ledger_model.specs.declared.step.Step.{Step}
use Rattle.ledger_model.specs.declared.step.Step.TheVariants.{Create as CreateNext, Exercise as ExerciseNext, Fetch as FetchNext, Done}
use Rattle.lang_eval.specs.declared.eval_fault.EvalFault.{EvalFault}
use Rattle.lang_eval.specs.Found.{Packages}
use Rattle.lang_eval.specs.Next.{next}
use Rattle.lang_eval.specs.Language.{step_in}
use Rattle.interpret.specs.Language.{the_language}
use Rattle.interpret.specs.Tries.{is_demanded, asks, is_done, gives, is_possible, continues, ends, are_rest, is_tree_possible, has_none}

-- an action without a body has no consequences
pub no_body : (packages : Packages) (seen : List ChildResult) (f : Actions) → are_rest packages NoBody seen f ≡ has_none f
no_body packages seen NoRoots = refl
no_body packages seen (Root act consequences others) = refl

demanded : (s : Step) (a : Action) → is_demanded s a ≡ true → Demands (Some s) a
demanded (CreateNext t fields) (Create id i) h =
    let p = both _ _ h in ((template_decides _ _).0 p.0, (lists_decide value_decides _ _).0 p.1)
demanded (ExerciseNext t id choice args) (Exercise id' salt i choice' args' actors consuming result) h =
    let p = both _ _ h in
    let q = both _ _ p.1 in
    let r = both _ _ q.1 in
    ((template_decides _ _).0 p.0, (bytes_decide _ _).0 q.0, (bytes_decide _ _).0 r.0, (lists_decide value_decides _ _).0 r.1)
demanded (FetchNext t id) (Fetch id' salt i actors) h =
    let p = both _ _ h in ((template_decides _ _).0 p.0, (bytes_decide _ _).0 p.1)
demanded (CreateNext t fields) (Exercise id' salt i choice' args' actors consuming result) h = cc
demanded (CreateNext t fields) (Fetch id' salt i actors) h = cc
demanded (ExerciseNext t id choice args) (Create id' i) h = cc
demanded (ExerciseNext t id choice args) (Fetch id' salt i actors) h = cc
demanded (FetchNext t id) (Create id' i) h = cc
demanded (FetchNext t id) (Exercise id' salt i choice' args' actors consuming result) h = cc
demanded (Done v) a h = cc

demands : (s : Step) (a : Action) → Demands (Some s) a → is_demanded s a ≡ true
demands (CreateNext t fields) (Create id i) h = both_true _ _ ((template_decides _ _).1 h.0) ((lists_decide value_decides _ _).1 h.1)
demands (ExerciseNext t id choice args) (Exercise id' salt i choice' args' actors consuming result) h =
    both_true _ _ ((template_decides _ _).1 h.0) (both_true _ _ ((bytes_decide _ _).1 h.1)
    (both_true _ _ ((bytes_decide _ _).1 h.2) ((lists_decide value_decides _ _).1 h.3)))
demands (FetchNext t id) (Fetch id' salt i actors) h = both_true _ _ ((template_decides _ _).1 h.0) ((bytes_decide _ _).1 h.1)
demands (CreateNext t fields) (Exercise id' salt i choice' args' actors consuming result) h = absurd h
demands (CreateNext t fields) (Fetch id' salt i actors) h = absurd h
demands (ExerciseNext t id choice args) (Create id' i) h = absurd h
demands (ExerciseNext t id choice args) (Fetch id' salt i actors) h = absurd h
demands (FetchNext t id) (Create id' i) h = absurd h
demands (FetchNext t id) (Exercise id' salt i choice' args' actors consuming result) h = absurd h
demands (Done v) a h = absurd h

asked : (r : Result Step EvalFault) (a : Action) → Decides (asks r a) (Demands (step_in r) a)
asked (Ok s) a = (demanded s a, demands s a)
asked (Err e) a = (λ h. cc, λ h. absurd h)

done : (s : Step) (v : Value) → is_done s v ≡ true → Some s ≡ Some (Done v)
done (Done w) v h = ap (λ (v : Value). Some (Done v)) ((value_decides w v).0 h)
done (CreateNext t fields) v h = cc
done (ExerciseNext t id choice args) v h = cc
done (FetchNext t id) v h = cc

is_the_end : (s : Step) (v : Value) → Some s ≡ Some (Done v) → is_done s v ≡ true
is_the_end (Done w) v h = (value_decides w v).1 cc
is_the_end (CreateNext t fields) v h = cc
is_the_end (ExerciseNext t id choice args) v h = cc
is_the_end (FetchNext t id) v h = cc

given : (r : Result Step EvalFault) (v : Value) → Decides (gives r v) (step_in r ≡ Some (Done v))
given (Ok s) v = (done s v, is_the_end s v)
given (Err e) v = (λ h. cc, λ h. cc)

module _ (packages : Packages) where
  possible : (a : Action) → Decides (is_possible packages a) (Possible (the_language packages) a)
  possible (Create id i) = (λ h. both _ _ h, λ h. both_true _ _ h.0 h.1)
  possible (Exercise id salt i choice args actors consuming result) = (λ h. both _ _ h, λ h. both_true _ _ h.0 h.1)
  possible (Fetch id salt i actors) = (λ h. h, λ h. h)

  ended : (body : Body) (seen : List ChildResult) → Decides (ends packages body seen) (Ends (the_language packages) body seen)
  ended NoBody seen = (λ h. tt, λ h. refl)
  ended (BodyOf call result) seen = given (next packages call seen) result

  continued : (body : Body) (seen : List ChildResult) (a : Action) → Decides (continues packages body seen a) (Continues (the_language packages) body seen a)
  continued NoBody seen a = (λ h. cc, λ h. absurd h)
  continued (BodyOf call result) seen a = asked (next packages call seen) a

  pub rest_from_test : (f : Actions) (body : Body) (seen : List ChildResult) → are_rest packages body seen f ≡ true → AreRest (the_language packages) body seen f
  rest_from_test NoRoots body seen h = (ended body seen).0 h
  rest_from_test (Root act consequences others) body seen h =
      let p = both (continues packages body seen act.action
      && (is_possible packages act.action && are_rest packages (body_of act.action) [] consequences))
      (are_rest packages body (seen ++ result_of_child act.action ∷ []) others) h in
      let q = both (continues packages body seen act.action) (is_possible packages act.action && are_rest packages (body_of act.action) [] consequences) p.0 in
      let r = both (is_possible packages act.action) (are_rest packages (body_of act.action) [] consequences) q.1 in (
        (continued body seen act.action).0 q.0,
        (possible act.action).0 r.0,
        rest_from_test consequences (body_of act.action) [] r.1,
        rest_from_test
            others body (seen ++ result_of_child act.action ∷ []) p.1,
      )

  pub test_from_rest : (f : Actions) (body : Body) (seen : List ChildResult) → AreRest (the_language packages) body seen f → are_rest packages body seen f ≡ true
  test_from_rest NoRoots body seen h = (ended body seen).1 h
  test_from_rest (Root act consequences others) body seen h =
      both_true _ _ (both_true _ _ ((continued body seen act.action).1 h.0)
      (both_true _ _ ((possible act.action).1 h.1) (test_from_rest consequences (body_of act.action) [] h.2)))
      (test_from_rest others body (seen ++ result_of_child act.action ∷ []) h.3)

  pub tree_decides : (a : Action) (consequences : Actions) (s : List ℕ)
      → Decides (is_tree_possible packages a consequences) (Conforms (the_language packages) (Root (record { seed = s; action = a }) consequences NoRoots))
  tree_decides a consequences s = (
    λ h. let p = both (is_possible packages a) (are_rest packages (body_of a) [] consequences) h in
        ((possible a).0 p.0, rest_from_test consequences (body_of a) [] p.1, tt),
    λ h. both_true _ _ ((possible a).1 h.0) (test_from_rest consequences (body_of a) [] h.1),
  )

  pub answer_decides : {E : Type 0} → (node : ActionNode) (r : Result Bool E) → IfOk r (λ b. b ≡ is_tree_possible packages node.root.action node.below)
      → IfOk r (λ b. Decides b (Conforms (the_language packages) (tree_of node)))
  answer_decides node (Ok b) h = rw h (tree_decides node.root.action node.below node.root.seed)
  answer_decides node (Err e) h = tt
