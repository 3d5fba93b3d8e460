-- A wanted transaction keeps the rules of the ledger.
use Rattle.std.proofs.Common.{◌≡◌, ℕ, zero, suc, ◌+◌, ◌<◌, ◌≤◌, true, List, [], ◌∷◌, ◌++◌, Option, Some, Result, Ok, Err, refl, sym, ap, subst, ◌∙◌, inl, inr, arith}
use Rattle.std.proofs.lemmas.Bool.{cases_Bool}
use Rattle.ledger_terms.proofs.Deciding.{both_true}
use Rattle.ledger_terms.specs.declared.value.Value.{Value}
use Rattle.ledger_terms.specs.declared.known.Known.{Known}
use Rattle.ledger_terms.specs.declared.command.Command.{Command}
use Rattle.ledger_terms.specs.declared.action.Action.{Action}
use Rattle.ledger_terms.specs.declared.action.Action.TheVariants.{Create, Exercise, Fetch}
use Rattle.ledger_terms.specs.Forest.{NoRoots, Root, preorder, size}
use Rattle.ledger_terms.specs.Trees.{Actions}
use Rattle.ledger_model.specs.Language.{roles_of}
use Rattle.ledger_model.specs.Conformance.{AreRest, Conforms, Demands, body_of, result_of_child}
use Rattle.ledger_model.specs.Authority.{is_forest_authorised, authorisers_below}
use Rattle.ledger_model.specs.declared.step.ChildResult.{ChildResult}
use Rattle.ledger_model.specs.declared.step.Step.{Step}
use Rattle.ledger_model.specs.declared.step.Step.TheVariants.{Create as CreateNext, Exercise as ExerciseNext, Fetch as FetchNext, Done}
use Rattle.lang_eval.specs.declared.eval_fault.EvalFault.{EvalFault}
use Rattle.lang_eval.specs.declared.eval_fault.EvalFault.TheVariants.{TooLarge}
use Rattle.lang_eval.specs.Found.{Packages}
use Rattle.lang_eval.specs.Language.{step_in}
use Rattle.lang_eval.specs.Next.{next}
use Rattle.lang_eval.specs.Parts.{PartyNames}
use Rattle.interpret.specs.declared.command_fault.CommandFault.TheVariants.{Eval}
use Rattle.interpret.specs.declared.demand.Demand.{Demand}
use Rattle.interpret.specs.declared.demand.Demand.TheVariants.{Create as CreateDemand, Exercise as ExerciseDemand, Fetch as FetchDemand}
use Rattle.interpret.specs.declared.progress.Progress.{Progress}
use Rattle.interpret.specs.Ids.{Hash}
use Rattle.interpret.specs.Language.{the_language}
use Rattle.interpret.specs.Sizes.{is_small_result}
use Rattle.interpret.specs.Act.{Source, Stop, End, Child, step_of, turn_of, step_turn}
use Rattle.interpret.specs.Commands.{commands_source}
use Rattle.interpret.specs.Interpreted.{nothing_done}
use Rattle.interpret.specs.Wanted.{Wanted, IsWanted, after, after_action, after_all, one_less, source_of, result_of}
use Rattle.ledger_terms.specs.Depth.{depth}
use Rattle.interpret.specs.Keeping.{KeepsRules}
use Rattle.interpret.proofs.Completeness.{wanted_room}
use Rattle.interpret.proofs.Law.{after_all-append}

-- what a turn says of the step
pub ends_step : (path : List ℕ) (s : Step) (v : Value) → step_turn path s ≡ End v → Some s ≡ Some (Done v)
ends_step path (Done w) v h =
    elim (cases_Bool (is_small_result w)) [
      | inl b ↦ let same : End w ≡ End v = rw b at h in let e : w ≡ v = cc in ap (λ (v : Value). Some (Done v)) e
      | inr b ↦ let no : Stop (Eval path TooLarge) ≡ End v = rw b at h in absurd cc
    ]
ends_step path (CreateNext t fields) v h = cc
ends_step path (ExerciseNext t id choice args) v h = cc
ends_step path (FetchNext t id) v h = cc

ends_turn : (path : List ℕ) (r : Result Step EvalFault) (v : Value) → turn_of path r ≡ End v → step_in r ≡ Some (Done v)
ends_turn path (Ok s) v h = ends_step path s v h
ends_turn path (Err e) v h = cc

child_same : (d e : Demand) → Child d ≡ Child e → d ≡ e
child_same d e h = cc

pub child_step : (path : List ℕ) (s : Step) (d : Demand) → step_turn path s ≡ Child d → Some s ≡ Some (step_of d)
child_step path (Done w) d h =
    elim (cases_Bool (is_small_result w)) [
      | inl b ↦ let no : End w ≡ Child d = rw b at h in absurd cc
      | inr b ↦ let no : Stop (Eval path TooLarge) ≡ Child d = rw b at h in absurd cc
    ]
child_step path (CreateNext t fields) d h = ap (λ (d : Demand). Some (step_of d)) (child_same (CreateDemand t fields) d h)
child_step path (ExerciseNext t id choice args) d h = ap (λ (d : Demand). Some (step_of d)) (child_same (ExerciseDemand t id choice args) d h)
child_step path (FetchNext t id) d h = ap (λ (d : Demand). Some (step_of d)) (child_same (FetchDemand t id) d h)

child_turn : (path : List ℕ) (r : Result Step EvalFault) (d : Demand) → turn_of path r ≡ Child d → step_in r ≡ Some (step_of d)
child_turn path (Ok s) d h = child_step path s d h
child_turn path (Err e) d h = cc

module _ (packages : Packages) (known : List Known) where
  -- the consequences of an action are what its choice does
  below_conform : (action : Action) (at : List ℕ) (left : ℕ) (by : PartyNames) (seen : List ChildResult) (seed : Hash) (path : List ℕ) (index : ℕ)
      (progress : Progress) (forest : Actions)
      → Wanted packages known left (source_of packages at action) (result_of action) by seen seed path index progress forest
      → AreRest (the_language packages) (body_of action) seen forest
  below_conform (Create id i) at left by seen seed path index progress NoRoots w = tt
  below_conform (Create id i) at left by seen seed path index progress (Root a consequences others) w = absurd
      (let no : End (result_of (Create id i)) ≡ Child w.0.0 = w.0.1 in cc)
  below_conform (Fetch id salt i actors) at left by seen seed path index progress NoRoots w = tt
  below_conform (Fetch id salt i actors) at left by seen seed path index progress (Root a consequences others) w = absurd
      (let no : End (result_of (Create id i)) ≡ Child w.0.0 = w.0.1 in cc)
  below_conform (Exercise id salt i choice args actors consuming result) at left by seen seed path index progress NoRoots w =
      ends_turn at (next packages (record { id = id; instance = i; choice = choice; args = args }) seen) result w
  below_conform (Exercise id salt i choice args actors consuming result) at left by seen seed path index progress (Root a consequences others) w = (
    subst (λ (o : Option Step). Demands o a.action)
        (sym (child_turn at (next packages (record { id = id; instance = i; choice = choice; args = args }) seen) w.0.0 w.0.1)) w.0.2,
    w.4.possible,
    below_conform a.action (path ++ index ∷ []) (one_less left) (authorisers_below (roles_of (the_language packages)) a.action) [] a.seed
        (path ++ index ∷ []) 0 (after progress a) consequences w.5,
    below_conform (Exercise id salt i choice args actors consuming result) at left by (seen ++ result_of_child a.action ∷ []) seed path (index + 1)
        (after_all (after progress a) (preorder consequences)) others w.6,
  )

  pub roots_conform : (source : Source) (result : Value) (left : ℕ) (by : PartyNames) (seen : List ChildResult) (seed : Hash) (path : List ℕ) (index : ℕ)
      (progress : Progress) (forest : Actions) → Wanted packages known left source result by seen seed path index progress forest
      → Conforms (the_language packages) forest
  roots_conform source result left by seen seed path index progress NoRoots w = tt
  roots_conform source result left by seen seed path index progress (Root a consequences others) w = (
    w.4.possible,
    below_conform a.action (path ++ index ∷ []) (one_less left) (authorisers_below (roles_of (the_language packages)) a.action) [] a.seed
        (path ++ index ∷ []) 0 (after progress a) consequences w.5,
    roots_conform source result left by (source.learn seen a.action) seed path (index + 1) (after_all (after progress a) (preorder consequences)) others w.6,
  )

  pub all_authorised : (source : Source) (result : Value) (left : ℕ) (by : PartyNames) (seen : List ChildResult) (seed : Hash) (path : List ℕ) (index : ℕ)
      (progress : Progress) (forest : Actions) → Wanted packages known left source result by seen seed path index progress forest
      → is_forest_authorised (roles_of (the_language packages)) by forest ≡ true
  all_authorised source result left by seen seed path index progress NoRoots w = refl
  all_authorised source result left by seen seed path index progress (Root a consequences others) w =
      both_true _ _ w.4.authorised (both_true _ _
      (all_authorised (source_of packages (path ++ index ∷ []) a.action) (result_of a.action) (one_less left)
      (authorisers_below (roles_of (the_language packages)) a.action) [] a.seed (path ++ index ∷ []) 0 (after progress a) consequences w.5)
      (all_authorised source result left by (source.learn seen a.action) seed path (index + 1) (after_all (after progress a) (preorder consequences))
      others w.6))

  less_deep : (left : ℕ) → 0 < left → suc (one_less left) ≡ left
  less_deep zero h = absurd (omega arith)
  less_deep (suc n) h = refl

  pub not_deep : (source : Source) (result : Value) (left : ℕ) (by : PartyNames) (seen : List ChildResult) (seed : Hash) (path : List ℕ) (index : ℕ)
      (progress : Progress) (forest : Actions) → Wanted packages known left source result by seen seed path index progress forest → depth forest ≤ left
  not_deep source result left by seen seed path index progress NoRoots w = omega arith
  not_deep source result left by seen seed path index progress (Root a consequences others) w =
      let down = not_deep (source_of packages (path ++ index ∷ []) a.action) (result_of a.action) (one_less left)
      (authorisers_below (roles_of (the_language packages)) a.action) [] a.seed (path ++ index ∷ []) 0 (after progress a) consequences w.5 in
      let along = not_deep source result left by (source.learn seen a.action) seed path (index + 1)
      (after_all (after progress a) (preorder consequences)) others w.6 in
      omega (arith, down, along, less_deep left w.1)

  action-count : (p : Progress) (seed : Hash) (a : Action) → (after_action p seed a).count ≡ p.count + 1
  action-count p seed (Create id i) = refl
  action-count p seed (Exercise id salt i choice args actors consuming result) = refl
  action-count p seed (Fetch id salt i actors) = refl

  counted_all : (p : Progress) (forest : Actions) → (after_all p (preorder forest)).count ≡ p.count + size forest
  counted_all p NoRoots = omega arith
  counted_all p (Root a consequences others) =
      ap (λ (q : Progress). q.count) (after_all-append (after p a) (preorder consequences) (preorder others))
      ∙ omega (arith, counted_all (after_all (after p a) (preorder consequences)) others, counted_all (after p a) consequences, action-count p a.seed a.action)

  pub not_many : (seed : Hash) (by : PartyNames) (commands : List Command) (forest : Actions) → IsWanted packages known seed by commands forest
      → size forest ≤ 64
  not_many seed by commands forest h =
      omega (
        arith,
        counted_all nothing_done forest,
        wanted_room packages known 16 (commands_source packages known commands) _ by [] seed [] 0
            nothing_done forest (omega arith) h.roots,
      )

  pub keeps_rules : (seed : Hash) (by : PartyNames) (commands : List Command) (forest : Actions) → IsWanted packages known seed by commands forest
      → KeepsRules packages by forest
  keeps_rules seed by commands forest h =
      record {
        conforms = roots_conform (commands_source packages known commands) _ 16 by [] seed [] 0 nothing_done forest h.roots;
        authorised = all_authorised (commands_source packages known commands) _ 16 by [] seed [] 0 nothing_done forest h.roots;
        few = not_many seed by commands forest h;
        shallow = not_deep (commands_source packages known commands) _ 16 by [] seed [] 0 nothing_done forest h.roots;
        small = h.small;
      }
