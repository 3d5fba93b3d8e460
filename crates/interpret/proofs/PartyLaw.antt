-- A wanted transaction names no party beyond those that packages, commands and known contracts name.
use Rattle.std.proofs.Common.{◌≡◌, ℕ, ◌+◌, Bool, true, false, cond, List, [], ◌∷◌, ◌++◌, Option, Some, None, Result, Ok, Err, refl, sym, ap, subst}
use Rattle.std.specs.Prelude.{slice_get}
use Rattle.std.specs.List.{flat_map, list_all}
use Rattle.std.proofs.lemmas.Grind.{flat_map-append}
use Rattle.ledger_terms.proofs.Deciding.{both, bytes_decide, lists_decide}
use Rattle.ledger_terms.specs.Parties.{has_party}
use Rattle.ledger_terms.specs.declared.value.Value.{Value}
use Rattle.ledger_terms.specs.declared.value.Value.TheVariants.{Unit as UnitValue}
use Rattle.ledger_terms.specs.declared.instance.Instance.{Instance}
use Rattle.ledger_terms.specs.declared.known.Known.{Known}
use Rattle.ledger_terms.specs.declared.template_name.TemplateName.{TemplateName}
use Rattle.ledger_terms.specs.declared.arg.Arg.{Arg}
use Rattle.ledger_terms.specs.declared.contract_ref.ContractRef.{ContractRef}
use Rattle.ledger_terms.specs.declared.command.Command.{Command}
use Rattle.ledger_terms.specs.declared.command.Command.TheVariants.{Create as CreateCommand, Exercise as ExerciseCommand}
use Rattle.ledger_terms.specs.declared.action.Action.{Action}
use Rattle.ledger_terms.specs.declared.action.Action.TheVariants.{Create, Exercise, Fetch}
use Rattle.ledger_terms.specs.Forest.{NoRoots, Root, preorder}
use Rattle.ledger_terms.specs.Trees.{Actions}
use Rattle.ledger_model.specs.Parties.{within}
use Rattle.ledger_model.specs.Language.{roles_of}
use Rattle.ledger_model.specs.Conformance.{Demands, Possible, result_of_child}
use Rattle.ledger_model.specs.Authority.{authorisers_below}
use Rattle.ledger_model.specs.declared.step.ChoiceCall.{ChoiceCall}
use Rattle.ledger_model.specs.declared.step.ChildResult.{ChildResult}
use Rattle.ledger_model.specs.declared.step.Step.{Step}
use Rattle.ledger_model.specs.declared.step.Step.TheVariants.{Done}
use Rattle.lang_eval.specs.declared.eval_fault.EvalFault.{EvalFault}
use Rattle.lang_eval.specs.declared.role_fault.RoleFault.{RoleFault}
use Rattle.lang_eval.specs.declared.role_fault.RoleFault.TheVariants.{NoRoles}
use Rattle.lang_eval.specs.declared.choice_parties.ChoiceParties.{ChoiceParties}
use Rattle.lang_eval.specs.declared.contract_parties.ContractParties.{ContractParties}
use Rattle.lang_eval.specs.Found.{Packages, template_in, choice_in}
use Rattle.lang_eval.specs.Kinds.{has_kinds}
use Rattle.lang_eval.specs.Language.{or_no_roles, parties_if_typed, signatories_in, observers_in}
use Rattle.lang_eval.specs.Next.{next}
use Rattle.lang_eval.specs.Parts.{PartyNames, parties_of_choice, parties_of_contract}
use Rattle.lang_eval.specs.Named.{AreKnown, choice_party_names, parties_in_action, parties_in_call, parties_in_instance, parties_in_packages, parties_in_seen, parties_in_step, parties_in_value, parties_in_values, stakeholder_names}
use Rattle.lang_eval.proofs.Known.{known_append, known_front, known_back, known_set_of}
use Rattle.lang_eval.proofs.NamedValues.{gives_of}
use Rattle.lang_eval.proofs.NamedSteps.{next_known}
use Rattle.lang_eval.proofs.NamedRoles.{contract_parties_known, choice_parties_known}
use Rattle.interpret.specs.declared.command_fault.CommandFault.{CommandFault}
use Rattle.interpret.specs.declared.demand.Demand.{Demand}
use Rattle.interpret.specs.declared.demand.Demand.TheVariants.{Create as CreateDemand, Exercise as ExerciseDemand, Fetch as FetchDemand}
use Rattle.interpret.specs.declared.progress.Progress.{Progress}
use Rattle.interpret.specs.Ids.{Hash}
use Rattle.interpret.specs.Language.{the_language, are_controllers, is_exercisable}
use Rattle.interpret.specs.Tested.{fetchers}
use Rattle.interpret.specs.Act.{Source, End, Child, body_source, step_of, turn_of}
use Rattle.interpret.specs.Commands.{args_have_kinds, called_demand, command_demand, command_turn, commands_source, demand_turn, referenced_id, referenced_values, where_there}
use Rattle.interpret.specs.Interpreted.{nothing_done}
use Rattle.lang_eval.specs.HandedIn.{parties_in_args, parties_in_command, parties_in_commands}
use Rattle.interpret.specs.NamedParties.{parties_in_act, parties_in_contracts, parties_in_forest, parties_in_known}
use Rattle.interpret.specs.Wanted.{Wanted, IsWanted, IsInput, IsFetchedBy, after, after_action, after_all, no_source, one_less, source_of, result_of}
use Rattle.interpret.proofs.Facts.{exercised_back}
use Rattle.interpret.proofs.Law.{after_all-append}
use Rattle.interpret.proofs.PartyArgs.{item_known, values_known}
use Rattle.interpret.proofs.Rules.{child_step, ends_step}
use Rattle.interpret.proofs.Used.{AllOf, all_push, used}

ok_same : (d e : Demand) → (let r : Result Demand CommandFault = Ok d in r ≡ Ok e) → d ≡ e
ok_same d e h = cc

some_same : {A : Type 0} (x y : A) → Some x ≡ Some y → x ≡ y
some_same x y h = cc

-- what a turn says of the step that was evaluated
turn_asks : (path : List ℕ) (r : Result Step EvalFault) (d : Demand) → turn_of path r ≡ Child d → r ≡ Ok (step_of d)
turn_asks path (Ok s) d h = ap (λ (s : Step). Ok s) (some_same s (step_of d) (child_step path s d h))
turn_asks path (Err e) d h = cc

turn_ends : (path : List ℕ) (r : Result Step EvalFault) (v : Value) → turn_of path r ≡ End v → r ≡ Ok (Done v)
turn_ends path (Ok s) v h = ap (λ (s : Step). Ok s) (some_same s (Done v) (ends_step path s v h))
turn_ends path (Err e) v h = cc

demand_asks : (r : Result Demand CommandFault) (d : Demand) → demand_turn r ≡ Child d → r ≡ Ok d
demand_asks (Ok e) d h = let same : e ≡ d = cc in ap (λ (d : Demand). Ok d) same
demand_asks (Err f) d h = cc

demand_never_ends : (r : Result Demand CommandFault) (v : Value) → demand_turn r ≡ End v → v ≡ UnitValue
demand_never_ends (Ok e) v h = cc
demand_never_ends (Err f) v h = cc

module _ (is_party : List ℕ → Bool) where
  abbrev Fine : PartyNames → Type 0
  Fine parties = AreKnown is_party parties

  abbrev pub IsKnownContract : Known → Type 0
  IsKnownContract k = Fine (parties_in_known k)

  pub each_known : (ks : List Known) → Fine (parties_in_contracts ks) → AllOf IsKnownContract ks
  each_known [] h = tt
  each_known (k ∷ ks) h = (
    known_front is_party (parties_in_known k) (parties_in_contracts ks) h,
    each_known ks
        (known_back is_party (parties_in_known k) (parties_in_contracts ks) h),
  )

  -- what a source asks for and ends with names only these parties
  record FineSource (source : Source) : Type 0 where
    asks : (index : ℕ) (seen : List ChildResult) (d : Demand) → Fine (flat_map parties_in_seen seen) → source.turn index seen ≡ Child d
        → Fine (parties_in_step (step_of d))
    ends : (index : ℕ) (seen : List ChildResult) (v : Value) → Fine (flat_map parties_in_seen seen) → source.turn index seen ≡ End v → Fine (parties_in_value v)
    learns : (seen : List ChildResult) (a : Action) → Fine (flat_map parties_in_seen seen) → Fine (parties_in_action a)
        → Fine (flat_map parties_in_seen (source.learn seen a))

  none_asked : FineSource no_source
  none_asked =
      record {
        asks = λ index seen d s h. absurd (let no : End UnitValue ≡ Child d = h in cc);
        ends = λ index seen v s h. subst (λ (v : Value). Fine (parties_in_value v)) (let same : UnitValue ≡ v = cc in same) refl;
        learns = λ seen a s h. refl;
      }

  seen_fine : (a : Action) → Fine (parties_in_action a) → Fine (parties_in_seen (result_of_child a))
  seen_fine (Create id i) h = refl
  seen_fine (Exercise id salt i choice args actors consuming result) h =
      known_back is_party actors (parties_in_value result)
      (known_back is_party (parties_in_values args) (actors ++ parties_in_value result)
      (known_back is_party (parties_in_instance i) (parties_in_values args ++ (actors ++ parties_in_value result)) h))
  seen_fine (Fetch id salt i actors) h = known_front is_party (parties_in_instance i) actors h

  seen_more : (seen : List ChildResult) (a : Action) → Fine (flat_map parties_in_seen seen) → Fine (parties_in_action a)
      → Fine (flat_map parties_in_seen (seen ++ result_of_child a ∷ []))
  seen_more seen a s h =
      subst Fine (sym (flat_map-append parties_in_seen seen (result_of_child a ∷ [])))
      (known_append is_party (flat_map parties_in_seen seen) (parties_in_seen (result_of_child a) ++ []) s
      (known_append is_party (parties_in_seen (result_of_child a)) [] (seen_fine a h) refl))

  controllers_fine : (r : Result ChoiceParties EvalFault) (actors : PartyNames)
      → ((p : ChoiceParties) → r ≡ Ok p → Fine (choice_party_names p)) → are_controllers r actors ≡ true → Fine actors
  controllers_fine (Ok p) actors f h =
      subst Fine ((lists_decide bytes_decide p.controllers actors).0 h) (known_front is_party p.controllers p.observers (f p refl))
  controllers_fine (Err e) actors f h = absurd (let no : false ≡ true = h in cc)

  contract_fine : (r : Result ContractParties EvalFault) → ((p : ContractParties) → r ≡ Ok p → Fine (stakeholder_names p))
      → Fine (signatories_in (or_no_roles r) ++ observers_in (or_no_roles r))
  contract_fine (Ok p) f = f p refl
  contract_fine (Err e) f = refl

  typed_fine : (kinds : Bool) (r : Result ContractParties RoleFault) → Fine (signatories_in r ++ observers_in r)
      → Fine (signatories_in (cond kinds r (Err NoRoles)) ++ observers_in (cond kinds r (Err NoRoles)))
  typed_fine true r h = h
  typed_fine false r h = refl

  within_one : (c : Bool) (p : List ℕ) (ps : PartyNames) → is_party p ≡ true → Fine ps → Fine (cond c (p ∷ ps) ps)
  within_one true p ps h k = known_append is_party (p ∷ []) ps (rw h refl) k
  within_one false p ps h k = k

  within_fine : (ps by : PartyNames) → Fine ps → Fine (within ps by)
  within_fine [] by h = refl
  within_fine (p ∷ ps) by h =
      let q = both (is_party p) (list_all is_party ps) h in
      within_one (has_party by p) p (within ps by) q.0 (within_fine ps by q.1)

  module _ (packages : Packages) (fine : Fine (parties_in_packages packages)) where
    body_fine : (call : ChoiceCall) (path : List ℕ) → Fine (parties_in_call call) → FineSource (body_source packages call path)
    body_fine call path k =
        let step : (seen : List ChildResult) (s : Step) → Fine (flat_map parties_in_seen seen) → next packages call seen ≡ Ok s → Fine (parties_in_step s) =
        λ seen s h is. gives_of is_party parties_in_step (next packages call seen) s (next_known is_party packages call seen fine k h) is in
        record {
          asks = λ index seen d s h. step seen (step_of d) s (turn_asks path (next packages call seen) d h);
          ends = λ index seen v s h. step seen (Done v) s (turn_ends path (next packages call seen) v h);
          learns = λ seen a s h. seen_more seen a s h;
        }

    stakeholders_fine : (i : Instance) → Fine (parties_in_instance i)
        → Fine (signatories_in (parties_if_typed packages i) ++ observers_in (parties_if_typed packages i))
    stakeholders_fine i h =
        typed_fine (has_kinds packages i) (or_no_roles (parties_of_contract packages i))
        (contract_fine (parties_of_contract packages i)
        (λ p is. gives_of is_party stakeholder_names (parties_of_contract packages i) p (contract_parties_known is_party packages i fine h) is))

    fetchers_fine : (i : Instance) (by : PartyNames) → Fine (parties_in_instance i) → Fine (fetchers packages i by)
    unfolding fetchers
    fetchers_fine i by h = known_set_of is_party _ (within_fine _ by (stakeholders_fine i h))

    actors_fine : (call : ChoiceCall) (actors : PartyNames) (consuming : Bool) (result : Value)
        → Fine (parties_in_call call) → is_exercisable packages call actors consuming result ≡ true → Fine actors
    actors_fine call actors consuming result k h =
        controllers_fine (parties_of_choice packages call) actors
        (λ p is. gives_of is_party choice_party_names (parties_of_choice packages call) p (choice_parties_known is_party packages call fine k) is)
        (exercised_back packages call actors consuming result h).controlled

    module _ (known : List Known) (contracts : AllOf IsKnownContract known) where
      -- what an action adds, before its result is known
      record FineAction (by : PartyNames) (path : List ℕ) (progress : Progress) (seed : Hash) (a : Action) : Type 0 where
        source : FineSource (source_of packages path a)
        created : AllOf IsKnownContract (after_action progress seed a).created
        whole : Fine (parties_in_value (result_of a)) → Fine (parties_in_action a)

      fine_action : (by : PartyNames) (path : List ℕ) (progress : Progress) (seed : Hash) (d : Demand) (a : Action)
          → AllOf IsKnownContract progress.created → Fine (parties_in_step (step_of d)) → Demands (Some (step_of d)) a
          → IsInput packages known progress seed a → Possible (the_language packages) a → IsFetchedBy packages by a
          → FineAction by path progress seed a
      fine_action by path progress seed (CreateDemand t fields) (Create id i) made h asked input possible fetched =
          let own : Fine (parties_in_instance i) = subst (λ (vs : List Value). Fine (parties_in_values vs)) (sym asked.1) h in
          record {
            source = none_asked;
            created = all_push IsKnownContract progress.created (record { id = id; salt = seed; instance = i }) made own;
            whole = λ r. own;
          }
      fine_action by path progress seed (ExerciseDemand t id choice args) (Exercise id' salt i choice' args' actors consuming result) made h asked
          input possible fetched =
          let own : Fine (parties_in_instance i) =
          used IsKnownContract packages known progress id' i.template (record { id = id'; salt = salt; instance = i }) contracts made input in
          let given : Fine (parties_in_values args') = subst (λ (vs : List Value). Fine (parties_in_values vs)) (sym asked.3) h in
          let call : ChoiceCall = record { id = id'; instance = i; choice = choice'; args = args' } in
          let both_fine = known_append is_party (parties_in_instance i) (parties_in_values args') own given in
          let acting = actors_fine call actors consuming result both_fine possible.1 in
          record {
            source = body_fine call path both_fine;
            created = made;
            whole = λ r. known_append is_party (parties_in_instance i) (parties_in_values args' ++ (actors ++ parties_in_value result)) own
                (known_append is_party (parties_in_values args') (actors ++ parties_in_value result) given
                (known_append is_party actors (parties_in_value result) acting r));
          }
      fine_action by path progress seed (FetchDemand t id) (Fetch id' salt i actors) made h asked input possible fetched =
          let own : Fine (parties_in_instance i) =
          used IsKnownContract packages known progress id' i.template (record { id = id'; salt = salt; instance = i }) contracts made input in
          record {
            source = none_asked;
            created = made;
            whole = λ r. known_append is_party (parties_in_instance i) actors own (subst Fine (sym fetched) (fetchers_fine i by own));
          }
      fine_action by path progress seed (CreateDemand t fields) (Exercise id' salt i choice' args' actors consuming result) made h asked input
          possible fetched = absurd asked
      fine_action by path progress seed (CreateDemand t fields) (Fetch id' salt i actors) made h asked input possible fetched = absurd asked
      fine_action by path progress seed (ExerciseDemand t id choice args) (Create id' i) made h asked input possible fetched = absurd asked
      fine_action by path progress seed (ExerciseDemand t id choice args) (Fetch id' salt i actors) made h asked input possible fetched = absurd asked
      fine_action by path progress seed (FetchDemand t id) (Create id' i) made h asked input possible fetched = absurd asked
      fine_action by path progress seed (FetchDemand t id) (Exercise id' salt i choice' args' actors consuming result) made h asked input possible
          fetched = absurd asked

      record FineForest (result : Value) (progress : Progress) (forest : Actions) : Type 0 where
        actions : Fine (parties_in_forest forest)
        created : AllOf IsKnownContract (after_all progress (preorder forest)).created
        ends : Fine (parties_in_value result)

      fine_forest : (left : ℕ) (source : Source) (result : Value) (by : PartyNames) (seen : List ChildResult) (seed : Hash) (path : List ℕ) (index : ℕ)
          (progress : Progress) (forest : Actions)
          → FineSource source → Fine (flat_map parties_in_seen seen) → AllOf IsKnownContract progress.created
          → Wanted packages known left source result by seen seed path index progress forest → FineForest result progress forest
      fine_forest left source result by seen seed path index progress NoRoots f s made w =
          record { actions = refl; created = made; ends = f.ends index seen result s w }
      fine_forest left source result by seen seed path index progress (Root a consequences others) f s made w =
          let asked = f.asks index seen w.0.0 s w.0.1 in
          let own = fine_action by (path ++ index ∷ []) progress a.seed w.0.0 a.action made asked w.0.2 w.4.input w.4.possible w.4.fetched in
          let down =
          fine_forest (one_less left) (source_of packages (path ++ index ∷ []) a.action) (result_of a.action)
          (authorisers_below (roles_of (the_language packages)) a.action) [] a.seed (path ++ index ∷ []) 0 (after progress a) consequences
          own.source refl own.created w.5 in
          let whole = own.whole down.ends in
          let along =
          fine_forest left source result by (source.learn seen a.action) seed path (index + 1) (after_all (after progress a) (preorder consequences)) others
          f (f.learns seen a.action s whole) down.created w.6 in
          record {
            actions = known_append is_party (parties_in_act a) (flat_map parties_in_act (preorder consequences ++ preorder others)) whole
                (subst Fine (sym (flat_map-append parties_in_act (preorder consequences) (preorder others)))
                (known_append is_party (parties_in_forest consequences) (parties_in_forest others) down.actions along.actions));
            created = subst (λ (p : Progress). AllOf IsKnownContract p.created)
                (sym (after_all-append (after progress a) (preorder consequences) (preorder others))) along.created;
            ends = along.ends;
          }

      there_asks : {A : Type 0} (o : Option A) (g : CommandFault) (go : A → Result Demand CommandFault) (d : Demand)
          → ((x : A) → o ≡ Some x → go x ≡ Ok d → Fine (parties_in_step (step_of d))) → where_there o g go ≡ Ok d → Fine (parties_in_step (step_of d))
      there_asks None g go d f h = absurd (let no : Err g ≡ Ok d = h in cc)
      there_asks (Some x) g go d f h = f x refl h

      test_asks : (b : Bool) (r : Result Demand CommandFault) (g : CommandFault) (d : Demand)
          → (r ≡ Ok d → Fine (parties_in_step (step_of d))) → cond b r (Err g) ≡ Ok d → Fine (parties_in_step (step_of d))
      test_asks true r g d f h = f h
      test_asks false r g d f h = absurd (let no : Err g ≡ Ok d = h in cc)

      called_asks : (root : ℕ) (t : TemplateName) (r : ContractRef) (choice : List ℕ) (args : List Arg) (d : Demand)
          → Fine (parties_in_args args) → called_demand known root t r choice args ≡ Ok d → Fine (parties_in_step (step_of d))
      called_asks root t r choice args d p =
          there_asks (referenced_id known r) _ _ d (λ id _. there_asks (referenced_values known args) _ _ d (λ vs is e.
          let same : ExerciseDemand t id choice vs ≡ d = ok_same (ExerciseDemand t id choice vs) d e in
          subst (λ (d : Demand). Fine (parties_in_step (step_of d))) same (values_known is_party known args vs p is)))

      command_asks : (root : ℕ) (c : Command) (d : Demand) → Fine (parties_in_command c) → command_demand packages known root c ≡ Ok d
          → Fine (parties_in_step (step_of d))
      command_asks root (CreateCommand t fields) d p =
          there_asks (template_in t packages) _ _ d (λ f _. test_asks (args_have_kinds fields f.fields) _ _ d
          (there_asks (referenced_values known fields) _ _ d (λ vs is e.
          let same : CreateDemand t vs ≡ d = ok_same (CreateDemand t vs) d e in
          subst (λ (d : Demand). Fine (parties_in_step (step_of d))) same (values_known is_party known fields vs p is))))
      command_asks root (ExerciseCommand t r choice args) d p =
          there_asks (template_in t packages) _ _ d (λ f _. there_asks (choice_in t choice packages) _ _ d (λ c _.
          test_asks (args_have_kinds args c.params) _ _ d (called_asks root t r choice args d p)))

      turn_of_command : (root : ℕ) (o : Option Command) (d : Demand) → ((c : Command) → o ≡ Some c → Fine (parties_in_command c))
          → command_turn packages known root o ≡ Child d → Fine (parties_in_step (step_of d))
      turn_of_command root None d f h = absurd (let no : End UnitValue ≡ Child d = h in cc)
      turn_of_command root (Some c) d f h = command_asks root c d (f c refl) (demand_asks (command_demand packages known root c) d h)

      end_of_commands : (root : ℕ) (o : Option Command) (v : Value) → command_turn packages known root o ≡ End v → v ≡ UnitValue
      end_of_commands root None v h = cc
      end_of_commands root (Some c) v h = demand_never_ends (command_demand packages known root c) v h

      commands_fine : (commands : List Command) → Fine (parties_in_commands commands) → FineSource (commands_source packages known commands)
      commands_fine commands p =
          record {
            asks = λ index seen d s h. turn_of_command index (slice_get commands index) d
                (λ c is. item_known is_party parties_in_command commands index c p is) h;
            ends = λ index seen v s h. subst (λ (v : Value). Fine (parties_in_value v)) (sym (end_of_commands index (slice_get commands index) v h)) refl;
            learns = λ seen a s h. refl;
          }

-- each action of the wanted transaction
pub wanted_parties : (is_party : List ℕ → Bool) (packages : Packages) (known : List Known) (seed : Hash) (by : PartyNames) (commands : List Command)
    (forest : Actions)
    → AreKnown is_party (parties_in_packages packages) → AreKnown is_party (parties_in_contracts known) → AreKnown is_party (parties_in_commands commands)
    → IsWanted packages known seed by commands forest → AreKnown is_party (parties_in_forest forest)
wanted_parties is_party packages known seed by commands forest fine contracts asked h =
    let contracts = each_known is_party known contracts in
    (fine_forest is_party packages fine known contracts 16 (commands_source packages known commands) UnitValue by [] seed [] 0 nothing_done forest
    (commands_fine is_party packages fine known contracts commands asked) refl tt h.roots).actions
