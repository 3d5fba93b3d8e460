-- No fault of commands holds want of memory.
use Rattle.std.proofs.Common.{◌≡◌, ◌≢◌, ℕ, ◌+◌, Bool, true, false, not, cond, List, [], ◌∷◌, ◌++◌, Option, Some, None, Result, Ok, Err, sym, ap, subst, inl, inr}
use Rattle.std.specs.Prelude.{slice_get, nat_le, IfErr}
use Rattle.std.proofs.lemmas.Bool.{cases_Bool}
use Rattle.ledger_terms.specs.declared.known.Known.{Known}
use Rattle.ledger_terms.specs.declared.value.Value.{Value}
use Rattle.ledger_terms.specs.declared.value.Value.TheVariants.{Unit as UnitValue}
use Rattle.ledger_terms.specs.declared.arg.Arg.{Arg}
use Rattle.ledger_terms.specs.declared.contract_ref.ContractRef.{ContractRef}
use Rattle.ledger_terms.specs.declared.template_name.TemplateName.{TemplateName}
use Rattle.ledger_terms.specs.declared.command.Command.{Command}
use Rattle.ledger_terms.specs.declared.command.Command.TheVariants.{Create, Exercise}
use Rattle.ledger_terms.specs.declared.instance.Instance.{Instance}
use Rattle.ledger_terms.specs.Trees.{Actions}
use Rattle.ledger_terms.specs.Parties.{is_subset}
use Rattle.ledger_model.specs.Parties.{is_empty}
use Rattle.ledger_model.specs.declared.step.ChoiceCall.{ChoiceCall}
use Rattle.ledger_model.specs.declared.step.ChildResult.{ChildResult}
use Rattle.ledger_model.specs.declared.step.Step.{Step}
use Rattle.ledger_model.specs.declared.step.Step.TheVariants.{Create as CreateNext, Exercise as ExerciseNext, Fetch as FetchNext, Done}
use Rattle.lang_eval.specs.declared.eval_fault.EvalFault.{EvalFault}
use Rattle.lang_eval.specs.declared.eval_fault.EvalFault.TheVariants.{Memory as NoMemory, TooLarge}
use Rattle.lang_eval.specs.declared.contract_parties.ContractParties.{ContractParties}
use Rattle.lang_eval.specs.declared.choice_parties.ChoiceParties.{ChoiceParties}
use Rattle.lang_eval.specs.Found.{Packages, template_in, choice_in}
use Rattle.lang_eval.specs.Kinds.{has_kinds, call_has_kinds}
use Rattle.lang_eval.specs.Next.{next}
use Rattle.lang_eval.specs.Parts.{PartyNames, parties_of_created, parties_of_choice}
use Rattle.interpret.specs.declared.command_fault.CommandFault.{CommandFault}
use Rattle.interpret.specs.declared.command_fault.CommandFault.TheVariants.{UnknownTemplate, UnknownChoice, BadArgs, ContractUnknown, Eval, TooDeep, TooMany, Unauthorised, Memory}
use Rattle.interpret.specs.declared.progress.Progress.{Progress}
use Rattle.interpret.specs.declared.demand.Demand.{Demand}
use Rattle.interpret.specs.declared.demand.Demand.TheVariants.{Create as CreateDemand, Exercise as ExerciseDemand, Fetch as FetchDemand}
use Rattle.interpret.specs.Ids.{Hash, child_seed}
use Rattle.interpret.specs.Sizes.{is_small_instance, are_small_args, is_small_result}
use Rattle.interpret.specs.Usable.{usable}
use Rattle.interpret.specs.Tested.{created_signatories, call_controllers, signatories_of, controllers_of, are_authorised, authorisers, fetchers}
use Rattle.interpret.specs.Act.{Source, Stop, End, Child, body_source, call_of, turn_of, step_turn}
use Rattle.interpret.specs.Commands.{commands_source, command_turn, command_demand, create_demand, exercise_demand, called_demand, demand_turn, where_there, args_have_kinds, referenced_values, referenced_id}
use Rattle.interpret.specs.Plain.{IsPlain}
use Rattle.interpret.specs.Stops.{Before, Here, Past, Inside, Stops, StopsWith, fault_where, evaluation_fault, exercise_fault, fetch_fault, demand_fault, first_fault, is_zero, progress_inside}
use Rattle.interpret.specs.Wanted.{one_less, progress_with}
use Rattle.interpret.proofs.NoMemory.{Plain, created_plain, choice_plain, next_plain}

some_same : (x y : CommandFault) → Some x ≡ Some y → x ≡ y
some_same x y h = cc

err_same : {A : Type 0} (x y : CommandFault) → (let r : Result A CommandFault = Err x in r ≡ Err y) → x ≡ y
err_same x y h = cc

failed_plain : (b : Bool) (f g : CommandFault) (o : Option CommandFault) → IsPlain f → (o ≡ Some g → IsPlain g) → fault_where b f o ≡ Some g → IsPlain g
failed_plain true f g o p q h = subst IsPlain (some_same f g h) p
failed_plain false f g o p q h = q h

eval_plain : (path : List ℕ) (e : EvalFault) (g : CommandFault) → e ≢ NoMemory → Some (Eval path e) ≡ Some g → IsPlain g
eval_plain path e g p h = subst IsPlain (some_same (Eval path e) g h) p

evaluated_plain : {A : Type 0} (path : List ℕ) (r : Result A EvalFault) (others : A → Option CommandFault) (g : CommandFault) → Plain r
    → ((a : A) → others a ≡ Some g → IsPlain g) → evaluation_fault path r others ≡ Some g → IsPlain g
evaluated_plain path (Err e) others g p q h = eval_plain path e g (λ m. p (ap (λ (e : EvalFault). Err e) m)) h
evaluated_plain path (Ok a) others g p q h = q a h

none_plain : (g : CommandFault) → None ≡ Some g → IsPlain g
none_plain g h = absurd (let no : None ≡ Some g = h in cc)

signatories_plain : (r : Result ContractParties EvalFault) → Plain r → Plain (signatories_of r)
signatories_plain (Ok p) q = λ h. cc
signatories_plain (Err e) q = λ h. q (ap (λ (e : EvalFault). Err e) (let same : e ≡ NoMemory = cc in same))

controllers_plain : (r : Result ChoiceParties EvalFault) → Plain r → Plain (controllers_of r)
controllers_plain (Ok p) q = λ h. cc
controllers_plain (Err e) q = λ h. q (ap (λ (e : EvalFault). Err e) (let same : e ≡ NoMemory = cc in same))

test_plain : {A : Type 0} (b : Bool) (r s : Result A EvalFault) → Plain r → Plain s → Plain (cond b r s)
test_plain true r s p q = p
test_plain false r s p q = q

create_plain : (packages : Packages) (i : Instance) → Plain (created_signatories packages i)
unfolding created_signatories
create_plain packages i =
    test_plain (has_kinds packages i) _ _
    (test_plain (is_small_instance i) _ _ (signatories_plain (parties_of_created packages i) (created_plain packages i)) (λ h. cc)) (λ h. cc)

call_plain : (packages : Packages) (call : ChoiceCall) → Plain (call_controllers packages call)
unfolding call_controllers
call_plain packages call =
    test_plain (call_has_kinds packages call) _ _
    (test_plain (are_small_args call.args) _ _ (controllers_plain (parties_of_choice packages call) (choice_plain packages call)) (λ h. cc)) (λ h. cc)

exercise_plain : (packages : Packages) (path : List ℕ) (by : PartyNames) (o : Option Known) (choice : List ℕ) (args : List Value) (g : CommandFault)
    → exercise_fault packages path by o choice args ≡ Some g → IsPlain g
exercise_plain packages path by None choice args g h = failed_plain true (ContractUnknown path) g None tt (none_plain g) h
exercise_plain packages path by (Some k) choice args g h =
    evaluated_plain path (call_controllers packages (call_of k choice args)) _ g (call_plain packages (call_of k choice args))
    (λ actors. failed_plain (not (are_authorised actors by)) (Unauthorised path) g None tt (none_plain g)) h

fetch_plain : (packages : Packages) (path : List ℕ) (by : PartyNames) (o : Option Known) (g : CommandFault) → fetch_fault packages path by o ≡ Some g
    → IsPlain g
fetch_plain packages path by None g h = failed_plain true (ContractUnknown path) g None tt (none_plain g) h
fetch_plain packages path by (Some k) g h = failed_plain (is_empty (fetchers packages k.instance by)) (Unauthorised path) g None tt (none_plain g) h

step_plain : (packages : Packages) (known : List Known) (progress : Progress) (path : List ℕ) (by : PartyNames) (demand : Demand) (g : CommandFault)
    → demand_fault packages known progress path by demand ≡ Some g → IsPlain g
step_plain packages known progress path by (CreateDemand t fields) g h =
    evaluated_plain path (created_signatories packages (record { template = t; fields = fields })) _ g
    (create_plain packages (record { template = t; fields = fields }))
    (λ s. failed_plain (not (is_subset s by)) (Unauthorised path) g None tt (none_plain g)) h
step_plain packages known progress path by (ExerciseDemand t id choice args) g h = exercise_plain packages path by
    (usable packages known progress id t) choice args g h
step_plain packages known progress path by (FetchDemand t id) g h = fetch_plain packages path by (usable packages known progress id t) g h

first_plain : (packages : Packages) (known : List Known) (left : ℕ) (progress : Progress) (path : List ℕ) (by : PartyNames) (demand : Demand)
    (g : CommandFault) → first_fault packages known left progress path by demand ≡ Some g → IsPlain g
first_plain packages known left progress path by demand g h =
    failed_plain (is_zero left) (TooDeep path) g _ tt
    (failed_plain (nat_le 64 progress.count) (TooMany path) g _ tt (step_plain packages known progress path by demand g)) h

stop_same : (x y : CommandFault) → Stop x ≡ Stop y → x ≡ y
stop_same x y h = cc

abbrev PlainSource : Source → Type 0
PlainSource source = (index : ℕ) (seen : List ChildResult) (fault : CommandFault) → source.turn index seen ≡ Stop fault → IsPlain fault

step_turn_plain : (path : List ℕ) (s : Step) (g : CommandFault) → step_turn path s ≡ Stop g → IsPlain g
step_turn_plain path (Done v) g h =
    elim (cases_Bool (is_small_result v)) [
      | inl b ↦ let no : End v ≡ Stop g = rw b at h in absurd cc
      | inr b ↦ let e : Stop (Eval path TooLarge) ≡ Stop g = rw b at h in subst IsPlain (stop_same (Eval path TooLarge) g e) (λ m. cc)
    ]
step_turn_plain path (CreateNext t fields) g h = absurd (let no : Child (CreateDemand t fields) ≡ Stop g = h in cc)
step_turn_plain path (ExerciseNext t id choice args) g h = absurd (let no : Child (ExerciseDemand t id choice args) ≡ Stop g = h in cc)
step_turn_plain path (FetchNext t id) g h = absurd (let no : Child (FetchDemand t id) ≡ Stop g = h in cc)

turn_plain : (path : List ℕ) (r : Result Step EvalFault) (g : CommandFault) → Plain r → turn_of path r ≡ Stop g → IsPlain g
turn_plain path (Ok s) g p h = step_turn_plain path s g h
turn_plain path (Err e) g p h = subst IsPlain (stop_same (Eval path e) g h) (λ m. p (ap (λ (e : EvalFault). Err e) m))

body_plain : (packages : Packages) (call : ChoiceCall) (path : List ℕ) → PlainSource (body_source packages call path)
body_plain packages call path index seen g h = turn_plain path (next packages call seen) g (next_plain packages call seen) h

there_plain : {A B : Type 0} (o : Option A) (f g : CommandFault) (go : A → Result B CommandFault) → IsPlain f → ((a : A) → go a ≡ Err g → IsPlain g)
    → where_there o f go ≡ Err g → IsPlain g
there_plain None f g go p q h = subst IsPlain (err_same f g h) p
there_plain (Some a) f g go p q h = q a h

tested_plain : {A : Type 0} (b : Bool) (r : Result A CommandFault) (f g : CommandFault) → IsPlain f → (r ≡ Err g → IsPlain g)
    → cond b r (Err f) ≡ Err g → IsPlain g
tested_plain true r f g p q h = q h
tested_plain false r f g p q h = subst IsPlain (err_same f g h) p

ok_plain : (s : Demand) (g : CommandFault) → Ok s ≡ Err g → IsPlain g
ok_plain s g h = absurd (let no : Ok s ≡ Err g = h in cc)

module _ (packages : Packages) (known : List Known) where
  create_step_plain : (root : ℕ) (t : TemplateName) (fields : List Arg) (g : CommandFault) → create_demand packages known root t fields ≡ Err g → IsPlain g
  create_step_plain root t fields g =
      there_plain (template_in t packages) (UnknownTemplate root) g _ tt (λ f. tested_plain (args_have_kinds fields f.fields) _ (BadArgs root) g tt
      (there_plain (referenced_values known fields) (ContractUnknown (root ∷ [])) g _ tt (λ vs. ok_plain _ g)))

  called_step_plain : (root : ℕ) (t : TemplateName) (r : ContractRef) (choice : List ℕ) (args : List Arg) (g : CommandFault)
      → called_demand known root t r choice args ≡ Err g → IsPlain g
  called_step_plain root t r choice args g =
      there_plain (referenced_id known r) (ContractUnknown (root ∷ [])) g _ tt
      (λ id. there_plain (referenced_values known args) (ContractUnknown (root ∷ [])) g _ tt (λ vs. ok_plain _ g))

  exercise_step_plain : (root : ℕ) (t : TemplateName) (r : ContractRef) (choice : List ℕ) (args : List Arg) (g : CommandFault)
      → exercise_demand packages known root t r choice args ≡ Err g → IsPlain g
  exercise_step_plain root t r choice args g =
      there_plain (template_in t packages) (UnknownTemplate root) g _ tt (λ f. there_plain (choice_in t choice packages) (UnknownChoice root) g _ tt (λ c.
      tested_plain (args_have_kinds args c.params) _ (BadArgs root) g tt (called_step_plain root t r choice args g)))

  command_step_plain : (root : ℕ) (c : Command) (g : CommandFault) → command_demand packages known root c ≡ Err g → IsPlain g
  command_step_plain root (Create t fields) g = create_step_plain root t fields g
  command_step_plain root (Exercise t r choice args) g = exercise_step_plain root t r choice args g

  asked_plain : (r : Result Demand CommandFault) (g : CommandFault) → (r ≡ Err g → IsPlain g) → demand_turn r ≡ Stop g → IsPlain g
  asked_plain (Ok s) g p h = absurd (let no : Child s ≡ Stop g = h in cc)
  asked_plain (Err f) g p h = p (ap (λ (f : CommandFault). Err f) (stop_same f g h))

  command_plain : (root : ℕ) (o : Option Command) (g : CommandFault) → command_turn packages known root o ≡ Stop g → IsPlain g
  command_plain root None g h = absurd (let no : End UnitValue ≡ Stop g = h in cc)
  command_plain root (Some c) g h = asked_plain (command_demand packages known root c) g (command_step_plain root c g) h

  commands_plain : (commands : List Command) → PlainSource (commands_source packages known commands)
  commands_plain commands index seen g h = command_plain index (slice_get commands index) g h

  stops_plain : (b : Before) (left : ℕ) (source : Source) → PlainSource source
      → (by : PartyNames) (seen : List ChildResult) (seed : Hash) (path : List ℕ) (index : ℕ) (progress : Progress) (g : CommandFault)
      → Stops packages known left source by seen seed path index progress b g → IsPlain g
  stops_plain Here left source p by seen seed path index progress g (inl itself) = p index seen g itself
  stops_plain Here left source p by seen seed path index progress g (inr asked) = first_plain packages known left progress
      (path ++ index ∷ []) by asked.0 g asked.2
  stops_plain (Past node more) left source p by seen seed path index progress g s =
      stops_plain more left source p by (source.learn seen node.root.action) seed path (index + 1) (progress_with progress node) g s.3
  stops_plain (Inside k choice args actors more) left source p by seen seed path index progress g s =
      stops_plain more (one_less left) (body_source packages (call_of k choice args) (path ++ index ∷ []))
      (body_plain packages (call_of k choice args) (path ++ index ∷ [])) (authorisers packages k.instance actors) [] (child_seed seed index)
      (path ++ index ∷ []) 0 (progress_inside packages progress k choice args) g s.3

  pub fault_plain : (seed : Hash) (by : PartyNames) (commands : List Command) (g : CommandFault) → StopsWith packages known seed by commands g → IsPlain g
  fault_plain seed by commands g (inl s) = stops_plain s.0 16 (commands_source packages known commands) (commands_plain commands) by [] seed [] 0 _ g s.1
  fault_plain seed by commands g (inr s) = subst IsPlain (sym s.3) tt

  pub plain_answer : (seed : Hash) (by : PartyNames) (commands : List Command) (r : Result Actions CommandFault)
      → IfErr r (λ fault. fault ≢ Memory → StopsWith packages known seed by commands fault) → IfErr r (λ fault. fault ≢ Memory → IsPlain fault)
  plain_answer seed by commands (Ok forest) h = tt
  plain_answer seed by commands (Err e) h = λ fresh. fault_plain seed by commands e (h fresh)
