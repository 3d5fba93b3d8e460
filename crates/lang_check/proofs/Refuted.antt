-- A body that takes no default has the fault of an assertion exactly where one is evaluated to false.
use Rattle.std.proofs.Common.{◌≡◌, ℕ, Bool, true, false, cond, List, [], ◌∷◌, length, take, Result, Ok, Err, refl, ◌∙◌, ap, inl, inr}
use Rattle.ledger_terms.specs.declared.kind.Kind.TheVariants.{Bool as BoolKind, Contract as ContractKind}
use Rattle.ledger_terms.specs.declared.value.Value.{Value}
use Rattle.ledger_terms.specs.declared.value.Value.TheVariants.{Bool as BoolValue, Contract}
use Rattle.ledger_terms.specs.declared.template_name.TemplateName.{TemplateName}
use Rattle.ledger_terms.specs.Syntax.{ExprForm, ExprForms, StmtForm, StmtForms, Bind, Assert, Create, Exercise, Fetch, When, NoStmts, MoreStmts}
use Rattle.ledger_terms.specs.Packages.{ChoiceForm}
use Rattle.ledger_model.specs.declared.step.ChildResult.{ChildResult}
use Rattle.ledger_model.specs.declared.step.Step.{Step}
use Rattle.ledger_model.specs.declared.step.Step.TheVariants.{Create as CreateNext, Exercise as ExerciseNext, Fetch as FetchNext, Done}
use Rattle.lang_eval.specs.declared.eval_fault.EvalFault.{EvalFault}
use Rattle.lang_eval.specs.declared.eval_fault.EvalFault.TheVariants.{Assert as AssertFault}
use Rattle.lang_eval.specs.Names.{Names, bound_to, with_fields}
use Rattle.lang_eval.specs.Value.{Answer, val, vals, truth, with_value, is_true}
use Rattle.lang_eval.specs.Found.{Packages, template_in, fields_of}
use Rattle.lang_eval.specs.Kinds.{kind_of}
use Rattle.lang_eval.specs.Next.{Ran, Stopped, Went, ran, ran_all, on_value, asserted, taken, closed, then_on, create_step, exercise_step, fetch_step, id_in, id_of, value_seen, fields_seen, ended}
use Rattle.lang_check.specs.Asked.{Gives}
use Rattle.lang_check.specs.Defaults.{IsOverLimit, RunsWithoutDefault, RunWithoutDefault, IsRefuted, AreRefuted}
use Rattle.lang_check.proofs.Valued.{with_value_ok}
use Rattle.lang_check.proofs.EvalFaults.{Met, met, step, val_met, vals_met, truth_met, fault_met}

abbrev failed : Result Step EvalFault
failed = Err AssertFault

-- ---- where an assertion is refuted, the statements stop there

truth_of : (e : ExprForm) (names : Names) (b : Bool) → val e names ≡ Ok (BoolValue b) → truth e names ≡ Ok b
truth_of e names b h = rw h refl

mutual
  stops_there : (s : StmtForm) (p : Packages) (names : Names) (seen : List ChildResult) → IsRefuted s p names seen → ran s p names seen ≡ Stopped failed
  stops_there (Bind x e) p names seen h = absurd h
  stops_there (Assert e) p names seen h = ap (λ (r : Result Bool EvalFault). on_value r (λ b. asserted b (Went names seen))) (truth_of e names false h)
  stops_there (Create x t fields) p names seen h = absurd h
  stops_there (Exercise x t e choice args) p names seen h = absurd h
  stops_there (Fetch x t e) p names seen h = absurd h
  stops_there (When e first second) p names seen (inl h) =
      ap (λ (r : Result Bool EvalFault). on_value r (λ b. closed names (cond b (ran_all first p names seen) (ran_all second p names seen))))
      (truth_of e names true h.0)
      ∙ ap (closed names) (stop_there first p names seen h.1)
  stops_there (When e first second) p names seen (inr h) =
      ap (λ (r : Result Bool EvalFault). on_value r (λ b. closed names (cond b (ran_all first p names seen) (ran_all second p names seen))))
      (truth_of e names false h.0)
      ∙ ap (closed names) (stop_there second p names seen h.1)

  stop_there : (ss : StmtForms) (p : Packages) (names : Names) (seen : List ChildResult) → AreRefuted ss p names seen → ran_all ss p names seen ≡ Stopped failed
  stop_there NoStmts p names seen h = absurd h
  stop_there (MoreStmts s ss) p names seen (inl h) = ap (λ (r : Ran). then_on r (λ n l. ran_all ss p n l)) (stops_there s p names seen h)
  stop_there (MoreStmts s ss) p names seen (inr h) = ap (λ (r : Ran). then_on r (λ n l. ran_all ss p n l)) h.2 ∙ stop_there ss p h.0 h.1 h.3

-- ---- and where they stop so without a default, one is

-- an assertion is no fault of a limit
no_assert : {A B : Type 0} (r : Result A EvalFault) → Met IsOverLimit r → r ≡ Err AssertFault → B
no_assert r m h = absurd (fault_met IsOverLimit r AssertFault m h)

stopped_same : (r q : Result Step EvalFault) → Stopped r ≡ Stopped q → r ≡ q
stopped_same r q h = cc

went_stopped : {B : Type 0} (n : Names) (l : List ChildResult) (q : Result Step EvalFault) → Went n l ≡ Stopped q → B
went_stopped n l q h = absurd (let other : Went n l ≡ Stopped q = h in cc)

value_failed : {A : Type 0} (r : Result A EvalFault) (go : A → Ran) → Met IsOverLimit r → on_value r go ≡ Stopped failed
    → (v : A) × (r ≡ Ok v) × (go v ≡ Stopped failed)
value_failed (Ok v) go m h = (v, refl, h)
value_failed (Err e) go m h =
    let same : (let r : Result Step EvalFault = Err e in r ≡ failed) = stopped_same (Err e) failed h in
    let fault : e ≡ AssertFault = cc in
    no_assert (Err e) m (ap (λ (f : EvalFault). Err f) fault)

asserted_failed : (b : Bool) (n : Names) (l : List ChildResult) → asserted b (Went n l) ≡ Stopped failed → b ≡ false
asserted_failed true n l h = went_stopped n l failed h
asserted_failed false n l h = refl

taken_failed : (r : Result Step EvalFault) (binds : ChildResult → Names) (seen : List ChildResult) → taken r binds seen ≡ Stopped failed → r ≡ failed
taken_failed r binds [] h = stopped_same r failed h
taken_failed r binds (s ∷ seen) h = went_stopped (binds s) seen failed h

closed_failed : (names : Names) (r : Ran) → closed names r ≡ Stopped failed → r ≡ Stopped failed
closed_failed names (Stopped r) h = h
closed_failed names (Went n l) h = went_stopped (take (length names) n) l failed h

then_failed : (r : Ran) (k : Names → List ChildResult → Ran) (A : Type 0) → (r ≡ Stopped failed → A)
    → ((n : Names) (l : List ChildResult) → r ≡ Went n l → k n l ≡ Stopped failed → A) → then_on r k ≡ Stopped failed → A
then_failed (Stopped r) k A stop go h = stop h
then_failed (Went n l) k A stop go h = go n l refl h

bool_value : (v : Value) (b : Bool) → kind_of v ≡ BoolKind → is_true v ≡ b → v ≡ BoolValue b
bool_value (BoolValue c) b k h = ap BoolValue h
bool_value v b k h = cc

bool_same : (b c : Bool) → (let r : Result Bool EvalFault = Ok b in r ≡ Ok c) → b ≡ c
bool_same b c h = cc

-- a truth that is found is that of a truth value
pub truth_found : (e : ExprForm) (names : Names) (b : Bool) → Gives e names BoolKind → truth e names ≡ Ok b → val e names ≡ Ok (BoolValue b)
truth_found e names b g h =
    let f = with_value_ok (val e names) (λ v. Ok (is_true v)) b h in
    f.1 ∙ ap (λ (v : Value). Ok v) (bool_value f.0 b (g f.0 f.1) (bool_same (is_true f.0) b f.2))

contract_met : (v : Value) → kind_of v ≡ ContractKind → Met IsOverLimit (id_in v)
unfolding Met
contract_met (Contract id) k = tt
contract_met v k = cc

id_of_met : (r : Answer) → Met IsOverLimit r → ((v : Value) → r ≡ Ok v → kind_of v ≡ ContractKind) → Met IsOverLimit (with_value r (λ v. id_in v))
unfolding Met
id_of_met (Ok v) m g = contract_met v (g v refl)
id_of_met (Err e) m g = m

create_met : (t : TemplateName) (fields : ExprForms) (names : Names) → Met IsOverLimit (create_step t (vals fields names))
create_met t fields names = step IsOverLimit (vals fields names) (λ vs. Ok (CreateNext t vs)) (vals_met fields names) (λ vs. met IsOverLimit (CreateNext t vs))

exercise_met : (t : TemplateName) (choice : List ℕ) (e : ExprForm) (args : ExprForms) (names : Names) → Gives e names ContractKind
    → Met IsOverLimit (exercise_step t choice (id_of e names) (vals args names))
exercise_met t choice e args names g =
    step IsOverLimit (id_of e names) (λ id. with_value (vals args names) (λ vs. Ok (ExerciseNext t id choice vs))) (id_of_met (val e names) (val_met e names) g)
    (λ id. step IsOverLimit (vals args names) (λ vs. Ok (ExerciseNext t id choice vs)) (vals_met args names)
    (λ vs. met IsOverLimit (ExerciseNext t id choice vs)))

fetch_met : (t : TemplateName) (e : ExprForm) (names : Names) → Gives e names ContractKind → Met IsOverLimit (fetch_step t (id_of e names))
fetch_met t e names g = step IsOverLimit (id_of e names) (λ id. Ok (FetchNext t id)) (id_of_met (val e names) (val_met e names) g)
    (λ id. met IsOverLimit (FetchNext t id))

in_side : (b : Bool) (x y : Ran) (A : Type 0) → (b ≡ true → x ≡ Stopped failed → A) → (b ≡ false → y ≡ Stopped failed → A) → cond b x y ≡ Stopped failed → A
in_side true x y A f g h = f refl h
in_side false x y A f g h = g refl h

mutual
  refuted : (s : StmtForm) (p : Packages) (names : Names) (seen : List ChildResult) → RunsWithoutDefault s p names seen → ran s p names seen ≡ Stopped failed
      → IsRefuted s p names seen
  refuted (Bind x e) p names seen d h =
      let g = value_failed (val e names) (λ v. Went (bound_to x v names) seen) (val_met e names) h in
      went_stopped (bound_to x g.0 names) seen failed g.2
  refuted (Assert e) p names seen d h =
      let g = value_failed (truth e names) (λ b. asserted b (Went names seen)) (truth_met e names) h in
      truth_found e names false d.1 (g.1 ∙ ap (λ (b : Bool). Ok b) (asserted_failed g.0 names seen g.2))
  refuted (Create x t fields) p names seen d h =
      no_assert (create_step t (vals fields names)) (create_met t fields names)
      (taken_failed (create_step t (vals fields names)) (λ s. bound_to x (value_seen s) names) seen h)
  refuted (Exercise x t e choice args) p names seen d h =
      no_assert (exercise_step t choice (id_of e names) (vals args names)) (exercise_met t choice e args names d.1.1)
      (taken_failed (exercise_step t choice (id_of e names) (vals args names)) (λ s. bound_to x (value_seen s) names) seen h)
  refuted (Fetch x t e) p names seen d h =
      no_assert (fetch_step t (id_of e names)) (fetch_met t e names d.1.1)
      (taken_failed (fetch_step t (id_of e names)) (λ s. with_fields x (fields_of (template_in t p)) (fields_seen s) names) seen h)
  refuted (When e first second) p names seen d h =
      let g = value_failed (truth e names) (λ b. closed names (cond b (ran_all first p names seen) (ran_all second p names seen))) (truth_met e names) h in
      let test = λ (b : Bool) (is : g.0 ≡ b). truth_found e names b d.0.1 (g.1 ∙ ap (λ (b : Bool). Ok b) is) in
      in_side g.0 (ran_all first p names seen) (ran_all second p names seen) (IsRefuted (When e first second) p names seen)
      (λ is h. inl (test true is, are_refuted first p names seen (d.1 (test true is)) h))
      (λ is h. inr (test false is, are_refuted second p names seen (d.2 (test false is)) h))
      (closed_failed names (cond g.0 (ran_all first p names seen) (ran_all second p names seen)) g.2)

  are_refuted : (ss : StmtForms) (p : Packages) (names : Names) (seen : List ChildResult) → RunWithoutDefault ss p names seen
      → ran_all ss p names seen ≡ Stopped failed → AreRefuted ss p names seen
  are_refuted NoStmts p names seen d h = went_stopped names seen failed h
  are_refuted (MoreStmts s ss) p names seen d h =
      then_failed (ran s p names seen) (λ n l. ran_all ss p n l) (AreRefuted (MoreStmts s ss) p names seen)
      (λ h. inl (refuted s p names seen d.0 h))
      (λ n l is h. inr (n, l, is, are_refuted ss p n l (d.1 n l is) h)) h

-- ---- bodies

ended_failed : (c : ChoiceForm) (r : Ran) → ended c r ≡ failed → r ≡ Stopped failed
ended_failed c (Stopped r) h = ap (λ (r : Result Step EvalFault). Stopped r) h
ended_failed c (Went n l) h =
    no_assert (with_value (val c.result n) (λ v. Ok (Done v)))
    (step IsOverLimit (val c.result n) (λ v. Ok (Done v)) (val_met c.result n) (λ v. met IsOverLimit (Done v))) h

pub body_refuted : (c : ChoiceForm) (p : Packages) (names : Names) (seen : List ChildResult) → RunWithoutDefault c.body p names seen
    → ended c (ran_all c.body p names seen) ≡ failed → AreRefuted c.body p names seen
body_refuted c p names seen d h = are_refuted c.body p names seen d (ended_failed c (ran_all c.body p names seen) h)

pub body_fails : (c : ChoiceForm) (p : Packages) (names : Names) (seen : List ChildResult) → AreRefuted c.body p names seen
    → ended c (ran_all c.body p names seen) ≡ failed
body_fails c p names seen h = ap (ended c) (stop_there c.body p names seen h)
