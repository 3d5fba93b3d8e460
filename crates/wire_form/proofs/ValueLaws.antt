-- The formats of sets, values, lists of values, instances and actions, composed of those of single fields.
use Rattle.std.proofs.Common.{◌≡◌, ℕ, zero, suc, ◌≤◌, List, [], ◌∷◌, ◌++◌, length, Result, Ok, refl, ap, lit<, subst}
use Rattle.std.specs.Prelude.{FitsSigned}
use Rattle.std.specs.Int.{w16, w64, to_be_bytes, cast_unsigned}
use Rattle.std.specs.List.{AllByRecursion}
use Rattle.std.proofs.lemmas.List.Elements.{recursion_from_All, All-from_recursion}
use Rattle.ledger_terms.specs.Parties.{stands_above}
use Rattle.ledger_terms.specs.declared.value.Value.{Value}
use Rattle.ledger_terms.specs.declared.value.Value.TheVariants.{Unit as UnitValue, Int, Bool as BoolValue, Text, Party, Contract, Parties}
use Rattle.ledger_terms.specs.declared.instance.Instance.{Instance}
use Rattle.ledger_terms.specs.declared.action.Action.{Action}
use Rattle.ledger_terms.specs.declared.action.Action.TheVariants.{Create, Exercise, Fetch}
use Rattle.wire_form.specs.Formats.{◌>>=◌, Reading, both_at, any_item}
use Rattle.wire_form.specs.Fields.{count_at, small_count_at, int_at, truth_at, text_at, name_at, hash_at}
use Rattle.wire_form.specs.Reading.{set_at, value_at, tagged_value_at, values_at, InstanceParts, instance_of, instance_at, CreateParts, create_of, create_at, InputParts, input_at, CallParts, ExerciseParts, exercise_of, exercise_at, FetchParts, fetch_of, fetch_at, action_at, tagged_action_at}
use Rattle.wire_form.specs.Spelling.{spell_name, spell_text, spell_truth, spell_parties, spell_value, spell_values, spell_instance, spell_action}
use Rattle.ledger_terms.specs.Names.{IsName}
use Rattle.wire_form.specs.InRange.{IsHash, IsShortText, IsPartySet, IsInRange, AreInRange, IsInstance, IsInput, IsAction}
use Rattle.wire_form.proofs.FormatLaws.{IsBytes, IsBytes-rest, Takes, Reads, ok_is}
use Rattle.wire_form.proofs.Compose.{both_reads, seen_reads, ranged_reads, counted_reads, under, tag_takes, Admits, any_admitted}
use Rattle.wire_form.proofs.FieldLaws.{count_reads, small_count_reads, int_reads, truth_reads, text_reads, name_reads, hash_reads}
use Rattle.wire_form.proofs.PartyLaws.{rising_from_admitted, admitted_from_rising}

-- ---- sets

abbrev AdmittedNames : List (List ℕ) → Type 0
AdmittedNames s = (length s ≤ 128) × AllByRecursion IsName s × Admits stands_above [] s

set_from_names : (s : List (List ℕ)) → AdmittedNames s → IsPartySet s
set_from_names s h = record { few = h.0; names = All-from_recursion IsName s h.1; ascend = rising_from_admitted s [] tt h.2 }

names_from_set : (s : List (List ℕ)) → IsPartySet s → AdmittedNames s
names_from_set s h = (h.few, recursion_from_All IsName s h.names, admitted_from_rising s [] h.ascend)

pub set_reads : Reads spell_parties IsPartySet set_at
unfolding set_at
set_reads =
    ranged_reads spell_parties AdmittedNames IsPartySet set_at set_from_names names_from_set
    (counted_reads (λ k. to_be_bytes w16 k) (λ k. k ≤ 128) (count_at 128) spell_name IsName name_at stands_above (count_reads 128 (lit< tt)) name_reads)

-- ---- values

abbrev IsReadAs : List ℕ → Value → List ℕ → Type 0
IsReadAs bytes v rest = Takes bytes (spell_value v) rest × IsInRange v

value_takes : (bytes : List ℕ) (x : Value × List ℕ) → IsBytes bytes → value_at bytes ≡ Ok x → IsReadAs bytes x.0 x.1
unfolding value_at tagged_value_at
value_takes [] x fits e = absurd cc
value_takes (zero ∷ rest) x fits e =
    subst (λ (y : Value × List ℕ). IsReadAs (0 ∷ rest) y.0 y.1) (ok_is (UnitValue, rest) x e) (record { parts = refl; rest_fits = IsBytes-rest 0 rest fits }, tt)
value_takes (suc zero ∷ rest) x fits e =
    let u = under Int (λ z. to_be_bytes w64 (cast_unsigned w64 z)) (λ z. FitsSigned w64 z) int_at int_reads rest x (IsBytes-rest 1 rest fits) e in
    subst (λ (v : Value). IsReadAs (1 ∷ rest) v x.1) u.1 (tag_takes 1 rest _ x.1 u.2, u.3)
value_takes (suc (suc zero) ∷ rest) x fits e =
    let u = under BoolValue spell_truth (λ _. Unit {0}) truth_at truth_reads rest x (IsBytes-rest 2 rest fits) e in
    subst (λ (v : Value). IsReadAs (2 ∷ rest) v x.1) u.1 (tag_takes 2 rest _ x.1 u.2, tt)
value_takes (suc (suc (suc zero)) ∷ rest) x fits e =
    let u = under Text spell_text IsShortText text_at text_reads rest x (IsBytes-rest 3 rest fits) e in
    subst (λ (v : Value). IsReadAs (3 ∷ rest) v x.1) u.1 (tag_takes 3 rest _ x.1 u.2, u.3)
value_takes (suc (suc (suc (suc zero))) ∷ rest) x fits e =
    let u = under Party spell_name IsName name_at name_reads rest x (IsBytes-rest 4 rest fits) e in
    subst (λ (v : Value). IsReadAs (4 ∷ rest) v x.1) u.1 (tag_takes 4 rest _ x.1 u.2, u.3)
value_takes (suc (suc (suc (suc (suc zero)))) ∷ rest) x fits e =
    let u = under Contract (λ h. h) IsHash hash_at hash_reads rest x (IsBytes-rest 5 rest fits) e in
    subst (λ (v : Value). IsReadAs (5 ∷ rest) v x.1) u.1 (tag_takes 5 rest _ x.1 u.2, u.3)
value_takes (suc (suc (suc (suc (suc (suc zero))))) ∷ rest) x fits e =
    let u = under Parties spell_parties IsPartySet set_at set_reads rest x (IsBytes-rest 6 rest fits) e in
    subst (λ (v : Value). IsReadAs (6 ∷ rest) v x.1) u.1 (tag_takes 6 rest _ x.1 u.2, u.3)
value_takes (suc (suc (suc (suc (suc (suc (suc n)))))) ∷ rest) x fits e = absurd cc

abbrev made : {A B : Type 0} → (A → B) → Result (A × List ℕ) ℕ → Result (B × List ℕ) ℕ
made make r = r >>= λ x. Ok (make x.0, x.1)

value_again : (v : Value) (rest : List ℕ) → IsInRange v → value_at (spell_value v ++ rest) ≡ Ok (v, rest)
unfolding value_at tagged_value_at
value_again UnitValue rest h = refl
value_again (Int n) rest h = ap (made Int) (int_reads.again n rest h)
value_again (BoolValue b) rest h = ap (made BoolValue) (truth_reads.again b rest tt)
value_again (Text t) rest h = ap (made Text) (text_reads.again t rest h)
value_again (Party p) rest h = ap (made Party) (name_reads.again p rest h)
value_again (Contract d) rest h = ap (made Contract) (hash_reads.again d rest h)
value_again (Parties s) rest h = ap (made Parties) (set_reads.again s rest h)

pub value_reads : Reads spell_value IsInRange value_at
value_reads = record { takes = value_takes; again = value_again }

-- ---- lists of values

abbrev AdmittedValues : List Value → Type 0
AdmittedValues vs = (length vs ≤ 12) × AllByRecursion IsInRange vs × Admits any_item [] vs

values_from_admitted : (vs : List Value) → AdmittedValues vs → AreInRange vs
values_from_admitted vs h = record { few = h.0; each = All-from_recursion IsInRange vs h.1 }

admitted_from_values : (vs : List Value) → AreInRange vs → AdmittedValues vs
admitted_from_values vs h = (h.few, recursion_from_All IsInRange vs h.each, any_admitted [] vs)

pub values_reads : Reads spell_values AreInRange values_at
unfolding values_at
values_reads =
    ranged_reads spell_values AdmittedValues AreInRange values_at values_from_admitted admitted_from_values
    (counted_reads (λ k. k ∷ []) (λ k. k ≤ 12) (small_count_at 12) spell_value IsInRange value_at any_item (small_count_reads 12) value_reads)

-- ---- instances

abbrev parts_of_instance : Instance → InstanceParts
parts_of_instance i = ((i.template.package, i.template.name), i.fields)

abbrev FitParts : InstanceParts → Type 0
FitParts p = (IsName p.0.0 × IsName p.0.1) × AreInRange p.1

pub instance_reads : Reads spell_instance IsInstance instance_at
unfolding instance_at
instance_reads =
    let names = both_reads spell_name IsName name_at spell_name IsName name_at name_reads name_reads in
    let parts = both_reads (λ (p : List ℕ × List ℕ). spell_name p.0 ++ spell_name p.1) (λ p. IsName p.0 × IsName p.1) (both_at name_at name_at) spell_values AreInRange values_at names values_reads in
    ranged_reads spell_instance (λ i. FitParts (parts_of_instance i)) IsInstance instance_at
    (λ i h. record { «package» = h.0.0; template = h.0.1; fields = h.1 }) (λ i h. ((h.package, h.template), h.fields))
    (seen_reads instance_of parts_of_instance (λ p. refl) (λ i. refl) (λ (p : InstanceParts). (spell_name p.0.0 ++ spell_name p.0.1) ++ spell_values p.1) FitParts (both_at (both_at name_at name_at) values_at) parts)

-- ---- actions

abbrev spell_create : CreateParts → List ℕ
spell_create p = p.0 ++ spell_instance p.1

abbrev FitCreate : CreateParts → Type 0
FitCreate p = IsHash p.0 × IsInstance p.1

create_reads : Reads spell_create FitCreate (both_at hash_at instance_at)
create_reads = both_reads (λ h. h) IsHash hash_at spell_instance IsInstance instance_at hash_reads instance_reads

abbrev pub spell_input : InputParts → List ℕ
spell_input p = (p.0.0 ++ p.0.1) ++ spell_instance p.1

abbrev pub FitInput : InputParts → Type 0
FitInput p = (IsHash p.0.0 × IsHash p.0.1) × IsInstance p.1

pub input_reads : Reads spell_input FitInput input_at
unfolding input_at
input_reads =
    let hashes = both_reads (λ h. h) IsHash hash_at (λ h. h) IsHash hash_at hash_reads hash_reads in
    both_reads (λ (p : List ℕ × List ℕ). p.0 ++ p.1) (λ p. IsHash p.0 × IsHash p.1) (both_at hash_at hash_at) spell_instance IsInstance instance_at hashes instance_reads

abbrev ChoiceParts : Type 0
ChoiceParts = InputParts × List ℕ

abbrev spell_choice : ChoiceParts → List ℕ
spell_choice p = spell_input p.0 ++ spell_name p.1

abbrev FitChoice : ChoiceParts → Type 0
FitChoice p = FitInput p.0 × IsName p.1

abbrev ArgParts : Type 0
ArgParts = ChoiceParts × List Value

abbrev spell_args : ArgParts → List ℕ
spell_args p = spell_choice p.0 ++ spell_values p.1

abbrev FitArgs : ArgParts → Type 0
FitArgs p = FitChoice p.0 × AreInRange p.1

abbrev ActorParts : Type 0
ActorParts = ArgParts × List (List ℕ)

abbrev spell_actors : ActorParts → List ℕ
spell_actors p = spell_args p.0 ++ spell_parties p.1

abbrev FitActors : ActorParts → Type 0
FitActors p = FitArgs p.0 × IsPartySet p.1

abbrev spell_call : CallParts → List ℕ
spell_call p = spell_actors p.0 ++ spell_truth p.1

abbrev FitCall : CallParts → Type 0
FitCall p = FitActors p.0 × Unit {0}

abbrev spell_exercise : ExerciseParts → List ℕ
spell_exercise p = spell_call p.0 ++ spell_value p.1

abbrev FitExercise : ExerciseParts → Type 0
FitExercise p = FitCall p.0 × IsInRange p.1

abbrev choice_at : Reading ChoiceParts
choice_at = both_at input_at name_at

abbrev args_at : Reading ArgParts
args_at = both_at choice_at values_at

abbrev actors_at : Reading ActorParts
actors_at = both_at args_at set_at

abbrev call_at : Reading CallParts
call_at = both_at actors_at truth_at

exercise_reads : Reads spell_exercise FitExercise (both_at call_at value_at)
exercise_reads =
    let choice = both_reads spell_input FitInput input_at spell_name IsName name_at input_reads name_reads in
    let args = both_reads spell_choice FitChoice choice_at spell_values AreInRange values_at choice values_reads in
    let actors = both_reads spell_args FitArgs args_at spell_parties IsPartySet set_at args set_reads in
    let call = both_reads spell_actors FitActors actors_at spell_truth (λ _. Unit {0}) truth_at actors truth_reads in
    both_reads spell_call FitCall call_at spell_value IsInRange value_at call value_reads

abbrev spell_fetch : FetchParts → List ℕ
spell_fetch p = spell_input p.0 ++ spell_parties p.1

abbrev FitFetch : FetchParts → Type 0
FitFetch p = FitInput p.0 × IsPartySet p.1

fetch_reads : Reads spell_fetch FitFetch (both_at input_at set_at)
fetch_reads = both_reads spell_input FitInput input_at spell_parties IsPartySet set_at input_reads set_reads

abbrev IsActionRead : List ℕ → Action → List ℕ → Type 0
IsActionRead bytes a rest = Takes bytes (spell_action a) rest × IsAction a

input_is : (p : InputParts) → FitInput p → IsInput p.0.0 p.0.1 p.1
input_is p h = record { id_is = h.0.0; salt_is = h.0.1; instance_is = h.1 }

action_takes : (bytes : List ℕ) (x : Action × List ℕ) → IsBytes bytes → action_at bytes ≡ Ok x → IsActionRead bytes x.0 x.1
unfolding action_at tagged_action_at create_at exercise_at fetch_at
action_takes [] x fits e = absurd cc
action_takes (zero ∷ rest) x fits e = absurd cc
action_takes (suc zero ∷ rest) x fits e =
    let u = under create_of spell_create FitCreate (both_at hash_at instance_at) create_reads rest x (IsBytes-rest 1 rest fits) e in
    subst (λ (a : Action). IsActionRead (1 ∷ rest) a x.1) u.1 (tag_takes 1 rest _ x.1 u.2, u.3)
action_takes (suc (suc zero) ∷ rest) x fits e =
    let u = under exercise_of spell_exercise FitExercise (both_at call_at value_at) exercise_reads rest x (IsBytes-rest 2 rest fits) e in
    let h = u.3 in
    subst (λ (a : Action). IsActionRead (2 ∷ rest) a x.1) u.1 (tag_takes 2 rest _ x.1 u.2, (input_is _ h.0.0.0.0.0, h.0.0.0.0.1, h.0.0.0.1, h.0.0.1, h.1))
action_takes (suc (suc (suc zero)) ∷ rest) x fits e =
    let u = under fetch_of spell_fetch FitFetch (both_at input_at set_at) fetch_reads rest x (IsBytes-rest 3 rest fits) e in
    subst (λ (a : Action). IsActionRead (3 ∷ rest) a x.1) u.1 (tag_takes 3 rest _ x.1 u.2, (input_is _ u.3.0, u.3.1))
action_takes (suc (suc (suc (suc n))) ∷ rest) x fits e = absurd cc

action_again : (a : Action) (rest : List ℕ) → IsAction a → action_at (spell_action a ++ rest) ≡ Ok (a, rest)
unfolding action_at tagged_action_at create_at exercise_at fetch_at
action_again (Create id instance) rest h = ap (made create_of) (create_reads.again (id, instance) rest h)
action_again (Exercise id salt instance choice args actors consuming result) rest h =
    let i = h.0 in
    ap (made exercise_of) (exercise_reads.again ((((((((id, salt), instance), choice), args), actors), consuming)), result) rest ((((((((i.id_is, i.salt_is), i.instance_is), h.1), h.2), h.3), tt)), h.4))
action_again (Fetch id salt instance actors) rest h =
    let i = h.0 in
    ap (made fetch_of) (fetch_reads.again (((id, salt), instance), actors) rest (((i.id_is, i.salt_is), i.instance_is), h.1))

pub action_reads : Reads spell_action IsAction action_at
action_reads = record { takes = action_takes; again = action_again }
