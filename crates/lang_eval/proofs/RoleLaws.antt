-- The roles of an action one after another are its roles.
use Rattle.std.proofs.Common.{◌≡◌, Bool, [], ◌∷◌, ◌++◌, Result, Ok, Err, refl, ap, ◌∙◌}
use Rattle.std.specs.Prelude.{◌&&◌, if◌then◌else◌}
use Rattle.ledger_terms.specs.Parties.{with_party, with_parties, set_of, IsRising}
use Rattle.ledger_terms.proofs.Rising.{set_of_rising}
use Rattle.ledger_terms.specs.declared.action.Action.{Action}
use Rattle.ledger_terms.specs.declared.action.Action.TheVariants.{Create, Exercise, Fetch}
use Rattle.lang_eval.specs.declared.role_fault.RoleFault.{RoleFault}
use Rattle.lang_eval.specs.declared.role_fault.RoleFault.TheVariants.{NoRoles}
use Rattle.lang_eval.specs.declared.contract_parties.ContractParties.{ContractParties}
use Rattle.lang_eval.specs.Found.{Packages}
use Rattle.lang_eval.specs.Parts.{PartyNames}
use Rattle.lang_eval.specs.Language.{roles, parties_if_typed, observers_if_typed, is_given, signatories_in, observers_in, set_given}
use Rattle.lang_eval.specs.RoleSets.{on_parties, roles_after, with_actors, stakeholders_in, told_first}

pub with_parties-append : (a b s : PartyNames) → with_parties (a ++ b) s ≡ with_parties b (with_parties a s)
with_parties-append [] b s = refl
with_parties-append (x ∷ a) b s = with_parties-append a b (with_party x s)

pub set_of-append : (a b : PartyNames) → set_of (a ++ b) ≡ with_parties b (with_parties a [])
set_of-append a b = with_parties-append a b []

pub set_of-append-append : (a b c : PartyNames) → set_of (a ++ (b ++ c)) ≡ with_parties c (with_parties b (with_parties a []))
set_of-append-append a b c = with_parties-append a (b ++ c) [] ∙ with_parties-append b c (with_parties a [])

-- the first of them rises
pub set_of_two : (a b : PartyNames) → IsRising a → set_of (a ++ b) ≡ with_parties b a
set_of_two a b h = set_of-append a b ∙ ap (with_parties b) (set_of_rising a h)

pub set_of_three : (a b c : PartyNames) → IsRising a → set_of (a ++ (b ++ c)) ≡ with_parties c (with_parties b a)
set_of_three a b c h = set_of-append-append a b c ∙ ap (λ (s : PartyNames). with_parties c (with_parties b s)) (set_of_rising a h)

create_are : (r : Result ContractParties RoleFault) → on_parties r
    (λ p. Ok (with_actors p [] (stakeholders_in p))) ≡ (if is_given r then Ok
    (record {
      signatories = signatories_in r;
      observers = observers_in r;
      actors = [];
      informees = set_of (signatories_in r ++ observers_in r);
      confirmers =
          set_of (signatories_in r ++ []);
    }) else Err NoRoles)
create_are (Ok p) = refl
create_are (Err e) = refl

exercise_are : (r : Result ContractParties RoleFault) (o : Result PartyNames RoleFault) (actors : PartyNames) (consuming : Bool)
    → on_parties r (λ p. on_parties o (λ s. Ok (with_actors p actors (set_of (told_first p consuming ++ (actors ++ s)))))) ≡ (if (is_given r && is_given o)
    then Ok (record {
      signatories = signatories_in r;
      observers = observers_in r;
      actors = actors;
      informees = set_of
          ((if consuming then set_of (signatories_in r ++ observers_in r) else signatories_in r) ++ (actors ++ set_given o));
      confirmers = set_of
          (signatories_in r ++ actors);
    }) else Err NoRoles)
exercise_are (Ok p) (Ok s) actors consuming = refl
exercise_are (Ok p) (Err e) actors consuming = refl
exercise_are (Err e) o actors consuming = refl

fetch_are : (r : Result ContractParties RoleFault) (actors : PartyNames)
    → on_parties r (λ p. Ok (with_actors p actors (set_of (p.signatories ++ actors)))) ≡ (if is_given r then Ok
    (record {
      signatories = signatories_in r;
      observers = observers_in r;
      actors = actors;
      informees = set_of (signatories_in r ++ actors);
      confirmers =
          set_of (signatories_in r ++ actors);
    }) else Err NoRoles)
fetch_are (Ok p) actors = refl
fetch_are (Err e) actors = refl

pub roles_are : (packages : Packages) (action : Action) → roles_after packages action ≡ roles packages action
roles_are packages (Create id i) = create_are (parties_if_typed packages i)
roles_are packages (Exercise id salt i choice args actors consuming result) =
    exercise_are (parties_if_typed packages i) (observers_if_typed packages (record { id = id; instance = i; choice = choice; args = args })) actors consuming
roles_are packages (Fetch id salt i actors) = fetch_are (parties_if_typed packages i) actors
