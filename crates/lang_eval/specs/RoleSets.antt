-- The roles of an action in the steps in which the code finds them. A proof shows that they are those of Language.antt.
use Rattle.std.specs.Prelude.{Bool, if◌then◌else◌, [], ◌++◌, Result, Ok, Err}
use Rattle.ledger_terms.specs.Parties.{set_of}
use Rattle.ledger_terms.specs.declared.action.Action.{Action}
use Rattle.ledger_terms.specs.declared.action.Action.TheVariants.{Create, Exercise, Fetch}
use Rattle.ledger_terms.specs.declared.instance.Instance.{Instance}
use Rattle.ledger_model.specs.declared.roles.Roles.{Roles}
use Rattle.ledger_model.specs.declared.step.ChoiceCall.{ChoiceCall}
use Rattle.lang_eval.specs.declared.role_fault.RoleFault.{RoleFault}
use Rattle.lang_eval.specs.declared.role_fault.RoleFault.TheVariants.{NoRoles}
use Rattle.lang_eval.specs.declared.contract_parties.ContractParties.{ContractParties}
use Rattle.lang_eval.specs.Found.{Packages}
use Rattle.lang_eval.specs.Parts.{PartyNames}
use Rattle.lang_eval.specs.Language.{parties_if_typed, observers_if_typed}

-- what `go` gives of parties that were found; NoRoles where they weren't
abbrev pub on_parties : {A B : Type 0} → Result A RoleFault → (A → Result B RoleFault) → Result B RoleFault
on_parties (Ok p) go = go p
on_parties (Err e) go = Err NoRoles

-- the set of a contract's stakeholders: its signatories and its observers
abbrev pub stakeholders_in : ContractParties → PartyNames
stakeholders_in p = set_of (p.signatories ++ p.observers)

-- the five sets of an action on a contract with these parties, of which the actors and the informees are given
abbrev pub with_actors : ContractParties → PartyNames → PartyNames → Roles
with_actors p actors informees =
    record {
      signatories = p.signatories;
      observers = p.observers;
      actors = actors;
      informees = informees;
      confirmers = set_of (p.signatories ++ actors);
    }

-- who is told of an Exercise besides its actors and choice observers: the stakeholders where it is consuming, else the signatories
abbrev pub told_first : ContractParties → Bool → PartyNames
told_first p consuming = if consuming then stakeholders_in p else p.signatories

-- the roles of a Create of this instance, which has no actors and of which the stakeholders are informed; NoRoles where `parties_if_typed` gives no
-- parties of the instance
abbrev pub create_roles : Packages → Instance → Result Roles RoleFault
create_roles packages i = on_parties (parties_if_typed packages i) (λ p. Ok (with_actors p [] (stakeholders_in p)))

-- the roles of an Exercise, which is this call, with these actors; NoRoles where the parties of its contract or its choice observers aren't given
-- (`parties_if_typed`, `observers_if_typed`)
abbrev pub exercise_roles : Packages → ChoiceCall → (actors : PartyNames) → (consuming : Bool) → Result Roles RoleFault
exercise_roles packages call actors consuming =
    on_parties (parties_if_typed packages call.instance) (λ p.
    on_parties (observers_if_typed packages call) (λ o.
    Ok (with_actors p actors (set_of (told_first p consuming ++ (actors ++ o))))))

-- the roles of a Fetch of this instance, of which the signatories and the actors are informed; NoRoles where `parties_if_typed` gives no parties of the
-- instance
abbrev pub fetch_roles : Packages → Instance → (actors : PartyNames) → Result Roles RoleFault
fetch_roles packages i actors = on_parties (parties_if_typed packages i) (λ p. Ok (with_actors p actors (set_of (p.signatories ++ actors))))

-- the roles of an action, found in the steps above, or NoRoles; they are those that `roles` of Language.antt defines
abbrev pub roles_after : Packages → Action → Result Roles RoleFault
roles_after packages (Create id i) = create_roles packages i
roles_after packages (Exercise id salt i choice args actors consuming result) =
    exercise_roles packages (record { id = id; instance = i; choice = choice; args = args }) actors consuming
roles_after packages (Fetch id salt i actors) = fetch_roles packages i actors
