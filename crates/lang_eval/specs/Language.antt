-- The contract language of packages, as the ledger asks for it, and the roles of actions. An action has no roles where its template or
-- choice isn't there, a field or an argument hasn't the declared kind, or an evaluation has a fault.
use Rattle.std.specs.Prelude.{Bool, true, false, ◌&&◌, cond, if◌then◌else◌, [], Option, Some, None, Result, Ok, Err}
use Rattle.ledger_terms.specs.declared.instance.Instance.{Instance}
use Rattle.ledger_terms.specs.declared.value.Value.{Value}
use Rattle.ledger_terms.specs.declared.action.Action.{Action}
use Rattle.ledger_terms.specs.declared.action.Action.TheVariants.{Create, Exercise, Fetch}
use Rattle.ledger_model.specs.declared.step.ChoiceCall.{ChoiceCall}
use Rattle.ledger_model.specs.declared.step.Step.{Step}
use Rattle.ledger_model.specs.declared.roles.Roles.{Roles}
use Rattle.ledger_model.specs.Language.{Language, roles_of}
use Rattle.lang_eval.specs.declared.eval_fault.EvalFault.{EvalFault}
use Rattle.lang_eval.specs.declared.role_fault.RoleFault.{RoleFault}
use Rattle.lang_eval.specs.declared.role_fault.RoleFault.TheVariants.{NoRoles}
use Rattle.lang_eval.specs.declared.contract_parties.ContractParties.{ContractParties}
use Rattle.lang_eval.specs.Found.{Packages}
use Rattle.lang_eval.specs.Kinds.{has_kinds, call_has_kinds}
use Rattle.lang_eval.specs.Parts.{PartyNames, parties_of_contract, observers_of_choice}
use Rattle.lang_eval.specs.Next.{next}

-- an evaluation's answer as one about roles: its value, or NoRoles for any fault
abbrev pub or_no_roles : {A : Type 0} → Result A EvalFault → Result A RoleFault
or_no_roles (Ok v) = Ok v
or_no_roles (Err e) = Err NoRoles

-- The signatories and observers of an instance whose template is there and whose fields have the declared kinds. Otherwise, and where
-- their evaluation has a fault, NoRoles.
abbrev pub parties_if_typed : Packages → Instance → Result ContractParties RoleFault
parties_if_typed packages i = cond (has_kinds packages i) (or_no_roles (parties_of_contract packages i)) (Err NoRoles)

-- The choice observers of a call whose choice is there and whose arguments have the declared kinds. Otherwise, and where their
-- evaluation has a fault, NoRoles.
abbrev pub observers_if_typed : Packages → ChoiceCall → Result PartyNames RoleFault
observers_if_typed packages call = cond (call_has_kinds packages call) (or_no_roles (observers_of_choice packages call)) (Err NoRoles)

-- whether an answer about roles is a value, and not NoRoles
abbrev pub is_given : {A : Type 0} → Result A RoleFault → Bool
is_given (Ok v) = true
is_given (Err e) = false

-- the signatories that were found, and no parties for NoRoles
abbrev pub signatories_in : Result ContractParties RoleFault → PartyNames
signatories_in (Ok p) = p.signatories
signatories_in (Err e) = []

-- the observers that were found, and no parties for NoRoles
abbrev pub observers_in : Result ContractParties RoleFault → PartyNames
observers_in (Ok p) = p.observers
observers_in (Err e) = []

-- the choice observers that were found, and no parties for NoRoles
abbrev pub set_given : Result PartyNames RoleFault → PartyNames
set_given (Ok s) = s
set_given (Err e) = []

-- Whether an action has roles: its contract's template is there, the fields have the declared kinds, signatories and observers have values, and
-- somebody signs (`parties_if_typed`); of an Exercise choice, arguments and choice observers too (`observers_if_typed`).
abbrev pub has_roles : Packages → Action → Bool
has_roles packages (Create id i) = is_given (parties_if_typed packages i)
has_roles packages (Exercise id salt i choice args actors consuming result) =
    is_given (parties_if_typed packages i)
    && is_given (observers_if_typed packages (record { id = id; instance = i; choice = choice; args = args }))
has_roles packages (Fetch id salt i actors) = is_given (parties_if_typed packages i)

-- the step that the evaluation of a body gave, and None where it gave a fault: which one, the ledger's language doesn't tell
abbrev pub step_in : Result Step EvalFault → Option Step
step_in (Ok step) = Some step
step_in (Err e) = None

-- The language of packages, as the ledger's rules ask for it. Which contracts may be created and which choices exercised depends on limits of sizes
-- too, so a caller gives these two tests. The second is asked of a call, its actors, whether it is consuming, and its result.
abbrev pub language_of : Packages → (Instance → Bool) → (ChoiceCall → PartyNames → Bool → Value → Bool) → Language
language_of packages is_creatable is_exercisable =
    record {
      signatories = λ i. signatories_in (parties_if_typed packages i);
      observers = λ i. observers_in (parties_if_typed packages i);
      choice_observers = λ call. set_given (observers_if_typed packages call);
      has_roles = λ a. has_roles packages a;
      has_kinds = λ i. has_kinds packages i;
      is_creatable = is_creatable;
      is_exercisable = is_exercisable;
      next = λ call seen. step_in (next packages call seen);
    }

-- The five sets of an action's roles, where signatories, observers or choice observers that have no value count as no parties. None of the sets depends
-- on a size, so the two tests that `language_of` asks for are just false here (law roles_hang_on_no_size).
abbrev pub roles_in : Packages → Action → Roles
roles_in packages action = roles_of (language_of packages (λ i. false) (λ call actors consuming result. false)) action

-- the roles of an action, or NoRoles where it has none
abbrev pub roles : Packages → Action → Result Roles RoleFault
roles packages action = if has_roles packages action then Ok (roles_in packages action) else Err NoRoles
