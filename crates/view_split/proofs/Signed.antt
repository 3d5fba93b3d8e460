-- An action that has roles has a signatory, who is an informee of it.
use Rattle.std.proofs.Common.{◌≡◌, ℕ, Bool, true, false, List, [], ◌∷◌, refl, inl}
use Rattle.std.specs.Prelude.{cond, Result, Ok, Err, Contains, Option, Some, None}
use Rattle.std.proofs.lemmas.Bool.{and_parts}
use Rattle.ledger_terms.specs.Parties.{same_name, has_party}
use Rattle.ledger_terms.proofs.Deciding.{bytes_decide}
use Rattle.ledger_terms.specs.declared.instance.Instance.{Instance}
use Rattle.ledger_terms.specs.declared.action.Action.{Action}
use Rattle.ledger_terms.specs.declared.action.Action.TheVariants.{Create, Exercise, Fetch}
use Rattle.ledger_model.specs.Terms.{instance_of}
use Rattle.ledger_model.proofs.Lists.{In, in_any, contains_from_In}
use Rattle.lang_eval.specs.declared.eval_fault.EvalFault.{EvalFault}
use Rattle.lang_eval.specs.declared.role_fault.RoleFault.{RoleFault}
use Rattle.lang_eval.specs.declared.role_fault.RoleFault.TheVariants.{NoRoles}
use Rattle.lang_eval.specs.declared.contract_parties.ContractParties.{ContractParties}
use Rattle.lang_eval.specs.Found.{Packages, template_in}
use Rattle.ledger_terms.specs.Packages.{TemplateForm}
use Rattle.lang_eval.specs.Kinds.{has_kinds}
use Rattle.lang_eval.specs.Value.{with_value}
use Rattle.lang_eval.specs.Parts.{PartyNames, some_parties, parties_of, this_names, contract_parties_of, on_template, parties_of_contract}
use Rattle.lang_eval.specs.Language.{language_of, roles_in, has_roles, is_given, signatories_in, or_no_roles, parties_if_typed}
use Rattle.view_split.proofs.Confirming.{signatory_told}

-- some party
abbrev Someone : PartyNames → Type 0
Someone names = (party : List ℕ) × In party names

abbrev both_sets : PartyNames → PartyNames → ContractParties
both_sets s o = record { signatories = s; observers = o }

abbrev given_sets : Result PartyNames EvalFault → Result PartyNames EvalFault → Result ContractParties RoleFault
given_sets s o = or_no_roles (with_value s (λ x. with_value (some_parties x) (λ y. with_value o (λ z. Ok (both_sets y z)))))

given_some : (s o : Result PartyNames EvalFault) → is_given (given_sets s o) ≡ true → Someone (signatories_in (given_sets s o))
given_some (Ok []) o h = cc
given_some (Ok (a ∷ s)) (Ok z) h = (a, inl refl)
given_some (Ok (a ∷ s)) (Err e) h = cc
given_some (Err e) o h = cc

on_some : (t : Option TemplateForm) (i : Instance) → is_given (or_no_roles (on_template t (λ u. contract_parties_of u i))) ≡ true → Someone (signatories_in (or_no_roles (on_template t (λ u. contract_parties_of u i))))
on_some None i h = cc
on_some (Some t) i h = given_some (parties_of t.signatories (this_names t i)) (parties_of t.observers (this_names t i)) h

typed_some : (packages : Packages) (i : Instance) (typed : Bool) → is_given (cond typed (or_no_roles (parties_of_contract packages i)) (Err NoRoles)) ≡ true → Someone (signatories_in (cond typed (or_no_roles (parties_of_contract packages i)) (Err NoRoles)))
unfolding parties_of_contract
typed_some packages i true h = on_some (template_in i.template packages) i h
typed_some packages i false h = cc

instance_some : (packages : Packages) (i : Instance) → is_given (parties_if_typed packages i) ≡ true → Someone (signatories_in (parties_if_typed packages i))
instance_some packages i h = typed_some packages i (has_kinds packages i) h

pub has_signatory : (packages : Packages) (a : Action) → has_roles packages a ≡ true → Someone (signatories_in (parties_if_typed packages (instance_of a)))
has_signatory packages (Create id i) h = instance_some packages i h
has_signatory packages (Exercise id salt i choice args actors consuming result) h = instance_some packages i (and_parts _ _ h).0
has_signatory packages (Fetch id salt i actors) h = instance_some packages i h

pub signatory_informed : (packages : Packages) (a : Action) → has_roles packages a ≡ true → (party : List ℕ) × Contains (roles_in packages a).signatories party × (has_party (roles_in packages a).informees party ≡ true)
signatory_informed packages a h =
    let s = has_signatory packages a h in
    let test : List ℕ → Bool = λ b. same_name b s.0 in
    let same : test s.0 ≡ true = (bytes_decide s.0 s.0).1 refl in (
      s.0,
      contains_from_In (signatories_in (parties_if_typed packages (instance_of a))) s.0 s.1,
      signatory_told (language_of packages (λ i. false) (λ call actors consuming result. false)) test a (in_any test (signatories_in (parties_if_typed packages (instance_of a))) s.0 s.1 same),
    )
