-- The tests of an action by itself, in their order, and who authorises what.
use Rattle.std.specs.Prelude.{Bool, not, ◌&&◌, cond, ◌++◌, Result, Ok, Err}
use Rattle.ledger_terms.specs.Parties.{is_subset, set_of}
use Rattle.ledger_terms.specs.declared.instance.Instance.{Instance}
use Rattle.ledger_model.specs.declared.step.ChoiceCall.{ChoiceCall}
use Rattle.ledger_model.specs.Parties.{is_empty, within}
use Rattle.lang_eval.specs.declared.eval_fault.EvalFault.{EvalFault}
use Rattle.lang_eval.specs.declared.eval_fault.EvalFault.TheVariants.{Assert as AssertFault, TooLarge}
use Rattle.lang_eval.specs.declared.contract_parties.ContractParties.{ContractParties}
use Rattle.lang_eval.specs.declared.choice_parties.ChoiceParties.{ChoiceParties}
use Rattle.lang_eval.specs.Found.{Packages}
use Rattle.lang_eval.specs.Kinds.{has_kinds, call_has_kinds}
use Rattle.lang_eval.specs.Parts.{PartyNames, parties_of_created, parties_of_choice}
use Rattle.lang_eval.specs.Language.{parties_if_typed, signatories_in, observers_in}
use Rattle.interpret.specs.Sizes.{is_small_instance, are_small_args}

-- the signatories among a contract's parties as an evaluation gave them, or its fault
abbrev pub signatories_of : Result ContractParties EvalFault → Result PartyNames EvalFault
signatories_of (Ok p) = Ok p.signatories
signatories_of (Err e) = Err e

-- the controllers of parties that were evaluated, or the fault
abbrev pub controllers_of : Result ChoiceParties EvalFault → Result PartyNames EvalFault
controllers_of (Ok p) = Ok p.controllers
controllers_of (Err e) = Err e

-- The signatories of a contract that is to be created, or the first fault: the size of the instance (TooLarge), its `ensure`, signatories and observers
-- are tried in this order. A template that isn't there, or fields of other kinds than its, which no checked body asks for, give Assert.
unfoldable pub created_signatories : Packages → Instance → Result PartyNames EvalFault
created_signatories packages i =
    cond (has_kinds packages i) (cond (is_small_instance i) (signatories_of (parties_of_created packages i)) (Err TooLarge)) (Err AssertFault)

-- The controllers of a call, or the first fault: the size of the arguments (TooLarge), the controllers and the choice observers are tried in this
-- order. A choice that isn't there, or arguments of other kinds than its, which no checked body asks for, give Assert.
unfoldable pub call_controllers : Packages → ChoiceCall → Result PartyNames EvalFault
call_controllers packages call =
    cond (call_has_kinds packages call) (cond (are_small_args call.args) (controllers_of (parties_of_choice packages call)) (Err TooLarge)) (Err AssertFault)

-- the signatories of the instance; no party where its template isn't there, its fields have other kinds, or its parties have no values
unfoldable pub signers : Packages → Instance → PartyNames
signers packages i = signatories_in (parties_if_typed packages i)

-- the actors of a Fetch of the instance: the set of those of its stakeholders that are among the authorisers `by`; empty where none is, and where the
-- stakeholders have no values
unfoldable pub fetchers : Packages → Instance → PartyNames → PartyNames
fetchers packages i by = set_of (within (signatories_in (parties_if_typed packages i) ++ observers_in (parties_if_typed packages i)) by)

-- whether an Exercise with these actors is authorised: there are actors, and all of them are among the authorisers `by`
abbrev pub are_authorised : PartyNames → PartyNames → Bool
are_authorised actors by = not (is_empty actors) && is_subset actors by

-- who authorises the consequences of an Exercise of the instance: its actors and the signatories of its contract
abbrev pub authorisers : Packages → Instance → PartyNames → PartyNames
authorisers packages i actors = set_of (actors ++ signers packages i)
