-- The contract language of checked packages with its sizes, which is all that the ledger asks of it.
use Rattle.std.specs.Prelude.{Bool, true, false, ◌&&◌, not, cond, Result, Ok, Err}
use Rattle.std.specs.Cmp.Lexicographic.{pointwise}
use Rattle.ledger_terms.specs.Parties.{same_name}
use Rattle.ledger_terms.specs.declared.instance.Instance.{Instance}
use Rattle.ledger_terms.specs.declared.value.Value.{Value}
use Rattle.ledger_model.specs.declared.step.ChoiceCall.{ChoiceCall}
use Rattle.ledger_model.specs.Language.{Language}
use Rattle.lang_eval.specs.declared.eval_fault.EvalFault.{EvalFault}
use Rattle.lang_eval.specs.declared.choice_parties.ChoiceParties.{ChoiceParties}
use Rattle.lang_eval.specs.Found.{Packages}
use Rattle.lang_eval.specs.Kinds.{call_has_kinds}
use Rattle.lang_eval.specs.Parts.{PartyNames, parties_of_created, parties_of_choice, is_consuming_call}
use Rattle.lang_eval.specs.Language.{language_of}
use Rattle.interpret.specs.Sizes.{is_small_instance, are_small_args, is_small_result}

-- whether an evaluation has a value and no fault
abbrev pub has_value : {A : Type 0} → Result A EvalFault → Bool
has_value (Ok v) = true
has_value (Err e) = false

-- whether both are true or both false
abbrev pub same_truth : Bool → Bool → Bool
same_truth a b = cond a b (not b)

-- whether two lists of parties are the same, in order; of sets, which are sorted, whether they have the same parties
abbrev pub same_parties : PartyNames → PartyNames → Bool
same_parties = pointwise same_name

-- whether a choice's parties have values, and its controllers are exactly these actors; false where they have a fault
abbrev pub are_controllers : Result ChoiceParties EvalFault → PartyNames → Bool
are_controllers (Ok p) actors = same_parties p.controllers actors
are_controllers (Err e) actors = false

-- Whether an instance may be created, where its fields have the declared kinds, which the ledger asks apart: it keeps its limit, its template is there,
-- its `ensure` is true, it has a signatory, and its signatories and observers have values.
unfoldable pub is_creatable : Packages → Instance → Bool
is_creatable packages i = is_small_instance i && has_value (parties_of_created packages i)

-- Whether a call may be exercised with these actors, this flag of consuming and this result, where the contract's fields have their kinds, which the
-- ledger asks apart: the arguments have the choice's kinds, arguments and result keep their limits, the flag is that of the choice, the actors are its
-- controllers, and its observers have a value.
unfoldable pub is_exercisable : Packages → ChoiceCall → PartyNames → Bool → Value → Bool
is_exercisable packages call actors consuming result =
    call_has_kinds packages call
    && (are_small_args call.args
    && (is_small_result result
    && (same_truth (is_consuming_call packages call) consuming
    && are_controllers (parties_of_choice packages call) actors)))

-- The language of the ledger, by which all rules of the ledger judge: parties, roles, kinds and the steps of bodies are what these packages give, and
-- whether a Create or an Exercise is possible is told by the two tests above, which look at sizes too.
abbrev pub the_language : Packages → Language
the_language packages = language_of packages (is_creatable packages) (is_exercisable packages)
