-- What the language says of a choice that a native has is what it says of the call.
use Rattle.std.proofs.Common.{◌≡◌, List, Some}
use Rattle.ledger_terms.specs.declared.template_name.TemplateName.{TemplateName}
use Rattle.ledger_terms.specs.Packages.{ChoiceForm}
use Rattle.ledger_model.specs.declared.step.ChoiceCall.{ChoiceCall}
use Rattle.ledger_model.specs.declared.step.ChildResult.{ChildResult}
use Rattle.lang_eval.specs.Found.{Packages, template_in, choice_in}
use Rattle.lang_eval.specs.Next.{next, next_in}

pub native_is : (packages : Packages) (call : ChoiceCall) (seen : List ChildResult) (t : TemplateName) (c : ChoiceForm) → t ≡ call.instance.template
    → Some c ≡ choice_in call.instance.template call.choice packages → next_in (template_in t packages) (Some c) packages call seen ≡ next packages call seen
unfolding next
native_is packages call seen t c owner says = λ i. next_in (template_in (owner i) packages) (says i) packages call seen
