-- In the language of packages an action that has roles has a signatory.
use Rattle.ledger_model.specs.Terms.{instance_of}
use Rattle.ledger_model.proofs.Lists.{contains_from_In}
use Rattle.lang_eval.specs.Found.{Packages}
use Rattle.lang_eval.specs.Language.{parties_if_typed, signatories_in}
use Rattle.interpret.specs.Language.{the_language}
use Rattle.view_split.proofs.Signed.{has_signatory}
use Rattle.framed_form.specs.ByRules.{HasSignatories}

pub they_have : (packages : Packages) → HasSignatories (the_language packages)
they_have packages action h =
    let s = has_signatory packages action h in
    (s.0, contains_from_In (signatories_in (parties_if_typed packages (instance_of action))) s.0 s.1)
