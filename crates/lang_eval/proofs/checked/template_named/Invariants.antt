use Rattle.std.proofs.Common.{◌≡◌, find, drop}
use Rattle.ledger_terms.specs.Parties.{same_name}
use Rattle.lang_eval.proofs.checked.template_named.Given as goal

abbrev pub invariant-loop-template : goal.invariant-loop-template
invariant-loop-template l = find (λ x. same_name x.name l.name) (drop l.template-index l.templates) ≡ find (λ x. same_name x.name l.name) l.templates
