use Rattle.std.proofs.Common.{◌≡◌, find, drop}
use Rattle.ledger_terms.specs.Parties.{same_name}
use Rattle.lang_eval.proofs.checked.choice_named.Given as goal

abbrev pub invariant-loop-choice : goal.invariant-loop-choice
invariant-loop-choice l = find (λ x. same_name x.name l.name) (drop l.choice-index l.choices) ≡ find (λ x. same_name x.name l.name) l.choices
