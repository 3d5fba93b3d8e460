use Rattle.std.proofs.Common.{◌≡◌, find, drop}
use Rattle.ledger_terms.specs.Parties.{same_name}
use Rattle.lang_eval.proofs.checked.package_named.Given as goal

abbrev pub invariant-loop-package : goal.invariant-loop-package
invariant-loop-package l = find (λ x. same_name x.name l.name) (drop l.package-index l.packages) ≡ find (λ x. same_name x.name l.name) l.packages
