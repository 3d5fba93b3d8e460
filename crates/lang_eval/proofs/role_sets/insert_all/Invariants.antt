use Rattle.std.proofs.Common.{◌≡◌, drop}
use Rattle.ledger_terms.specs.Parties.{with_parties}
use Rattle.lang_eval.proofs.role_sets.insert_all.Given as goal

abbrev pub invariant-loop-name : goal.invariant-loop-name
invariant-loop-name l = with_parties (drop l.name-index l.name-items) l.set ≡ with_parties l.parties l.fn.set
