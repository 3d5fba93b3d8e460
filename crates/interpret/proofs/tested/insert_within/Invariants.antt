use Rattle.std.proofs.Common.{◌≡◌, drop}
use Rattle.ledger_terms.specs.Parties.{with_parties}
use Rattle.ledger_model.specs.Parties.{within}
use Rattle.interpret.proofs.tested.insert_within.Given as goal

abbrev pub invariant-loop-name : goal.invariant-loop-name
invariant-loop-name l =
    with_parties (within (drop l.name-index l.name-items) l.by) l.set ≡ with_parties (within l.parties l.by) l.fn.set
