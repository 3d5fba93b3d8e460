use Rattle.std.proofs.Common.{◌≡◌, drop}
use Rattle.ledger_terms.specs.Parties.{with_parties}
use Rattle.ledger_terms.proofs.party_set.PartySet.union.Given as goal

abbrev pub invariant-loop-name : goal.invariant-loop-name
invariant-loop-name l = with_parties (drop l.name-index l.other) l.set ≡ with_parties l.other l.self
