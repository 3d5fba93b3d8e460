use Rattle.std.proofs.Common.{◌≡◌, drop}
use Rattle.ledger_terms.specs.Parties.{with_parties}
use Rattle.confirm_reply.proofs.well_split.add_parties.Given as goal

abbrev pub invariant-loop-party : goal.invariant-loop-party
invariant-loop-party l = with_parties (drop l.party-index l.more) l.set ≡ with_parties l.more l.fn.set
