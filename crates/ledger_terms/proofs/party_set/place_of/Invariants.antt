use Rattle.std.proofs.Common.{◌≡◌, ◌++◌, ◌-◌, ◌≤◌, take, drop, length}
use Rattle.ledger_terms.specs.Parties.{with_party}
use Rattle.ledger_terms.proofs.party_set.place_of.Given as goal

abbrev pub invariant-loop-at : goal.invariant-loop-at
invariant-loop-at l =
    (l.at ≤ length l.names) × (with_party l.name l.names ≡ take l.at l.names ++ with_party l.name (drop l.at l.names))

abbrev pub decreases-loop-at : goal.decreases-loop-at
decreases-loop-at l = length l.names - l.at
