use Rattle.std.proofs.Common.{◌≡◌, ◌++◌, ◌-◌, ◌≤◌, take, drop, length}
use Rattle.ledger_terms.specs.Parties.{with_party}
use Rattle.node_inbox.proofs.leaving.place_of.Given as goal

abbrev pub invariant-loop-at : goal.invariant-loop-at
invariant-loop-at l = (l.at ≤ length l.ids) × (with_party l.id l.ids ≡ take l.at l.ids ++ with_party l.id (drop l.at l.ids))

abbrev pub decreases-loop-at : goal.decreases-loop-at
decreases-loop-at l = length l.ids - l.at
