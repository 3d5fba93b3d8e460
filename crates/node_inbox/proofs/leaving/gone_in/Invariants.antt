use Rattle.std.proofs.Common.{◌≡◌, take}
use Rattle.ledger_terms.specs.Parties.{with_parties}
use Rattle.node_inbox.specs.Leaving.{consumed_in}
use Rattle.node_inbox.proofs.leaving.gone_in.Given as goal

abbrev pub invariant-loop-id : goal.invariant-loop-id
invariant-loop-id l = (l.ids).items ≡ take l.id-index l.gone

abbrev pub invariant-rows : goal.invariant-rows
invariant-rows l = (l.ids).items ≡ with_parties (consumed_in (take l.at l.live)) l.gone
