use Rattle.std.proofs.Common.{true, ◌≡◌}
use Rattle.ledger_terms.proofs.Rising.{IsRising-push}
use Rattle.ledger_terms.specs.Parties.{stands_above}
use Rattle.ledger_terms.proofs.party_set.PartySet.push_above.Goals as goal

pub invariant_of-self-2 : goal.invariant_of-self-2
invariant_of-self-2 c =
    let above : stands_above c.self.inside.names c.args.party ≡ true = cc in
    rw c.in_ok-push.ensures.ok (IsRising-push _ _ above c.self.invariant)
