use Rattle.ledger_terms.proofs.Rising.{IsRising-with_party}
use Rattle.ledger_terms.proofs.party_set.PartySet.insert.Goals as goal

pub invariant_of-self-2 : goal.invariant_of-self-2
invariant_of-self-2 c = rw c.in_ok-insert_name.ensures.ok (IsRising-with_party _ _ c.self.invariant)
