use Rattle.ledger_terms.proofs.Members.{has_party-with_parties, ended}
use Rattle.ledger_terms.proofs.party_set.PartySet.union.Goals as goal

pub returns-clause-members : goal.returns-clause-members
returns-clause-members c =
    λ party. rw (ended _ _ _ _ _ c.as_slice-name-items.ensures.names c.loop-name-test.false c.loop-name.invariant) (has_party-with_parties _ party _)
