use Rattle.ledger_terms.proofs.Members.{has_party-set_of, ended}
use Rattle.ledger_terms.proofs.party_set.PartySet.of.Goals as goal

pub returns-clause-members : goal.returns-clause-members
returns-clause-members c =
    λ party. rw (ended _ _ _ _ _ c.as_slice-name-items.ensures c.loop-name-test.false c.loop-name.invariant) (has_party-set_of _ party)
