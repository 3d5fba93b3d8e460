use Rattle.std.proofs.Common.{map, ap}
use Rattle.ledger_terms.specs.Parties.{set_of}
use Rattle.framed_form.specs.FramedReading.{framed_reading}
use Rattle.acs_commit.specs.Shared.{row_id}
use Rattle.acs_commit.specs.Trees.{root_of}
use Rattle.acs_commit.proofs.laws.counterparties_agree.Goals as goal

pub returns-clause-contracts : goal.returns-clause-contracts
returns-clause-contracts c topology packages log p q n o m genuine apart n_le o_le p_clean q_clean p_told q_told =
    c.shared_contracts_agree.ensures (framed_reading topology packages) topology.params log p q n o m (c.framed_reading_is_reading.ensures topology packages)
    (c.logs_that_do_not_collide.ensures topology packages log (c.framed_logs_are_one_ledger.ensures.framed topology packages log genuine) apart)
    genuine n_le o_le p_clean q_clean p_told q_told

pub returns-clause-roots : goal.returns-clause-roots
returns-clause-roots c topology packages log p q n o m genuine apart n_le o_le p_clean q_clean p_told q_told =
    ap (λ rows. root_of (set_of (map row_id rows)))
    (returns-clause-contracts c topology packages log p q n o m genuine apart n_le o_le p_clean q_clean p_told q_told)
