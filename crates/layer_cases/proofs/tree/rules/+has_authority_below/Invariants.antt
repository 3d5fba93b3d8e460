use Rattle.ledger_terms.specs.Grown.{node_count}
use Rattle.layer_cases.proofs.tree.rules.+has_authority_below.Given as goal

abbrev pub decreases-has_authority_below : goal.decreases-has_authority_below
decreases-has_authority_below l = node_count l.nodes.now
