use Rattle.ledger_terms.specs.Grown.{node_count}
use Rattle.layer_cases.proofs.form.openings.+put_below.Given as goal

abbrev pub decreases-put_below : goal.decreases-put_below
decreases-put_below l = node_count l.views.now
