use Rattle.ledger_terms.specs.Grown.{node_count}
use Rattle.view_picture.proofs.views.+put_view.Given as goal

abbrev pub decreases-put_view : goal.decreases-put_view
decreases-put_view l = node_count (l.view.now).below
