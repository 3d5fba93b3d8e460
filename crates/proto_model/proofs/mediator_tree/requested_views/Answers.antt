use Rattle.proto_model.proofs.Making.{narrow}
use Rattle.proto_model.proofs.mediator_tree.requested_views.Goals as goal

pub informee_tree-requires : goal.informee_tree-requires
informee_tree-requires c = narrow c.in-Some.tree (rw c.in-Some.is at c.in_ok-tree.ensures.fits)
