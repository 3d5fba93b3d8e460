-- What decides conformance is the test of a tree.
use Rattle.std.proofs.Common.{◌≡◌, Bool}
use Rattle.std.specs.Bool.{Decides}
use Rattle.std.proofs.lemmas.Bool.Decides.{same_from_decides}
use Rattle.ledger_terms.specs.Grown.{tree_of}
use Rattle.ledger_terms.specs.Trees.{ActionNode}
use Rattle.ledger_model.specs.Conformance.{Conforms}
use Rattle.lang_eval.specs.Found.{Packages}
use Rattle.interpret.specs.Language.{the_language}
use Rattle.interpret.specs.Tries.{is_tree_possible}
use Rattle.interpret.proofs.Tried.{tree_decides}

pub possible_where_it_conforms : (packages : Packages) (node : ActionNode) (b : Bool) → Decides b (Conforms (the_language packages) (tree_of node))
    → b ≡ is_tree_possible packages node.root.action node.below
possible_where_it_conforms packages node b decides =
    same_from_decides b (is_tree_possible packages node.root.action node.below) decides (tree_decides packages node.root.action node.below node.root.seed)
