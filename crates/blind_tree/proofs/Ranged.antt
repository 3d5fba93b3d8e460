-- What a list of views or children is asked, where each is in range.
use Rattle.std.proofs.Common.{List}
use Rattle.ledger_terms.specs.Grown.{forest_of}
use Rattle.view_split.specs.CoreLists.{children_of}
use Rattle.view_split.specs.ViewTrees.{View}
use Rattle.view_split.specs.declared.core_node.CoreChild.{CoreChild}
use Rattle.blind_tree.specs.ShownViews.{AreChildren, AreViews}

abbrev pub ViewsInRange : List View → Type 0
ViewsInRange vs = AreViews (forest_of vs)

abbrev pub ChildrenInRange : List CoreChild → Type 0
ChildrenInRange cs = AreChildren (children_of cs)
