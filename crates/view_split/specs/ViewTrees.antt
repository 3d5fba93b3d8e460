-- What views are seen as.
use Rattle.ledger_terms.specs.declared.tree.Tree.{Tree}
use Rattle.view_split.specs.declared.split_view.SplitView.{SplitView}

-- a view with all views below it, as one tree
abbrev pub View : Type 0
View = Tree SplitView
