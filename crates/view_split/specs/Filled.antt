-- Views whose holes are the views below them.
use Rattle.std.specs.Prelude.{◌≡◌}
use Rattle.ledger_terms.specs.Forest.{Forest, NoRoots, Root}
use Rattle.ledger_terms.specs.Roots.{trees_count}
use Rattle.view_split.specs.Holed.{holes}
use Rattle.view_split.specs.declared.split_view.SplitView.{SplitView}

-- Each view, at any depth, has as many holes as views stand directly below it.
abbrev pub AreFilled : Forest SplitView → Type 0
AreFilled NoRoots = Unit {0}
AreFilled (Root view subviews others) = (holes view.below ≡ trees_count subviews) × AreFilled subviews × AreFilled others
