-- Views that no hole has taken yet.
use Rattle.std.specs.Prelude.{ℕ, List, drop}
use Rattle.ledger_terms.specs.Grown.{forest_of}
use Rattle.ledger_terms.specs.Trees.{Actions}
use Rattle.view_split.specs.Split.{assembled}
use Rattle.view_split.specs.ViewTrees.{View}

-- The actions that the views of the list, from index `next` on, are put back to; views before it were taken by holes already.
abbrev pub put_back_from : ℕ → List View → Actions
put_back_from next views = assembled (forest_of (drop next views))
