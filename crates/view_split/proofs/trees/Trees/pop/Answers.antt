use Rattle.std.proofs.Common.{sym, ◌∙◌}
use Rattle.view_split.proofs.Grow.{popped}
use Rattle.view_split.proofs.trees.Trees.pop.Goals as goal

pub returns-clause-taken : goal.returns-clause-taken
returns-clause-taken c = sym c.self.view_is ∙ popped _ _ _ c.pop.ensures.items
