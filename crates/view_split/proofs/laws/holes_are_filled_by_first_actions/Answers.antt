use Rattle.view_split.proofs.Children.{children_are, first_are}
use Rattle.view_split.proofs.laws.holes_are_filled_by_first_actions.Goals as goal

pub returns-clause-children : goal.returns-clause-children
returns-clause-children c = children_are

pub returns-clause-first : goal.returns-clause-first
returns-clause-first c = first_are
