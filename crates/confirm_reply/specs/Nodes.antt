-- What references to nodes of transactions point to: a `Bor` is a reference, and its `now` what it points to.
use Rattle.std.specs.Prelude.{List, map}
use Rattle.std.specs.Borrow.{Bor}
use Rattle.ledger_terms.specs.declared.act.Act.{Act}
use Rattle.ledger_terms.specs.declared.action.Action.{Action}
use Rattle.ledger_terms.specs.Trees.{ActionNode, Actions}

-- the action of each node, which is behind a reference, with what stands below it
abbrev pub trees_in : List (Bor ActionNode) → List (Act × Actions)
trees_in nodes = map (λ (node : Bor ActionNode). (node.now.root, node.now.below)) nodes

-- the action of each node, which is behind a reference, with its seed
abbrev pub acts_of : List (Bor ActionNode) → List Act
acts_of nodes = map (λ (node : Bor ActionNode). node.now.root) nodes

-- the actions behind references, in order
abbrev pub actions_in : List (Bor Action) → List Action
actions_in actions = map (λ (action : Bor Action). action.now) actions
