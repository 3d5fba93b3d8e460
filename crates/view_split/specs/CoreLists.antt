-- What a list of children of a core is seen as.
use Rattle.std.specs.Prelude.{ℕ, ◌+◌, List, [], ◌∷◌}
use Rattle.ledger_terms.specs.declared.act.Act.{Act}
use Rattle.view_split.specs.Holed as holed
use Rattle.view_split.specs.Holed.{Holed, NoMore}
use Rattle.view_split.specs.declared.core_node.CoreNode.{CoreNode}
use Rattle.view_split.specs.declared.core_node.CoreChild.{CoreChild}
use Rattle.view_split.specs.declared.core_node.CoreChild.TheVariants.{Inner, Hole}

-- the action of a node of a core, with its seed
abbrev pub act_of : CoreNode → Act
act_of node = record { seed = node.seed; action = node.action }

-- What a list of a core's children is seen as: each action with what stands below it in the core, and a hole for each view below.
abbrev pub children_of : List CoreChild → Holed Act
children_of [] = NoMore
children_of (Inner node ∷ others) = holed.Inner (act_of node) node.children (children_of others)
children_of (Hole ∷ others) = holed.Hole (children_of others)

-- A measure by which walks over a core end: the number of its holes and twice that of its actions.
abbrev pub core_weight : Holed Act → ℕ
core_weight NoMore = 0
core_weight (holed.Inner root below others) = 2 + core_weight below + core_weight others
core_weight (holed.Hole others) = 1 + core_weight others
