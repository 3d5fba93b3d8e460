-- What stands below an action of a core is less than the list that holds it.
use Rattle.std.specs.Prelude.{◌≤◌, List, [], ◌∷◌, max}
use Rattle.std.proofs.Common.{arith}
use denote.Param.Weighed.{most}
use Rattle.view_split.specs.CoreLists.{children_of, core_weight}
use Rattle.view_split.specs.declared.core_node.CoreChild.{CoreChild}
use Rattle.view_split.specs.declared.core_node.CoreChild.TheVariants.{Inner, Hole}
use Rattle.view_split.specs.declared.core_node.CoreChildList.TheInside.{Inside}
use Rattle.view_split.specs.declared.core_node.CoreChildList.TheDeep.{deep-CoreChild, deep-CoreChildList}

most_le : (cs : List CoreChild) → max (most deep-CoreChild cs) 0 ≤ core_weight (children_of cs)
most_le [] = omega arith
most_le (Inner node ∷ cs) = omega (arith, most_le cs)
most_le (Hole ∷ cs) = omega (arith, most_le cs)

pub falls : (l : Inside) → deep-CoreChildList l ≤ core_weight (children_of l.children.items)
falls l = most_le l.children.items
