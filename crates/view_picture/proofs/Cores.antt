-- What stands below a node of a core.
use Rattle.std.proofs.Common.{◌≡◌, ℕ, ◌+◌, ◌<◌, ◌≤◌, List, length, get_or, arith}
use Rattle.view_split.specs.CoreLists.{children_of, core_weight}
use Rattle.view_split.specs.declared.core_node.CoreChild.{CoreChild}
use Rattle.view_split.specs.declared.core_node.CoreChild.TheVariants.{Inner}
use Rattle.view_split.specs.declared.core_node.CoreNode.{CoreNode}
use Rattle.blind_tree.proofs.CoreGrow.{child_at}

-- it weighs less than the list that holds the node
pub inner_below : (cs : List CoreChild) (i : ℕ) (d : CoreChild) (node : CoreNode) → i < length cs → get_or cs i d ≡ Inner node
    → core_weight node.children < core_weight (children_of cs)
inner_below cs i d node h e =
    let whole : 2 + core_weight node.children + 0 ≤ core_weight (children_of cs) = rw e at (child_at cs i d h) in
    omega (arith, whole)
