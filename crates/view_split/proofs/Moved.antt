-- A core's children and views, taken from the front one at a time.
use Rattle.std.proofs.Common.{◌≡◌, ◌≤◌, List, [], ◌∷◌, refl, sym, ◌∙◌, subst, arith}
use Rattle.ledger_terms.specs.declared.act.Act.{Act}
use Rattle.ledger_terms.specs.Forest.{Forest, NoRoots, Root, join}
use Rattle.ledger_terms.specs.Grown.{forest_of, tree_of, node_count}
use Rattle.ledger_terms.specs.Trees.{Actions}
use Rattle.ledger_terms.proofs.Grow.{join-end}
use Rattle.view_split.specs.Holed.{Holed, NoMore, fill, after_holes}
use Rattle.view_split.specs.Holed as holed
use Rattle.view_split.specs.CoreLists.{act_of, children_of, core_weight}
use Rattle.view_split.specs.Split.{assembled}
use Rattle.view_split.specs.declared.core_node.CoreNode.{CoreNode}
use Rattle.view_split.specs.declared.core_node.CoreChild.{CoreChild}
use Rattle.view_split.specs.declared.core_node.CoreChild.TheVariants.{Inner, Hole}
use Rattle.view_split.specs.declared.split_view.SplitView.{SplitView}
use Rattle.view_split.specs.ViewTrees.{View}
use Rattle.view_split.proofs.Filling.{Keeps, count_with, step_inner, step_next, step_view}

-- what is left of a core's children gives what is wanted, and is no more than the core
abbrev pub Moves : (cs : List CoreChild) (out trees all left : Actions) (whole : Holed Act) → Type 0
Moves cs out trees all left whole = Keeps cs 0 out trees all left × (core_weight (children_of cs) ≤ core_weight whole)

pub moved_inner : (before cs : List CoreChild) (c : CoreChild) (node : CoreNode) (out new trees rest children all left : Actions) (whole : Holed Act)
    → before ≡ c ∷ cs → c ≡ Inner node
    → new ≡ join out (Root (act_of node) children NoRoots) → children ≡ fill node.children trees → rest ≡ after_holes node.children trees
    → Moves before out trees all left whole → Moves cs new rest all left whole
moved_inner before cs c node out new trees rest children all left whole steps is grown filled taken keeps =
    let k = subst (λ (xs : List CoreChild). Moves xs out trees all left whole) steps keeps in (
      step_inner (c ∷ cs) 0 c node out new trees rest children all left (omega arith) refl is grown filled taken k.0,
      omega (arith, count_with c cs, k.1),
    )

pub moved_hole : (before cs : List CoreChild) (c : CoreChild) (out new trees rest all left : Actions) (whole : Holed Act)
    → before ≡ c ∷ cs → c ≡ Hole
    → new ≡ join out (fill (holed.Hole NoMore) trees) → rest ≡ after_holes (holed.Hole NoMore) trees
    → Moves before out trees all left whole → Moves cs new rest all left whole
moved_hole before cs c out new trees rest all left whole steps is grown taken keeps =
    let k = subst (λ (xs : List CoreChild). Moves xs out trees all left whole) steps keeps in (
      step_next (c ∷ cs) 0 c out new trees rest all left (omega arith) refl is grown taken k.0,
      omega (arith, count_with c cs, k.1),
    )

pub moved_end : (cs : List CoreChild) (out trees all left : Actions) (whole : Holed Act) → cs ≡ [] → Moves cs out trees all left whole → out ≡ all
moved_end cs out trees all left whole none keeps =
    let k = subst (λ (xs : List CoreChild). Moves xs out trees all left whole) none keeps in sym (join-end out) ∙ (k.0).0

-- what is left of views gives what is wanted, and is no more than the views
abbrev pub MovesViews : (vs : List View) (out all : Actions) (whole : Forest SplitView) → Type 0
MovesViews vs out all whole = (join out (assembled (forest_of vs)) ≡ all) × (node_count (forest_of vs) ≤ node_count whole)

pub moved_view : (before vs : List View) (v : View) (out new tree all : Actions) (whole : Forest SplitView)
    → before ≡ v ∷ vs → new ≡ join out tree → tree ≡ assembled (tree_of v)
    → MovesViews before out all whole → MovesViews vs new all whole
moved_view before vs v out new tree all whole steps grown put keeps =
    let k = subst (λ (xs : List View). MovesViews xs out all whole) steps keeps in (
      step_view (v ∷ vs) 0 v all out new tree (omega arith) refl grown put k.0,
      omega (arith, k.1),
    )

pub moved_views : (vs : List View) (out all : Actions) (whole : Forest SplitView) → vs ≡ [] → MovesViews vs out all whole → out ≡ all
moved_views vs out all whole none keeps =
    let k = subst (λ (xs : List View). MovesViews xs out all whole) none keeps in sym (join-end out) ∙ k.0
