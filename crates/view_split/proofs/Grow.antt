-- Children of cores that come at the end, and trees that are taken from it.
use Rattle.std.proofs.Common.{◌≡◌, suc, length, List, [], ◌∷◌, ◌++◌, refl, ap, ◌∙◌}
use Rattle.std.specs.Prelude.{reverse, Option, Some, None, option_to_list}
use Rattle.std.proofs.lemmas.List.{reverse-append, append-nil}
use Rattle.ledger_terms.specs.Grown.{forest_of}
use Rattle.ledger_terms.specs.Trees.{ActionNode}
use Rattle.ledger_terms.specs.Forest.{join}
use Rattle.view_split.specs.Holed as holed
use Rattle.view_split.specs.Holed.{beside, width}
use Rattle.view_split.specs.CoreLists.{act_of, children_of}
use Rattle.view_split.specs.declared.core_node.CoreChild.{CoreChild}
use Rattle.view_split.specs.declared.core_node.CoreChild.TheVariants.{Inner, Hole}

children_appended : (cs ds : List CoreChild) → children_of (cs ++ ds) ≡ beside (children_of cs) (children_of ds)
children_appended [] ds = refl
children_appended (Inner node ∷ cs) ds = ap (holed.Inner (act_of node) node.children) (children_appended cs ds)
children_appended (Hole ∷ cs) ds = ap holed.Hole (children_appended cs ds)

pub child_pushed : (cs : List CoreChild) (c : CoreChild) → children_of (cs ++ c ∷ []) ≡ beside (children_of cs) (children_of (c ∷ []))
child_pushed cs c = children_appended cs (c ∷ [])

pub width-children_of : (cs : List CoreChild) → width (children_of cs) ≡ length cs
width-children_of [] = refl
width-children_of (Inner node ∷ cs) = ap suc (width-children_of cs)
width-children_of (Hole ∷ cs) = ap suc (width-children_of cs)

pub ruleset child_widths = (width-children_of)

-- of trees whose last stands first, the first is taken from the end
pub popped : (old new : List ActionNode) (taken : Option ActionNode) → old ≡ new ++ option_to_list taken → forest_of (reverse old) ≡ join (forest_of (option_to_list taken)) (forest_of (reverse new))
popped old new None e = ap (λ (ns : List ActionNode). forest_of (reverse ns)) (e ∙ append-nil new)
popped old new (Some n) e = ap (λ (ns : List ActionNode). forest_of (reverse ns)) e ∙ ap forest_of (reverse-append new (n ∷ []))
