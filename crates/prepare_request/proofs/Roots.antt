-- What is split has a root.
use Rattle.std.proofs.Common.{◌≡◌, List, [], ◌∷◌, Result, Ok, Err, refl, sym, ap, subst, ◌∙◌}
use Rattle.std.specs.Prelude.{◌≢◌}
use Rattle.ledger_terms.specs.Answers.{Follows}
use Rattle.ledger_terms.specs.Forest.{NoRoots, Root}
use Rattle.ledger_terms.specs.Grown.{forest_of}
use Rattle.ledger_terms.specs.Trees.{ActionNode, Actions}
use Rattle.ledger_terms.specs.declared.tx.Tx.{Tx}
use Rattle.lang_eval.specs.Found.{Packages}
use Rattle.view_split.specs.Faults.{views_of_tx}
use Rattle.view_split.specs.declared.split_fault.SplitFault.{SplitFault}
use Rattle.view_split.specs.declared.split_fault.SplitFault.TheVariants.{NoRoles, Memory}
use Rattle.view_split.specs.declared.views.Views.{Views}
use Rattle.prepare_request.specs.Prepared.{if_some, views_for}

pub root_of_split : (roots : Actions) (r : Result Views SplitFault) (views : Views) → if_some roots r ≡ Ok views → (roots ≢ NoRoots) × (r ≡ Ok views)
root_of_split NoRoots r views e = absurd cc
root_of_split (Root act below others) r views e = (λ none. absurd cc, e)

pub split_with_root : (roots : Actions) (r : Result Views SplitFault) → roots ≢ NoRoots → if_some roots r ≡ r
split_with_root NoRoots r some = absurd (some refl)
split_with_root (Root act below others) r some = refl

no_trees : (trees : List ActionNode) → forest_of trees ≡ NoRoots → trees ≡ []
no_trees [] e = refl
no_trees (tree ∷ trees) e = absurd cc

pub rootless : (packages : Packages) (tx : Tx) (trees : List ActionNode) → forest_of trees ≡ tx.roots → trees ≡ [] → views_for packages tx ≡ Err (NoRoles [])
rootless packages tx trees is none = ap (λ (roots : Actions). if_some roots (views_of_tx packages tx)) (sym is) ∙ ap (λ (ts : List ActionNode). if_some (forest_of ts) (views_of_tx packages tx)) none

pub rooted : (packages : Packages) (tx : Tx) (trees : List ActionNode) (r : Result Views SplitFault) → forest_of trees ≡ tx.roots → trees ≢ []
    → Follows Memory r (views_of_tx packages tx) → Follows Memory r (views_for packages tx)
rooted packages tx trees r is some follows =
    subst (λ (a : Result Views SplitFault). Follows Memory r a)
    (sym (split_with_root tx.roots (views_of_tx packages tx) (λ none. some (no_trees trees (is ∙ none))))) follows
