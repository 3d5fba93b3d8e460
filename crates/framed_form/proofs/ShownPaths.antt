-- The paths of what a participant is shown are those of its views.
use Rattle.std.proofs.Common.{◌≡◌, ℕ, Bool, List, [], ◌∷◌, map, refl, sym, ap, ◌∙◌, subst}
use Rattle.ledger_terms.specs.declared.act.Act.{Act}
use Rattle.ledger_terms.specs.Forest.{Forest, number_from, preorder}
use Rattle.ledger_terms.specs.Parties.{IsRising}
use Rattle.ledger_model.specs.Terms.{Path}
use Rattle.ledger_model.specs.Opening.{OpenedView}
use Rattle.view_split.specs.declared.opened_tree.OpenedTree.{OpenedTree}
use Rattle.view_split.specs.declared.split_view.SplitView.{SplitView}
use Rattle.view_split.specs.Filled.{AreFilled}
use Rattle.view_split.specs.Numbered.{map_forest}
use Rattle.view_split.specs.Placed.{placed_forest, shown_by}
use Rattle.view_split.specs.SeenViews.{opened_as, placed_numbered, put_back}
use Rattle.view_split.proofs.Cores.{plain_numbered}
use Rattle.view_split.proofs.Fitting.{preorder-map}
use Rattle.view_split.proofs.InPlace.{bare_again}
use Rattle.blind_tree.specs.declared.tree.Tree.{Tree}
use Rattle.framed_form.specs.Frames.{paths_in}
use Rattle.framed_form.proofs.Filled.{opened_filled}
use Rattle.framed_form.proofs.Rising.{opened_rises}
use Rattle.framed_form.proofs.Wholes.{Opens}

abbrev Placed : Type 0
Placed = Path × SplitView

abbrev NumberedView : Type 0
NumberedView = Placed × List (ℕ × Act)

paths_twice : (vs : List NumberedView) → map (λ (v : OpenedView). v.path) (map opened_as vs) ≡ map (λ (v : Placed). v.0) (map (λ (v : NumberedView). v.0) vs)
paths_twice [] = refl
paths_twice (v ∷ vs) = ap (λ (ps : List Path). (v.0).0 ∷ ps) (paths_twice vs)

pub shown_paths : (tree : OpenedTree) → AreFilled (map_forest (λ (v : List ℕ × SplitView). v.1) (placed_forest tree.views))
    → map (λ (v : OpenedView). v.path) (shown_by tree).views ≡ paths_in (placed_forest tree.views)
shown_paths tree filled =
    let placed = placed_forest tree.views in
    let again : map_forest (λ (v : NumberedView). v.0) (placed_numbered placed) ≡ placed =
    bare_again placed (number_from 0 (put_back placed)) filled (plain_numbered 0 (put_back placed)) in
    paths_twice (preorder (placed_numbered placed))
    ∙ (ap (map (λ (v : Placed). v.0)) (sym (preorder-map (λ (v : NumberedView). v.0) (placed_numbered placed))) ∙ ap (λ (f : Forest Placed). paths_in f) again)

-- the paths of what a tree shows rise
pub shown_rises : (seen : List (List ℕ)) (wanted : Bool) (t : Tree) (opened : OpenedTree) → Opens seen wanted t opened
    → IsRising (map (λ (v : OpenedView). v.path) (shown_by opened).views)
shown_rises seen wanted t opened opens =
    subst IsRising (sym (shown_paths opened (opened_filled seen wanted t opened opens))) (opened_rises seen wanted t opened opens)
