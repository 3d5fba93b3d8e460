-- Trees put back and gathered, one at a time.
use Rattle.std.proofs.Common.{◌≡◌, ℕ, suc, ◌+◌, ◌<◌, ◌≤◌, List, [], ◌∷◌, ◌++◌, length, get_or, drop, refl, sym, ◌∙◌, ap, append_assoc, append-nil}
use Rattle.std.specs.Borrow.{Bor}
use Rattle.std.proofs.lemmas.List.{drop_more, map-append}
use Rattle.std.proofs.Math.ListN.{drop_of_length-le}
use Rattle.ledger_terms.specs.declared.act.Act.{Act}
use Rattle.ledger_terms.specs.Trees.{ActionNode, Actions}
use Rattle.ledger_terms.specs.Forest.{Forest, NoRoots, Root, join, paths_from}
use Rattle.ledger_terms.specs.Grown.{forest_of}
use Rattle.ledger_terms.proofs.Grow.{join-assoc, join-end}
use Rattle.ledger_model.specs.Forest.{trees_of}
use Rattle.view_split.specs.Holed.{fill}
use Rattle.view_split.specs.Numbered.{map_forest}
use Rattle.view_split.specs.Placed.{placed_forest}
use Rattle.view_split.specs.SeenViews.{put_back}
use Rattle.view_split.specs.Split.{assembled}
use Rattle.view_split.specs.declared.split_view.SplitView.{SplitView}
use Rattle.ledger_terms.specs.Grown.{tree_of}
use Rattle.view_split.specs.declared.placed_view.PlacedView.{PlacedView}
use Rattle.confirm_reply.specs.Nodes.{acts_of, trees_in}

-- ---- views put back

bare_paths : (above : List ℕ) (k : ℕ) (views : Forest SplitView) → map_forest (λ (v : List ℕ × SplitView). v.1) (paths_from above k views) ≡ views
bare_paths above k NoRoots = refl
bare_paths above k (Root view subviews others) = λ i. Root view (bare_paths (above ++ k ∷ []) 0 subviews i) (bare_paths above (suc k) others i)

next_placed : (p : PlacedView) (ps : List PlacedView) → put_back (placed_forest (p ∷ ps)) ≡ join (assembled (tree_of p.view)) (put_back (placed_forest ps))
next_placed p ps = λ i. Root p.view.root.first (fill p.view.root.below (assembled (bare_paths p.path 0 p.view.below i))) (put_back (placed_forest ps))

pub placed_step : (ps : List PlacedView) (i : ℕ) (p : PlacedView) (all out new tree : Actions) → i < length ps → p ≡ get_or ps i p
    → new ≡ join out tree → tree ≡ assembled (tree_of p.view)
    → join out (put_back (placed_forest (drop i ps))) ≡ all → join new (put_back (placed_forest (drop (i + 1) ps))) ≡ all
placed_step ps i p all out new tree h at grown put before =
    let rest = put_back (placed_forest (drop (i + 1) ps)) in
    let next : put_back (placed_forest (drop i ps)) ≡ join (assembled (tree_of p.view)) rest = rw (drop_more ps i p h, ← at) (next_placed p (drop (i + 1) ps)) in
    ap (λ (x : Actions). join x rest) grown ∙ (join-assoc out tree rest ∙ ((λ k. join out (join (put k) rest)) ∙ (ap (join out) (sym next) ∙ before)))

pub placed_end : (ps : List PlacedView) (i : ℕ) (all out : Actions) → length ps ≤ i → join out (put_back (placed_forest (drop i ps))) ≡ all → out ≡ all
placed_end ps i all out past before = sym (join-end out) ∙ (rw (drop_of_length-le ps past) at before)

-- ---- nodes

abbrev Tree : Type 0
Tree = Act × Actions

pub nodes_pushed : (ns : List (Bor ActionNode)) (n : Bor ActionNode) → trees_in (ns ++ n ∷ []) ≡ trees_in ns ++ (n.now.root, n.now.below) ∷ []
nodes_pushed ns n = map-append (λ (node : Bor ActionNode). (node.now.root, node.now.below)) ns (n ∷ [])

pub acts_pushed : (ns : List (Bor ActionNode)) (n : Bor ActionNode) → acts_of (ns ++ n ∷ []) ≡ acts_of ns ++ n.now.root ∷ []
acts_pushed ns n = map-append (λ (node : Bor ActionNode). node.now.root) ns (n ∷ [])

pub gather_step : (ns : List ActionNode) (i : ℕ) (n : ActionNode) (all old pushed new : List Tree) → i < length ns → n ≡ get_or ns i n
    → pushed ≡ old ++ (n.root, n.below) ∷ [] → new ≡ pushed ++ trees_of n.below
    → old ++ trees_of (forest_of (drop i ns)) ≡ all → new ++ trees_of (forest_of (drop (i + 1) ns)) ≡ all
gather_step ns i n all old pushed new h at push grown before =
    let rest = trees_of (forest_of (drop (i + 1) ns)) in
    let next : trees_of (forest_of (drop i ns)) ≡ (n.root, n.below) ∷ (trees_of n.below ++ rest) = rw (drop_more ns i n h, ← at) refl in
    ap (λ (x : List Tree). x ++ rest) (grown ∙ ap (λ (x : List Tree). x ++ trees_of n.below) push)
    ∙ (append_assoc (old ++ (n.root, n.below) ∷ []) (trees_of n.below) rest
    ∙ (append_assoc old ((n.root, n.below) ∷ []) (trees_of n.below ++ rest)
    ∙ (ap (λ (x : List Tree). old ++ x) (sym next) ∙ before)))

pub gather_end : (ns : List ActionNode) (i : ℕ) (all old : List Tree) → length ns ≤ i → old ++ trees_of (forest_of (drop i ns)) ≡ all → old ≡ all
gather_end ns i all old past before = sym (append-nil old) ∙ (rw (drop_of_length-le ns past) at before)
