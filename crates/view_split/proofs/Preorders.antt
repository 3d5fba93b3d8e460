-- The actions of what views are put back to, one child of a core and one view at a time.
use Rattle.std.proofs.Common.{◌≡◌, ℕ, zero, suc, ◌+◌, ◌<◌, ◌≤◌, List, [], ◌∷◌, ◌++◌, length, get_or, drop, refl, sym, ◌∙◌, ap, arith, append-nil, append_assoc}
use Rattle.std.proofs.lemmas.List.{drop_more}
use Rattle.std.proofs.Math.ListN.{drop_of_length-le}
use Rattle.ledger_terms.specs.Forest.{Forest, NoRoots, Root}
use Rattle.ledger_terms.specs.Grown.{forest_of, tree_of}
use Rattle.ledger_terms.specs.Trees.{Actions}
use Rattle.ledger_terms.specs.declared.act.Act.{Act}
use Rattle.ledger_model.specs.Forest.{acts}
use Rattle.view_split.specs.Holed.{Holed, NoMore, fill, after_holes}
use Rattle.view_split.specs.Holed as holed
use Rattle.view_split.specs.CoreLists.{act_of, children_of, core_weight}
use Rattle.view_split.specs.Placed.{placed_forest}
use Rattle.view_split.specs.SeenViews.{put_back}
use Rattle.view_split.specs.Split.{assembled}
use Rattle.view_split.specs.ViewTrees.{View}
use Rattle.view_split.specs.declared.core_node.CoreNode.{CoreNode}
use Rattle.view_split.specs.declared.core_node.CoreChild.{CoreChild}
use Rattle.view_split.specs.declared.core_node.CoreChild.TheVariants.{Inner, Hole}
use Rattle.view_split.specs.declared.placed_view.PlacedView.{PlacedView}
use Rattle.view_split.specs.declared.split_view.SplitView.{SplitView}
use Rattle.view_split.proofs.Filling.{next_child, after_none}
use Rattle.view_split.proofs.Sight.{without_paths}

-- what there is in views: more than in any core of them and in the views below it
abbrev pub views_weight : Forest SplitView → ℕ
views_weight NoRoots = 0
views_weight (Root view subviews others) = 3 + core_weight view.below + views_weight subviews + views_weight others

pub view_within : (vs : List View) (i : ℕ) (d : View) → i < length vs → views_weight (tree_of (get_or vs i d)) ≤ views_weight (forest_of vs)
view_within [] i d h = absurd (omega arith)
view_within (v ∷ vs) zero d h = omega arith
view_within (v ∷ vs) (suc i) d h = omega (arith, view_within vs i d (omega arith))

-- ---- children of a core

-- what the loop keeps: what is still to come gives all actions, and leaves what the whole core leaves
abbrev pub Lists : (cs : List CoreChild) (i : ℕ) (found : List Act) (trees : Actions) (all : List Act) (left : Actions) → Type 0
Lists cs i found trees all left = (found ++ acts (fill (children_of (drop i cs)) trees) ≡ all) × (after_holes (children_of (drop i cs)) trees ≡ left)

pub list_inner : (cs : List CoreChild) (i : ℕ) (c : CoreChild) (node : CoreNode) (found pushed new all : List Act) (trees rest left : Actions)
    → i < length cs → c ≡ get_or cs i c → c ≡ Inner node
    → pushed ≡ found ++ act_of node ∷ [] → new ≡ pushed ++ acts (fill node.children trees) → rest ≡ after_holes node.children trees
    → Lists cs i found trees all left → Lists cs (i + 1) new rest all left
list_inner cs i c node found pushed new all trees rest left h at is push grown taken keeps =
    let next = next_child cs i c (Inner node) h at is in
    let more = children_of (drop (i + 1) cs) in
    let below = acts (fill node.children trees) in
    let after = acts (fill more (after_holes node.children trees)) in (
      ap (λ (x : Actions). new ++ acts (fill more x)) taken
          ∙ (ap (λ (x : List Act). x ++ after) (grown ∙ ap (λ (x : List Act). x ++ below) push)
          ∙ (append_assoc (found ++ act_of node ∷ []) below after
          ∙ (append_assoc found (act_of node ∷ []) (below ++ after)
          ∙ (ap (λ (x : Holed Act). found ++ acts (fill x trees)) (sym next) ∙ keeps.0)))),
      ap (after_holes more) taken ∙ (ap (λ (x : Holed Act). after_holes x trees) (sym next) ∙ keeps.1),
    )

taken_first : (more : Holed Act) (trees : Actions) → acts (fill (holed.Hole NoMore) trees) ++ acts (fill more (after_holes (holed.Hole NoMore) trees)) ≡ acts (fill (holed.Hole more) trees)
taken_first more NoRoots = refl
taken_first more (Root act below rest) = ap (λ (x : List Act). act ∷ (x ++ acts (fill more rest))) (append-nil (acts below))

left_first : (more : Holed Act) (trees : Actions) → after_holes more (after_holes (holed.Hole NoMore) trees) ≡ after_holes (holed.Hole more) trees
left_first more NoRoots = after_none more
left_first more (Root act below rest) = refl

pub list_hole : (cs : List CoreChild) (i : ℕ) (c : CoreChild) (found new all : List Act) (trees rest left : Actions)
    → i < length cs → c ≡ get_or cs i c → c ≡ Hole
    → new ≡ found ++ acts (fill (holed.Hole NoMore) trees) → rest ≡ after_holes (holed.Hole NoMore) trees
    → Lists cs i found trees all left → Lists cs (i + 1) new rest all left
list_hole cs i c found new all trees rest left h at is grown taken keeps =
    let next = next_child cs i c Hole h at is in
    let more = children_of (drop (i + 1) cs) in
    let first = acts (fill (holed.Hole NoMore) trees) in
    let after = acts (fill more (after_holes (holed.Hole NoMore) trees)) in (
      ap (λ (x : Actions). new ++ acts (fill more x)) taken
          ∙ (ap (λ (x : List Act). x ++ after) grown
          ∙ (append_assoc found first after
          ∙ (ap (λ (x : List Act). found ++ x) (taken_first more trees)
          ∙ (ap (λ (x : Holed Act). found ++ acts (fill x trees)) (sym next) ∙ keeps.0)))),
      ap (after_holes more) taken ∙ (left_first more trees ∙ (ap (λ (x : Holed Act). after_holes x trees) (sym next) ∙ keeps.1)),
    )

pub listed_end : (cs : List CoreChild) (i : ℕ) (found all : List Act) (trees left : Actions) → length cs ≤ i → Lists cs i found trees all left → (found ≡ all) × (trees ≡ left)
listed_end cs i found all trees left past keeps =
    let over : children_of (drop i cs) ≡ NoMore = rw (drop_of_length-le cs past) refl in (
      sym (append-nil found) ∙ (ap (λ (x : Holed Act). found ++ acts (fill x trees)) (sym over) ∙ keeps.0),
      ap (λ (x : Holed Act). after_holes x trees) (sym over) ∙ keeps.1,
    )

-- ---- views with paths

next_placed : (p : PlacedView) (ps : List PlacedView) → acts (put_back (placed_forest (p ∷ ps))) ≡ acts (assembled (tree_of p.view)) ++ acts (put_back (placed_forest ps))
next_placed p ps =
    let rest = acts (put_back (placed_forest ps)) in
    (λ i. p.view.root.first ∷ (acts (fill p.view.root.below (assembled (without_paths p.path 0 p.view.below i))) ++ rest))
    ∙ sym (ap (λ (x : List Act). p.view.root.first ∷ (x ++ rest)) (append-nil (acts (fill p.view.root.below (assembled p.view.below)))))

pub placed_step : (ps : List PlacedView) (i : ℕ) (p : PlacedView) (found new all : List Act) → i < length ps → p ≡ get_or ps i p
    → new ≡ found ++ acts (assembled (tree_of p.view))
    → found ++ acts (put_back (placed_forest (drop i ps))) ≡ all → new ++ acts (put_back (placed_forest (drop (i + 1) ps))) ≡ all
placed_step ps i p found new all h at grown before =
    let rest = acts (put_back (placed_forest (drop (i + 1) ps))) in
    let first = acts (assembled (tree_of p.view)) in
    let next : acts (put_back (placed_forest (drop i ps))) ≡ first ++ rest = rw (drop_more ps i p h, ← at) (next_placed p (drop (i + 1) ps)) in
    ap (λ (x : List Act). x ++ rest) grown ∙ (append_assoc found first rest ∙ (ap (λ (x : List Act). found ++ x) (sym next) ∙ before))

pub placed_end : (ps : List PlacedView) (i : ℕ) (found all : List Act) → length ps ≤ i → found ++ acts (put_back (placed_forest (drop i ps))) ≡ all → found ≡ all
placed_end ps i found all past before = sym (append-nil found) ∙ (rw (drop_of_length-le ps past) at before)
