-- Each action that is opened can be spelled.
use Rattle.std.proofs.Common.{◌≡◌, ℕ, suc, List, [], ◌∷◌, ◌++◌, Ok, refl, sym, subst, arith}
use Rattle.std.specs.Prelude.{All}
use Rattle.std.proofs.lemmas.List.Elements.{All-append, All-cons, All-contains, All-nil}
use Rattle.ledger_terms.specs.declared.act.Act.{Act}
use Rattle.ledger_terms.specs.Forest.{Forest, NoRoots, Root, paths_from, preorder}
use Rattle.ledger_terms.specs.declared.action.Action.{Action}
use Rattle.ledger_terms.specs.declared.action.Action.TheVariants.{Create, Exercise, Fetch}
use Rattle.ledger_model.specs.Terms.{instance_of}
use Rattle.wire_form.specs.Spellable.{IsSpellableAction, IsSpellableInstance}
use Rattle.view_split.specs.Holed.{Holed, NoMore, Inner, Hole, after_holes, fill}
use Rattle.view_split.specs.Numbered.{map_forest}
use Rattle.view_split.specs.Placed.{placed_forest}
use Rattle.view_split.specs.SeenViews.{put_back}
use Rattle.view_split.specs.Split.{assembled}
use Rattle.view_split.specs.declared.split_view.SplitView.{SplitView}
use Rattle.ledger_terms.specs.Grown.{tree_of}
use Rattle.view_split.specs.declared.opened_tree.OpenedTree.{OpenedTree}
use Rattle.view_split.specs.declared.placed_view.PlacedView.{PlacedView}
use Rattle.blind_tree.specs.Cores.{AreSpellableChildren}
use Rattle.blind_tree.specs.LeafBytes.{AreSpellableViews}
use Rattle.blind_tree.specs.Opening.{tree_opened}
use Rattle.blind_tree.specs.Vertices.{IsNarrow}
use Rattle.blind_tree.specs.declared.tree.Tree.{Tree}
use Rattle.blind_tree.proofs.SpelledViews.{views_have_room}

abbrev pub HasSpelling : Act → Type 0
HasSpelling act = IsSpellableInstance (instance_of act.action)

abbrev Each : Forest Act → Type 0
Each NoRoots = Unit {0}
Each (Root act below others) = HasSpelling act × Each below × Each others

instance_spelled : (a : Action) → IsSpellableAction a → IsSpellableInstance (instance_of a)
instance_spelled (Create id instance) s = s
instance_spelled (Exercise id salt instance choice args actors consuming result) s = s.0
instance_spelled (Fetch id salt instance actors) s = s.0

-- what fills a core, and the trees that are left
filled : (h : Holed Act) (trees : Forest Act) → AreSpellableChildren h → Each trees → Each (fill h trees) × Each (after_holes h trees)
filled NoMore trees s e = (tt, e)
filled (Inner act below others) trees s e =
    let b = filled below trees s.2 e in
    let o = filled others (after_holes below trees) s.3 b.1 in
    ((instance_spelled act.action s.0, b.0, o.0), o.1)
filled (Hole others) NoRoots s e = ((filled others NoRoots s tt).0, tt)
filled (Hole others) (Root act children more) s e =
    let o = filled others more s e.2 in
    ((e.0, e.1, o.0), o.1)

each_assembled : (views : Forest SplitView) → AreSpellableViews views → Each (assembled views)
each_assembled NoRoots s = tt
each_assembled (Root view subviews others) s = (
  instance_spelled (view.first).action (s.0).core.action,
  (filled view.below (assembled subviews) (s.0).core.children (each_assembled subviews s.2)).0,
  each_assembled others s.3,
)

bare_paths : (above : List ℕ) (k : ℕ) (views : Forest SplitView) → map_forest (λ (v : List ℕ × SplitView). v.1) (paths_from above k views) ≡ views
bare_paths above k NoRoots = refl
bare_paths above k (Root view subviews others) = λ i. Root view (bare_paths (above ++ k ∷ []) 0 subviews i) (bare_paths above (suc k) others i)

abbrev AreRoomy : List PlacedView → Type 0
AreRoomy [] = Unit {0}
AreRoomy (p ∷ ps) = AreSpellableViews (tree_of p.view) × AreRoomy ps

roomy : (ps : List PlacedView) → All (λ (p : PlacedView). AreSpellableViews (tree_of p.view)) ps → AreRoomy ps
roomy [] all = tt
roomy (p ∷ ps) all = (
  All-contains (λ (q : PlacedView). AreSpellableViews (tree_of q.view)) (p ∷ ps) p all (0, omega arith, refl),
  roomy ps (λ k d h. all (suc k) d (omega (arith, h))),
)

each_put_back : (ps : List PlacedView) → AreRoomy ps → Each (put_back (placed_forest ps))
each_put_back [] r = tt
each_put_back (p ∷ ps) r =
    let one = each_assembled (tree_of p.view) r.0 in (
      one.0,
      subst (λ (f : Forest SplitView). Each (fill p.view.root.below (assembled f))) (sym (bare_paths p.path 0 p.view.below)) one.1,
      each_put_back ps r.1,
    )

all_of_each : (f : Forest Act) → Each f → All HasSpelling (preorder f)
all_of_each NoRoots e = All-nil HasSpelling
all_of_each (Root act below others) e =
    All-cons HasSpelling act (preorder below ++ preorder others) e.0
    (All-append HasSpelling (preorder below) (preorder others) (all_of_each below e.1) (all_of_each others e.2))

pub opened_acts_have_room : (tree : Tree) (opened : OpenedTree) → IsNarrow tree.views → tree_opened tree ≡ Ok opened
    → All HasSpelling (preorder (put_back (placed_forest opened.views)))
opened_acts_have_room tree opened narrow is = all_of_each (put_back (placed_forest opened.views)) (each_put_back opened.views (roomy opened.views (views_have_room tree opened narrow is)))
