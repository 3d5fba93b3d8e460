-- What is opened of a tree: each view has as many holes as views stand directly below it, and paths rise.
use Rattle.std.proofs.Common.{◌≡◌, ℕ, suc, Bool, List, [], ◌∷◌, ◌++◌, Ok, refl, sym, ap, ◌∙◌, subst, inl, inr}
use Rattle.std.specs.Prelude.{if◌then◌else◌}
use Rattle.std.proofs.lemmas.Bool.{cases_Bool}
use Rattle.ledger_terms.specs.Forest.{Forest, NoRoots, join}
use Rattle.ledger_terms.specs.Grown.{tree_of}
use Rattle.ledger_terms.specs.Roots.{trees_count}
use Rattle.view_split.specs.Filled.{AreFilled}
use Rattle.view_split.specs.Numbered.{map_forest}
use Rattle.view_split.specs.Placed.{placed_forest}
use Rattle.view_split.specs.ViewTrees.{View}
use Rattle.view_split.specs.declared.opened_tree.OpenedTree.{OpenedTree}
use Rattle.view_split.specs.declared.placed_view.PlacedView.{PlacedView}
use Rattle.view_split.specs.declared.split_view.SplitView.{SplitView}
use Rattle.view_split.proofs.Sight.{without_paths}
use Rattle.blind_tree.specs.OpenedFor.{are_listed, is_listed, missing, views_listed}
use Rattle.blind_tree.specs.Opening.{parts_read, placed, view_of, view_read, views_read, with_read}
use Rattle.blind_tree.specs.Vertices.{Vertices, NoVertices, BlindVertex, InnerVertex, count}
use Rattle.blind_tree.specs.declared.leaf.Leaf.{Leaf}
use Rattle.blind_tree.specs.declared.tree.Tree.{Tree}
use Rattle.framed_form.proofs.Lying.{done, if_there, read_ok, same_ok}
use Rattle.framed_form.proofs.There.{holes_are}
use Rattle.framed_form.proofs.Wholes.{Opens}

filled_views : (v : Vertices) (f : Forest SplitView) → views_read v ≡ Ok f → AreFilled f × (trees_count f ≡ count v)
filled_views NoVertices f e = subst (λ (g : Forest SplitView). AreFilled g × (trees_count g ≡ 0)) (same_ok NoRoots f e) (tt, refl)
filled_views (BlindVertex hash others) f e = absurd cc
filled_views (InnerVertex i c s o) f e =
    let parts = read_ok (parts_read i c (count s)) _ f e in
    let under = read_ok (views_read s) _ f parts.2 in
    let after = read_ok (views_read o) _ f under.2 in
    let u = filled_views s under.0 under.1 in
    let a = filled_views o after.0 after.1 in
    subst (λ (g : Forest SplitView). AreFilled g × (trees_count g ≡ suc (count o))) (same_ok (join (tree_of (view_of parts.0 under.0)) after.0) f after.2)
    ((holes_are i c (count s) parts.0 parts.1 ∙ sym u.1, u.0, a.0), ap suc a.1)

filled_view : (i c : Leaf) (s : Vertices) (view : View) → view_read i c s ≡ Ok view → AreFilled (tree_of view)
filled_view i c s view e =
    let parts = read_ok (parts_read i c (count s)) _ view e in
    let under = read_ok (views_read s) _ view parts.2 in
    let u = filled_views s under.0 under.1 in
    subst (λ (w : View). AreFilled (tree_of w)) (same_ok (view_of parts.0 under.0) view under.2) (holes_are i c (count s) parts.0 parts.1 ∙ sym u.1, u.0, tt)

abbrev AllFilled : List PlacedView → Type 0
AllFilled [] = Unit {0}
AllFilled (p ∷ ps) = AreFilled (tree_of p.view) × AllFilled ps

all_append : (ps qs : List PlacedView) → AllFilled ps → AllFilled qs → AllFilled (ps ++ qs)
all_append [] qs h i = i
all_append (p ∷ ps) qs h i = (h.0, all_append ps qs h.1 i)

listed_filled : (listed : List ℕ → Bool) (above : List ℕ) (k : ℕ) (v : Vertices) (ps : List PlacedView) → views_listed listed above k v ≡ Ok ps → AllFilled ps
listed_filled listed above k NoVertices ps e = subst AllFilled (same_ok [] ps e) tt
listed_filled listed above k (BlindVertex hash others) ps e =
    elim (cases_Bool (listed (above ++ k ∷ []))) [
      | inl is ↦ (let none : missing ≡ done ps = rw is at e in absurd (not_there ps none))
      | inr out ↦ (let more : views_listed listed above (suc k) others ≡ Ok ps = rw out at e in listed_filled listed above (suc k) others ps more)
    ]
  where
    not_there : {A : Type 0} (x : A) → missing ≡ done x → ⊥
    not_there x h = cc
listed_filled listed above k (InnerVertex i c s o) ps e =
    let path = above ++ k ∷ [] in
    elim (cases_Bool (listed path)) [
      | inl is ↦
          (let e1 : (if are_listed listed path 0 s then with_read (view_read i c s) (λ (view : View). with_read (views_listed listed above (suc k) o) (λ (more : List PlacedView). done (placed path view ∷ more))) else missing) ≡ Ok ps = rw is at e in
          let all = if_there (are_listed listed path 0 s) _ ps e1 in
          let view = read_ok (view_read i c s) _ ps all.1 in
          let more = read_ok (views_listed listed above (suc k) o) _ ps view.2 in
          subst AllFilled (same_ok (placed path view.0 ∷ more.0) ps more.2) (filled_view i c s view.0 view.1, listed_filled listed above (suc k) o more.0 more.1))
      | inr out ↦
          (let e1 : with_read (views_listed listed path 0 s) (λ (first : List PlacedView). with_read (views_listed listed above (suc k) o) (λ (more : List PlacedView). done (first ++ more))) ≡ Ok ps = rw out at e in
          let first = read_ok (views_listed listed path 0 s) _ ps e1 in
          let more = read_ok (views_listed listed above (suc k) o) _ ps first.2 in
          subst AllFilled (same_ok (first.0 ++ more.0) ps more.2) (all_append first.0 more.0 (listed_filled listed path 0 s first.0 first.1) (listed_filled listed above (suc k) o more.0 more.1)))
    ]

placed_filled : (ps : List PlacedView) → AllFilled ps → AreFilled (map_forest (λ (v : List ℕ × SplitView). v.1) (placed_forest ps))
placed_filled [] h = tt
placed_filled (p ∷ ps) h =
    let same = without_paths p.path 0 (p.view).below in
    ((h.0.0 ∙ ap trees_count (sym same)), subst AreFilled (sym same) h.0.1, placed_filled ps h.1)

-- the views that a tree opens are filled
pub opened_filled : (seen : List (List ℕ)) (wanted : Bool) (t : Tree) (opened : OpenedTree) → Opens seen wanted t opened
    → AreFilled (map_forest (λ (v : List ℕ × SplitView). v.1) (placed_forest opened.views))
opened_filled seen wanted t opened opens = placed_filled opened.views (listed_filled (is_listed seen) [] 0 t.views opened.views opens.views)
