-- Each view that is opened has as many holes as views stand directly below it.
use Rattle.std.proofs.Common.{◌≡◌, ℕ, suc, Bool, true, false, List, [], ◌∷◌, ◌++◌, Result, Ok, Err, refl, sym, ap, subst, ◌∙◌, inl, inr}
use Rattle.std.specs.Prelude.{nat_eq, if◌then◌else◌}
use Rattle.std.proofs.lemmas.Bool.{cases_Bool}
use Rattle.std.proofs.lemmas.Bool.Decides.{Decides-eqb}
use Rattle.ledger_terms.specs.Forest.{Forest, NoRoots, join}
use Rattle.ledger_terms.specs.Roots.{trees_count}
use Rattle.wire_form.specs.Reading.{set_at}
use Rattle.wire_form.specs.declared.wire_fault.WireFault.{WireFault}
use Rattle.view_split.specs.Holed.{holes}
use Rattle.view_split.specs.declared.split_view.SplitView.{SplitView}
use Rattle.view_split.specs.Filled.{AreFilled}
use Rattle.view_split.specs.Numbered.{map_forest}
use Rattle.view_split.specs.Placed.{placed_forest}
use Rattle.ledger_terms.specs.Grown.{tree_of}
use Rattle.view_split.specs.ViewTrees.{View}
use Rattle.view_split.specs.declared.placed_view.PlacedView.{PlacedView}
use Rattle.view_split.specs.declared.opened_tree.OpenedTree.{OpenedTree}
use Rattle.blind_tree.specs.Vertices.{Vertices, NoVertices, BlindVertex, InnerVertex, count}
use Rattle.blind_tree.specs.CoreReading.{core_at}
use Rattle.blind_tree.specs.Opening.{with_read, read_leaf, head_at, roles_at, read_if_plain, is_open, ViewParts, view_of, parts_read, views_read, view_read, placed, views_opened, tree_opened}
use Rattle.blind_tree.specs.declared.leaf.Leaf.{Leaf}
use Rattle.blind_tree.specs.declared.tree.Tree.{Tree}
use Rattle.blind_tree.proofs.OpensLaws.{paths_bare}

abbrev pub done : {A : Type 0} → A → Result A WireFault
done x = Ok x

-- the value of a step that did not fail
pub read_ok : {A B : Type 0} (r : Result A WireFault) (go : A → Result B WireFault) (y : B) → with_read r go ≡ Ok y → (x : A) × (r ≡ Ok x) × (go x ≡ Ok y)
read_ok (Ok x) go y e = (x, refl, e)
read_ok (Err fault) go y e = absurd cc

pub same_ok : {A : Type 0} (x y : A) → done x ≡ done y → x ≡ y
same_ok x y e = cc

pub tested : {A : Type 0} (b : Bool) (r : Result A WireFault) (fault : WireFault) (y : A) → (if b then r else Err fault) ≡ Ok y → (b ≡ true) × (r ≡ Ok y)
tested true r fault y e = (refl, e)
tested false r fault y e = absurd cc

parts_hold : (informees contents : Leaf) (n : ℕ) (parts : ViewParts) → parts_read informees contents n ≡ Ok parts → holes (parts.1).children ≡ n
parts_hold informees contents n parts e =
    let sets = read_ok (read_leaf roles_at informees) _ parts e in
    let core = read_ok (read_leaf core_at contents) _ parts sets.2 in
    let test = tested (nat_eq (holes (core.0).children) n) (Ok (sets.0, core.0)) _ parts core.2 in
    ap (λ (p : ViewParts). holes (p.1).children) (sym (same_ok (sets.0, core.0) parts test.1)) ∙ (Decides-eqb (holes (core.0).children) n).0 test.0

pub record Filled (v : Vertices) (f : Forest SplitView) : Type 0 where
  pub count_is : trees_count f ≡ count v
  pub each : AreFilled f

pub all_filled : (v : Vertices) (f : Forest SplitView) → views_read v ≡ Ok f → Filled v f
all_filled NoVertices f e = subst (Filled NoVertices) (same_ok NoRoots f e) (record { count_is = refl; each = tt })
all_filled (BlindVertex hash others) f e = absurd cc
all_filled (InnerVertex informees contents subviews others) f e =
    let parts = read_ok (parts_read informees contents (count subviews)) _ f e in
    let below = read_ok (views_read subviews) _ f parts.2 in
    let rest = read_ok (views_read others) _ f below.2 in
    let b = all_filled subviews below.0 below.1 in
    let r = all_filled others rest.0 rest.1 in
    subst (Filled (InnerVertex informees contents subviews others)) (same_ok (join (tree_of (view_of parts.0 below.0)) rest.0) f rest.2)
    (record { count_is = ap suc r.count_is; each = (parts_hold informees contents (count subviews) parts.0 parts.1 ∙ sym b.count_is, b.each, r.each) })

view_filled : (informees contents : Leaf) (subviews : Vertices) (view : View) → view_read informees contents subviews ≡ Ok view → AreFilled (tree_of view)
view_filled informees contents subviews view e =
    let parts = read_ok (parts_read informees contents (count subviews)) _ view e in
    let below = read_ok (views_read subviews) _ view parts.2 in
    let b = all_filled subviews below.0 below.1 in
    subst (λ (w : View). AreFilled (tree_of w)) (same_ok (view_of parts.0 below.0) view below.2)
    (parts_hold informees contents (count subviews) parts.0 parts.1 ∙ sym b.count_is, b.each, tt)

abbrev AllFilled : List PlacedView → Type 0
AllFilled [] = Unit {0}
AllFilled (p ∷ ps) = AreFilled (tree_of p.view) × AllFilled ps

filled_append : (ps qs : List PlacedView) → AllFilled ps → AllFilled qs → AllFilled (ps ++ qs)
filled_append [] qs h i = i
filled_append (p ∷ ps) qs h i = (h.0, filled_append ps qs h.1 i)

opened_filled : (above : List ℕ) (k : ℕ) (v : Vertices) (ps : List PlacedView) → views_opened above k v ≡ Ok ps → AllFilled ps
opened_filled above k NoVertices ps e = subst AllFilled (same_ok [] ps e) tt
opened_filled above k (BlindVertex hash others) ps e = opened_filled above (suc k) others ps e
opened_filled above k (InnerVertex informees contents subviews others) ps e =
    let path = above ++ k ∷ [] in
    elim (cases_Bool (is_open informees contents)) [
      | inl both ↦
          let e' : with_read (view_read informees contents subviews) (λ view. with_read (views_opened above (suc k) others) (λ rest. done (placed path view ∷ rest))) ≡ done ps = rw both at e in
          let view = read_ok (view_read informees contents subviews) _ ps e' in
          let rest = read_ok (views_opened above (suc k) others) _ ps view.2 in
          subst AllFilled (same_ok (placed path view.0 ∷ rest.0) ps rest.2)
          (view_filled informees contents subviews view.0 view.1, opened_filled above (suc k) others rest.0 rest.1)
      | inr not_both ↦
          let e' : with_read (views_opened path 0 subviews) (λ first. with_read (views_opened above (suc k) others) (λ rest. done (first ++ rest))) ≡ done ps = rw not_both at e in
          let first = read_ok (views_opened path 0 subviews) _ ps e' in
          let rest = read_ok (views_opened above (suc k) others) _ ps first.2 in
          subst AllFilled (same_ok (first.0 ++ rest.0) ps rest.2)
          (filled_append first.0 rest.0 (opened_filled path 0 subviews first.0 first.1) (opened_filled above (suc k) others rest.0 rest.1))
    ]

placed_filled : (ps : List PlacedView) → AllFilled ps → AreFilled (map_forest (λ (v : List ℕ × SplitView). v.1) (placed_forest ps))
placed_filled [] h = tt
placed_filled (p ∷ ps) h = rw (paths_bare p.path 0 (p.view).below) (h.0.0, h.0.1, placed_filled ps h.1)

pub views_are_filled : (tree : Tree) (opened : OpenedTree) → tree_opened tree ≡ Ok opened → AreFilled (map_forest (λ (v : List ℕ × SplitView). v.1) (placed_forest opened.views))
views_are_filled tree opened e =
    let head = read_ok (read_leaf head_at tree.common) _ opened e in
    let requesters = read_ok (read_if_plain set_at tree.requesters) _ opened head.2 in
    let views = read_ok (views_opened [] 0 tree.views) _ opened requesters.2 in
    placed_filled opened.views (subst AllFilled (ap (λ (t : OpenedTree). t.views) (same_ok (record { sender = (head.0).0; ledger_time = (head.0).1; requesters = requesters.0; views = views.0 }) opened views.2)) (opened_filled [] 0 tree.views views.0 views.1))
