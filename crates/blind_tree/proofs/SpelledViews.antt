-- Each view that is opened can be spelled again.
use Rattle.std.proofs.Common.{◌≡◌, ℕ, zero, suc, ◌≤◌, List, [], ◌∷◌, ◌++◌, length, Result, Ok, Err, refl, ap, subst, inl, inr, arith}
use Rattle.std.specs.Prelude.{All, nat_eq}
use Rattle.std.specs.List.{AllByRecursion}
use Rattle.std.proofs.lemmas.Bool.{cases_Bool}
use Rattle.std.proofs.lemmas.List.Elements.{All-from_recursion}
use Rattle.ledger_terms.specs.declared.act.Act.{Act}
use Rattle.ledger_terms.specs.declared.action.Action.{Action}
use Rattle.ledger_terms.specs.Forest.{Forest, NoRoots, join}
use Rattle.ledger_terms.specs.Roots.{trees_count}
use Rattle.wire_form.specs.Formats.{◌>>=◌, Reading, both_at, counted_at, any_item}
use Rattle.wire_form.specs.Fields.{count_at, hash_at}
use Rattle.wire_form.specs.Reading.{action_at, set_at}
use Rattle.wire_form.specs.Spellable.{IsSpellableAction, IsSpellableSet}
use Rattle.wire_form.proofs.FormatLaws.{ok_is}
use Rattle.wire_form.proofs.Bounded.{Gives, action_gives, anything, both_give, count_gives, counted_give, seen_gives, set_gives}
use Rattle.view_split.specs.Holed.{Holed, holes, width}
use Rattle.view_split.specs.declared.split_view.SplitView.{SplitView}
use Rattle.view_split.specs.CoreLists.{act_of, children_of}
use Rattle.ledger_terms.specs.Grown.{tree_of}
use Rattle.view_split.specs.declared.core_node.CoreNode.{CoreNode}
use Rattle.view_split.specs.declared.core_node.CoreChild.{CoreChild}
use Rattle.view_split.specs.declared.core_node.CoreChild.TheVariants as children
use Rattle.view_split.specs.ViewTrees.{View}
use Rattle.view_split.specs.declared.placed_view.PlacedView.{PlacedView}
use Rattle.view_split.specs.declared.opened_tree.OpenedTree.{OpenedTree}
use Rattle.blind_tree.specs.Vertices.{Vertices, NoVertices, BlindVertex, InnerVertex, count, AreNarrow, IsNarrow}
use Rattle.blind_tree.specs.Cores.{AreSpellableChildren, IsSpellableCore, levels}
use Rattle.blind_tree.specs.LeafBytes.{AreSpellableViews}
use Rattle.blind_tree.specs.CoreReading.{NodeParts, node_of, children_with, node_with, tagged_child_at, tagged_hole_at, hole_at, child_at, node_at, core_at}
use Rattle.blind_tree.specs.Reading.{ended, with_place}
use Rattle.blind_tree.specs.Opening.{with_read, read_leaf, head_at, roles_at, read_if_plain, is_open, ViewParts, view_of, parts_read, views_read, view_read, placed, views_opened, tree_opened}
use Rattle.blind_tree.specs.declared.leaf.Leaf.{Leaf}
use Rattle.blind_tree.specs.declared.leaf.Leaf.TheVariants.{Blind, Plain}
use Rattle.blind_tree.specs.declared.tree.Tree.{Tree}
use Rattle.blind_tree.proofs.FilledLaws.{all_filled, done, read_ok, same_ok, tested}

-- ---- cores

abbrev HasRoom : ℕ → CoreChild → Type 0
HasRoom n (children.Inner core) = (suc (levels core.children) ≤ n) × IsSpellableCore (act_of core) core.children
HasRoom n children.Hole = Unit {0}

record HaveRoom (n : ℕ) (h : Holed Act) : Type 0 where
  few : width h ≤ 63
  nested : levels h ≤ n
  each : AreSpellableChildren h

width_of : (cs : List CoreChild) → width (children_of cs) ≡ length cs
width_of [] = refl
width_of (children.Inner core ∷ cs) = ap suc (width_of cs)
width_of (children.Hole ∷ cs) = ap suc (width_of cs)

rooms : (n : ℕ) (cs : List CoreChild) → AllByRecursion (HasRoom n) cs → (levels (children_of cs) ≤ n) × AreSpellableChildren (children_of cs)
rooms n [] all = (omega arith, tt)
rooms n (children.Inner core ∷ cs) all =
    let r = rooms n cs all.1 in
    (omega (arith, all.0.0, r.0), (all.0.1.action, all.0.1.few, all.0.1.children, r.1))
rooms n (children.Hole ∷ cs) all = rooms n cs all.1

have_room : (n : ℕ) (cs : List CoreChild) → (length cs ≤ 63) × AllByRecursion (HasRoom n) cs → HaveRoom n (children_of cs)
have_room n cs h = let r = rooms n cs h.1 in record { few = omega (arith, width_of cs, h.0); nested = r.0; each = r.1 }

record IsNodeWithin (n : ℕ) (core : CoreNode) : Type 0 where
  spellable : IsSpellableCore (act_of core) core.children
  nested : levels core.children ≤ n

node_within : (n : ℕ) (parts : NodeParts) → (IsSpellableAction parts.0.1) × HaveRoom n parts.1 → IsNodeWithin n (node_of parts)
node_within n parts h = record { spellable = record { action = h.0; few = h.1.few; children = h.1.each }; nested = h.1.nested }

module _ (n : ℕ) (each : Gives (HasRoom n) (child_at n)) where
  children_give : Gives (HaveRoom n) (children_with (child_at n))
  children_give =
      seen_gives children_of (counted_at (count_at 63) any_item (child_at n)) (HaveRoom n)
      (λ bytes x e. have_room n x.0 (counted_give (HasRoom n) any_item (child_at n) each 63 (count_at 63) (count_gives 63) bytes x e))

  act_gives : Gives (λ (p : List ℕ × Action). IsSpellableAction p.1) (both_at hash_at action_at)
  act_gives bytes x e = (both_give (λ h. Unit {0}) hash_at IsSpellableAction action_at (anything hash_at) action_gives bytes x e).1

  node_gives : Gives (IsNodeWithin n) (node_with (child_at n))
  node_gives =
      seen_gives node_of (both_at (both_at hash_at action_at) (children_with (child_at n))) (IsNodeWithin n)
      (λ bytes x e. node_within n x.0 (both_give (λ (p : List ℕ × Action). IsSpellableAction p.1) (both_at hash_at action_at) (HaveRoom n) (children_with (child_at n)) act_gives children_give bytes x e))

last_gives : Gives (HasRoom 0) (child_at 0)
unfolding child_at hole_at tagged_hole_at
last_gives [] x e = absurd cc
last_gives (zero ∷ rest) x e = absurd cc
last_gives (suc zero ∷ rest) x e = subst (λ (y : CoreChild × List ℕ). HasRoom 0 y.0) (ok_is (children.Hole, rest) x e) tt
last_gives (suc (suc k) ∷ rest) x e = absurd cc

inner_room : (n : ℕ) (core : CoreNode) → IsNodeWithin n core → HasRoom (suc n) (children.Inner core)
inner_room n core h = (omega (arith, h.nested), h.spellable)

next_gives : (n : ℕ) → Gives (HasRoom n) (child_at n) → Gives (HasRoom (suc n)) (child_at (suc n))
unfolding child_at tagged_child_at
next_gives n each [] x e = absurd cc
next_gives n each (zero ∷ rest) x e =
    seen_gives children.Inner (node_with (child_at n)) (HasRoom (suc n)) (λ bytes y d. inner_room n y.0 (node_gives n each bytes y d)) rest x e
next_gives n each (suc zero ∷ rest) x e = subst (λ (y : CoreChild × List ℕ). HasRoom (suc n) y.0) (ok_is (children.Hole, rest) x e) tt
next_gives n each (suc (suc k) ∷ rest) x e = absurd cc

child_gives : (n : ℕ) → Gives (HasRoom n) (child_at n)
child_gives zero = last_gives
child_gives (suc n) = next_gives n (child_gives n)

core_gives : Gives (IsNodeWithin 15) core_at
unfolding core_at node_at
core_gives = node_gives 15 (child_gives 15)

sets_give : Gives (λ (p : List (List ℕ) × List (List ℕ)). IsSpellableSet p.0 × IsSpellableSet p.1) roles_at
unfolding roles_at
sets_give = both_give IsSpellableSet set_at IsSpellableSet set_at set_gives set_gives

-- ---- leaves

all_read : {A : Type 0} (len : ℕ) (q : Result (A × List ℕ) ℕ) (x : A) → with_place len (q >>= λ y. ended y.0 y.1) ≡ done x → (rest : List ℕ) × (q ≡ Ok (x, rest))
all_read len (Ok (y, [])) x e = ([], cc)
all_read len (Ok (y, b ∷ more)) x e = absurd cc
all_read len (Err n) x e = absurd cc

leaf_gives : {A : Type 0} (Is : A → Type 0) (read : Reading A) → Gives Is read → (leaf : Leaf) (x : A) → read_leaf read leaf ≡ Ok x → Is x
leaf_gives Is read h (Blind hash) x e = absurd cc
leaf_gives Is read h (Plain salt bytes) x e = let r = all_read (length bytes) (read bytes) x e in h bytes (x, r.0) r.1

-- ---- views

parts_room : (informees contents : Leaf) (n : ℕ) (parts : ViewParts) (below : Forest SplitView) → parts_read informees contents n ≡ Ok parts
    → AreSpellableViews below → trees_count below ≤ 65536 → AreSpellableViews (tree_of (view_of parts below))
parts_room informees contents n parts below e each few =
    let sets = read_ok (read_leaf roles_at informees) _ parts e in
    let core = read_ok (read_leaf core_at contents) _ parts sets.2 in
    let test = tested (nat_eq (holes (core.0).children) n) (done (sets.0, core.0)) _ parts core.2 in
    let s = leaf_gives (λ (p : List (List ℕ) × List (List ℕ)). IsSpellableSet p.0 × IsSpellableSet p.1) roles_at sets_give informees sets.0 sets.1 in
    let k = leaf_gives (IsNodeWithin 15) core_at core_gives contents core.0 core.1 in
    subst (λ (p : ViewParts). AreSpellableViews (tree_of (view_of p below))) (same_ok (sets.0, core.0) parts test.1)
    (record { informees_are = s.0; confirmers_are = s.1; core = k.spellable; nested = k.nested }, few, each, tt)

all_room : (v : Vertices) (f : Forest SplitView) → AreNarrow v → views_read v ≡ Ok f → AreSpellableViews f
all_room NoVertices f narrow e = subst AreSpellableViews (same_ok NoRoots f e) tt
all_room (BlindVertex hash others) f narrow e = absurd cc
all_room (InnerVertex informees contents subviews others) f narrow e =
    let parts = read_ok (parts_read informees contents (count subviews)) _ f e in
    let below = read_ok (views_read subviews) _ f parts.2 in
    let rest = read_ok (views_read others) _ f below.2 in
    let few : trees_count below.0 ≤ 65536 = let c = (all_filled subviews below.0 below.1).count_is in omega (arith, c, narrow.0) in
    let one = parts_room informees contents (count subviews) parts.0 below.0 parts.1 (all_room subviews below.0 narrow.1 below.1) few in
    subst AreSpellableViews (same_ok (join (tree_of (view_of parts.0 below.0)) rest.0) f rest.2) (one.0, one.1, one.2, all_room others rest.0 narrow.2 rest.1)

view_room : (informees contents : Leaf) (subviews : Vertices) (view : View) → count subviews ≤ 65536 → AreNarrow subviews → view_read informees contents subviews ≡ Ok view
    → AreSpellableViews (tree_of view)
view_room informees contents subviews view most narrow e =
    let parts = read_ok (parts_read informees contents (count subviews)) _ view e in
    let below = read_ok (views_read subviews) _ view parts.2 in
    let few : trees_count below.0 ≤ 65536 = let c = (all_filled subviews below.0 below.1).count_is in omega (arith, c, most) in
    subst (λ (w : View). AreSpellableViews (tree_of w)) (same_ok (view_of parts.0 below.0) view below.2)
    (parts_room informees contents (count subviews) parts.0 below.0 parts.1 (all_room subviews below.0 narrow below.1) few)

abbrev PlacedRoom : PlacedView → Type 0
PlacedRoom p = AreSpellableViews (tree_of p.view)

room_append : (ps qs : List PlacedView) → AllByRecursion PlacedRoom ps → AllByRecursion PlacedRoom qs → AllByRecursion PlacedRoom (ps ++ qs)
room_append [] qs h i = i
room_append (p ∷ ps) qs h i = (h.0, room_append ps qs h.1 i)

opened_room : (above : List ℕ) (k : ℕ) (v : Vertices) (ps : List PlacedView) → AreNarrow v → views_opened above k v ≡ Ok ps → AllByRecursion PlacedRoom ps
opened_room above k NoVertices ps narrow e = subst (AllByRecursion PlacedRoom) (same_ok [] ps e) tt
opened_room above k (BlindVertex hash others) ps narrow e = opened_room above (suc k) others ps narrow e
opened_room above k (InnerVertex informees contents subviews others) ps narrow e =
    let path = above ++ k ∷ [] in
    elim (cases_Bool (is_open informees contents)) [
      | inl both ↦
          let e' : with_read (view_read informees contents subviews) (λ view. with_read (views_opened above (suc k) others) (λ rest. done (placed path view ∷ rest))) ≡ done ps = rw both at e in
          let view = read_ok (view_read informees contents subviews) _ ps e' in
          let rest = read_ok (views_opened above (suc k) others) _ ps view.2 in
          subst (AllByRecursion PlacedRoom) (same_ok (placed path view.0 ∷ rest.0) ps rest.2)
          (view_room informees contents subviews view.0 narrow.0 narrow.1 view.1, opened_room above (suc k) others rest.0 narrow.2 rest.1)
      | inr not_both ↦
          let e' : with_read (views_opened path 0 subviews) (λ first. with_read (views_opened above (suc k) others) (λ rest. done (first ++ rest))) ≡ done ps = rw not_both at e in
          let first = read_ok (views_opened path 0 subviews) _ ps e' in
          let rest = read_ok (views_opened above (suc k) others) _ ps first.2 in
          subst (AllByRecursion PlacedRoom) (same_ok (first.0 ++ rest.0) ps rest.2)
          (room_append first.0 rest.0 (opened_room path 0 subviews first.0 narrow.1 first.1) (opened_room above (suc k) others rest.0 narrow.2 rest.1))
    ]

pub views_have_room : (tree : Tree) (opened : OpenedTree) → IsNarrow tree.views → tree_opened tree ≡ Ok opened → All (λ (p : PlacedView). AreSpellableViews (tree_of p.view)) opened.views
views_have_room tree opened narrow e =
    let head = read_ok (read_leaf head_at tree.common) _ opened e in
    let requesters = read_ok (read_if_plain set_at tree.requesters) _ opened head.2 in
    let views = read_ok (views_opened [] 0 tree.views) _ opened requesters.2 in
    let same = ap (λ (t : OpenedTree). t.views) (same_ok (record { sender = (head.0).0; ledger_time = (head.0).1; requesters = requesters.0; views = views.0 }) opened views.2) in
    All-from_recursion PlacedRoom opened.views (subst (AllByRecursion PlacedRoom) same (opened_room [] 0 tree.views views.0 narrow.1 views.1))
