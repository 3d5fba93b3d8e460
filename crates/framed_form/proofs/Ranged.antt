-- What is read of bytes is in range, whoever made them.
use Rattle.std.proofs.Common.{◌≡◌, ◌⊎◌, ℕ, suc, ◌<◌, Bool, List, [], ◌∷◌, ◌++◌, length, Ok, sym, subst, inl, inr}
use Rattle.std.specs.Prelude.{if◌then◌else◌}
use Rattle.std.specs.List.{AllByRecursion}
use Rattle.std.specs.Int.{w16, w32, to_be_bytes}
use Rattle.std.proofs.lemmas.Bool.{cases_Bool}
use Rattle.std.proofs.lemmas.List.Elements.{All-from_recursion, recursion_from_All}
use Rattle.ledger_terms.specs.Forest.{Forest, NoRoots, Root, join, preorder}
use Rattle.ledger_terms.specs.Grown.{tree_of}
use Rattle.ledger_terms.specs.declared.act.Act.{Act}
use Rattle.ledger_model.proofs.Lists.{In, in_append_cases, in_append_left, in_append_right}
use Rattle.wire_form.specs.Formats.{Reading}
use Rattle.wire_form.specs.InRange.{IsAction, IsHash}
use Rattle.wire_form.proofs.FormatLaws.{IsBytes, Reads}
use Rattle.view_split.specs.Holed.{Holed, NoMore, Inner, Hole, after_holes, fill, inner}
use Rattle.view_split.specs.Numbered.{map_forest}
use Rattle.view_split.specs.Placed.{placed_forest}
use Rattle.view_split.specs.SeenViews.{put_back}
use Rattle.view_split.specs.Split.{assembled}
use Rattle.view_split.specs.ViewTrees.{View}
use Rattle.view_split.specs.declared.opened_tree.OpenedTree.{OpenedTree}
use Rattle.view_split.specs.declared.placed_view.PlacedView.{PlacedView}
use Rattle.view_split.specs.declared.split_view.SplitView.{SplitView}
use Rattle.view_split.proofs.Sight.{without_paths}
use Rattle.blind_tree.specs.CoreReading.{core_at}
use Rattle.blind_tree.specs.Cores.{spell_node}
use Rattle.blind_tree.specs.Leaves.{AreRoles, IsNode, spell_roles}
use Rattle.blind_tree.specs.OpenedFor.{are_listed, is_listed, missing, views_listed}
use Rattle.blind_tree.specs.Opening.{ViewParts, parts_read, placed, read_leaf, roles_at, view_of, view_read, views_read, with_read}
use Rattle.blind_tree.specs.ShownViews.{AreChildren, AreViews, IsView}
use Rattle.blind_tree.specs.Spelling.{spell_bytes, spell_each, spell_leaf, spell_tree}
use Rattle.blind_tree.specs.Vertices.{Vertices, NoVertices, BlindVertex, InnerVertex, count}
use Rattle.blind_tree.specs.declared.leaf.Leaf.{Leaf}
use Rattle.blind_tree.specs.declared.leaf.Leaf.TheVariants.{Blind, Plain}
use Rattle.blind_tree.specs.declared.tree.Tree.{Tree}
use Rattle.blind_tree.proofs.AllLaws.{all_found}
use Rattle.blind_tree.proofs.CoreLaws.{core_reads}
use Rattle.blind_tree.proofs.OpensLaws.{roles_reads}
use Rattle.framed_form.specs.Framed.{AreBytes}
use Rattle.framed_form.proofs.Agreed.{is_bytes}
use Rattle.framed_form.proofs.Lying.{done, if_there, parts_said, read_ok, same_ok}
use Rattle.framed_form.proofs.Wholes.{Opens}

-- ---- what stands in views in range is in range

abbrev pub IsRanged : Act → Type 0
IsRanged a = IsHash a.seed × IsAction a.action

inner_ranged : (h : Holed Act) → AreChildren h → (a : Act) → In a (inner h) → IsRanged a
inner_ranged NoMore r a i = absurd i
inner_ranged (Inner root below others) r a (inl same) = subst IsRanged same (r.0, r.1)
inner_ranged (Inner root below others) r a (inr later) =
    elim (in_append_cases (inner below) (inner others) a later) [ inl b ↦ inner_ranged below r.3 a b | inr o ↦ inner_ranged others r.4 a o ]
inner_ranged (Hole others) r a i = inner_ranged others r a i

after_in : (h : Holed Act) (trees : Forest Act) (a : Act) → In a (preorder (after_holes h trees)) → In a (preorder trees)
after_in NoMore trees a i = i
after_in (Inner root below others) trees a i = after_in below trees a (after_in others (after_holes below trees) a i)
after_in (Hole others) NoRoots a i = absurd i
after_in (Hole others) (Root root below more) a i = inr (in_append_right (preorder below) (preorder more) a (after_in others more a i))

fill_in : (h : Holed Act) (trees : Forest Act) (a : Act) → In a (preorder (fill h trees)) → In a (inner h) ⊎ In a (preorder trees)
fill_in NoMore trees a i = absurd i
fill_in (Inner root below others) trees a (inl same) = inl (inl same)
fill_in (Inner root below others) trees a (inr later) =
    elim (in_append_cases (preorder (fill below trees)) (preorder (fill others (after_holes below trees))) a later) [
      | inl b ↦ elim (fill_in below trees a b) [ inl here ↦ inl (inr (in_append_left (inner below) (inner others) a here)) | inr there ↦ inr there ]
      | inr o ↦ elim
          (fill_in others (after_holes below trees) a o)
          [ inl here ↦ inl (inr (in_append_right (inner below) (inner others) a here)) | inr there ↦ inr (after_in below trees a there) ]
    ]
fill_in (Hole others) NoRoots a i = fill_in others NoRoots a i
fill_in (Hole others) (Root root below more) a (inl same) = inr (inl same)
fill_in (Hole others) (Root root below more) a (inr later) =
    elim (in_append_cases (preorder below) (preorder (fill others more)) a later) [
      | inl b ↦ inr (inr (in_append_left (preorder below) (preorder more) a b))
      | inr o ↦ elim (fill_in others more a o) [ inl here ↦ inl here | inr there ↦ inr (inr (in_append_right (preorder below) (preorder more) a there)) ]
    ]

pub views_ranged : (views : Forest SplitView) → AreViews views → (a : Act) → In a (preorder (assembled views)) → IsRanged a
views_ranged NoRoots r a i = absurd i
views_ranged (Root view subviews others) r a (inl same) = subst IsRanged same (((r.0).core).seed_is, ((r.0).core).action_is)
views_ranged (Root view subviews others) r a (inr later) =
    elim (in_append_cases (preorder (fill view.below (assembled subviews))) (preorder (assembled others)) a later) [
      | inl b ↦ elim
          (fill_in view.below (assembled subviews) a b)
          [ inl here ↦ inner_ranged view.below ((r.0).core).children a here | inr there ↦ views_ranged subviews r.1 a there ]
      | inr o ↦ views_ranged others r.2 a o
    ]

-- ---- parts of bytes

abbrev Fits : List ℕ → Type 0
Fits bytes = AllByRecursion (λ b. b < 256) bytes

left_fits : (xs ys : List ℕ) → Fits (xs ++ ys) → Fits xs
left_fits [] ys h = tt
left_fits (x ∷ xs) ys h = (h.0, left_fits xs ys h.1)

right_fits : (xs ys : List ℕ) → Fits (xs ++ ys) → Fits ys
right_fits [] ys h = h
right_fits (x ∷ xs) ys h = right_fits xs ys h.1

abbrev LeafFits : Leaf → Type 0
LeafFits (Blind hash) = Unit {0}
LeafFits (Plain salt bytes) = IsBytes bytes

abbrev VerticesFit : Vertices → Type 0
VerticesFit NoVertices = Unit {0}
VerticesFit (BlindVertex hash others) = VerticesFit others
VerticesFit (InnerVertex informees contents subviews others) = LeafFits informees × LeafFits contents × VerticesFit subviews × VerticesFit others

leaf_fits : (l : Leaf) → Fits (spell_leaf l) → LeafFits l
leaf_fits (Blind hash) h = tt
leaf_fits (Plain salt bytes) h =
    is_bytes bytes (All-from_recursion (λ b. b < 256) bytes (right_fits (to_be_bytes w32 (length bytes)) bytes (right_fits salt (spell_bytes bytes) h.1)))

each_fits : (v : Vertices) → Fits (spell_each v) → VerticesFit v
each_fits NoVertices h = tt
each_fits (BlindVertex hash others) h = each_fits others (right_fits (0 ∷ hash) (spell_each others) h)
each_fits (InnerVertex informees contents subviews others) h =
    let i = spell_leaf informees in
    let c = spell_leaf contents in
    let under = to_be_bytes w16 (count subviews) ++ spell_each subviews in
    let here = left_fits (1 ∷ ((i ++ c) ++ under)) (spell_each others) h in
    let rest = right_fits (1 ∷ ((i ++ c) ++ under)) (spell_each others) h in
    let leaves = left_fits (i ++ c) under here.1 in (
      leaf_fits informees (left_fits i c leaves),
      leaf_fits contents (right_fits i c leaves),
      each_fits subviews (right_fits (to_be_bytes w16 (count subviews)) (spell_each subviews) (right_fits (i ++ c) under here.1)),
      each_fits others rest,
    )

-- the leaves of a tree that bytes spell are bytes
pub tree_fits : (bytes : List ℕ) (t : Tree) → AreBytes bytes → bytes ≡ spell_tree t → VerticesFit t.views
tree_fits bytes t fits same =
    let all : Fits (spell_tree t) = subst Fits same (recursion_from_All (λ b. b < 256) bytes fits) in
    let after = right_fits (spell_leaf t.common ++ spell_leaf t.requesters) (to_be_bytes w16 (count t.views) ++ spell_each t.views) all in
    each_fits t.views (right_fits (to_be_bytes w16 (count t.views)) (spell_each t.views) after)

-- ---- views that are read

leaf_in : {A : Type 0} (spell : A → List ℕ) (Is : A → Type 0) (read : Reading A) → Reads spell Is read → (l : Leaf) (x : A) → LeafFits l → read_leaf read l ≡ Ok x → Is x
leaf_in spell Is read reads (Blind hash) x fits e = absurd cc
leaf_in spell Is read reads (Plain salt bytes) x fits e = (all_found spell Is read reads bytes (Ok x) fits (λ other. sym e)).0

view_in : (i c : Leaf) (n : ℕ) (parts : ViewParts) (below : Forest SplitView) → LeafFits i → LeafFits c → parts_read i c n ≡ Ok parts → IsView (view_of parts below).root
view_in i c n parts below fi fc e =
    let two = parts_said i c n parts e in
    let sets = leaf_in spell_roles AreRoles roles_at roles_reads i parts.0 fi two.0 in
    let core = leaf_in spell_node IsNode core_at core_reads c parts.1 fc two.1 in
    record { informees_are = sets.0; confirmers_are = sets.1; core = core }

views_in : (v : Vertices) (f : Forest SplitView) → VerticesFit v → views_read v ≡ Ok f → AreViews f
views_in NoVertices f fits e = subst AreViews (same_ok NoRoots f e) tt
views_in (BlindVertex hash others) f fits e = absurd cc
views_in (InnerVertex i c s o) f fits e =
    let parts = read_ok (parts_read i c (count s)) _ f e in
    let under = read_ok (views_read s) _ f parts.2 in
    let after = read_ok (views_read o) _ f under.2 in
    subst AreViews (same_ok (join (tree_of (view_of parts.0 under.0)) after.0) f after.2)
    (view_in i c (count s) parts.0 under.0 fits.0 fits.1 parts.1, views_in s under.0 fits.2 under.1, views_in o after.0 fits.3 after.1)

one_in : (i c : Leaf) (s : Vertices) (view : View) → LeafFits i → LeafFits c → VerticesFit s → view_read i c s ≡ Ok view → AreViews (tree_of view)
one_in i c s view fi fc fs e =
    let parts = read_ok (parts_read i c (count s)) _ view e in
    let under = read_ok (views_read s) _ view parts.2 in
    subst (λ (w : View). AreViews (tree_of w)) (same_ok (view_of parts.0 under.0) view under.2)
    (view_in i c (count s) parts.0 under.0 fi fc parts.1, views_in s under.0 fs under.1, tt)

abbrev AllIn : List PlacedView → Type 0
AllIn [] = Unit {0}
AllIn (p ∷ ps) = AreViews (tree_of p.view) × AllIn ps

all_append : (ps qs : List PlacedView) → AllIn ps → AllIn qs → AllIn (ps ++ qs)
all_append [] qs h i = i
all_append (p ∷ ps) qs h i = (h.0, all_append ps qs h.1 i)

listed_in : (listed : List ℕ → Bool) (above : List ℕ) (k : ℕ) (v : Vertices) (ps : List PlacedView) → VerticesFit v → views_listed listed above k v ≡ Ok ps → AllIn ps
listed_in listed above k NoVertices ps fits e = subst AllIn (same_ok [] ps e) tt
listed_in listed above k (BlindVertex hash others) ps fits e =
    elim (cases_Bool (listed (above ++ k ∷ []))) [
      | inl is ↦ (let none : missing ≡ done ps = rw is at e in absurd (not_there ps none))
      | inr out ↦ (let more : views_listed listed above (suc k) others ≡ Ok ps = rw out at e in listed_in listed above (suc k) others ps fits more)
    ]
  where
    not_there : {A : Type 0} (x : A) → missing ≡ done x → ⊥
    not_there x h = cc
listed_in listed above k (InnerVertex i c s o) ps fits e =
    let path = above ++ k ∷ [] in
    elim (cases_Bool (listed path)) [
      | inl is ↦
          (let e1 : (if are_listed listed path 0 s then with_read (view_read i c s) (λ (view : View). with_read (views_listed listed above (suc k) o) (λ (more : List PlacedView). done (placed path view ∷ more))) else missing) ≡ Ok ps = rw is at e in
          let all = if_there (are_listed listed path 0 s) _ ps e1 in
          let view = read_ok (view_read i c s) _ ps all.1 in
          let more = read_ok (views_listed listed above (suc k) o) _ ps view.2 in
          subst AllIn (same_ok (placed path view.0 ∷ more.0) ps more.2) (one_in i c s view.0 fits.0 fits.1 fits.2 view.1, listed_in listed above (suc k) o more.0 fits.3 more.1))
      | inr out ↦
          (let e1 : with_read (views_listed listed path 0 s) (λ (first : List PlacedView). with_read (views_listed listed above (suc k) o) (λ (more : List PlacedView). done (first ++ more))) ≡ Ok ps = rw out at e in
          let first = read_ok (views_listed listed path 0 s) _ ps e1 in
          let more = read_ok (views_listed listed above (suc k) o) _ ps first.2 in
          subst AllIn (same_ok (first.0 ++ more.0) ps more.2) (all_append first.0 more.0 (listed_in listed path 0 s first.0 fits.2 first.1) (listed_in listed above (suc k) o more.0 fits.3 more.1)))
    ]

placed_in : (ps : List PlacedView) → AllIn ps → AreViews (map_forest (λ (v : List ℕ × SplitView). v.1) (placed_forest ps))
placed_in [] h = tt
placed_in (p ∷ ps) h = (h.0.0, subst AreViews (sym (without_paths p.path 0 (p.view).below)) h.0.1, placed_in ps h.1)

-- the actions that bytes open are in range
pub opened_ranged : (seen : List (List ℕ)) (wanted : Bool) (t : Tree) (opened : OpenedTree) → VerticesFit t.views → Opens seen wanted t opened
    → (a : Act) → In a (preorder (put_back (placed_forest opened.views))) → IsRanged a
opened_ranged seen wanted t opened fits opens a there =
    views_ranged (map_forest (λ (v : List ℕ × SplitView). v.1) (placed_forest opened.views))
    (placed_in opened.views (listed_in (is_listed seen) [] 0 t.views opened.views fits opens.views)) a there
