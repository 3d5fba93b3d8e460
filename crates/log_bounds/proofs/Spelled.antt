-- What is opened of bytes can be spelled again.
use Rattle.std.proofs.Common.{◌≡◌, ◌⊎◌, ℕ, zero, suc, Bool, List, [], ◌∷◌, ◌++◌, Ok, subst, inl, inr}
use Rattle.std.specs.List.{AllByRecursion}
use Rattle.std.proofs.lemmas.Bool.{cases_Bool}
use Rattle.ledger_terms.specs.declared.act.Act.{Act}
use Rattle.ledger_terms.specs.Forest.{Forest, NoRoots, Root, paths_from}
use Rattle.ledger_model.specs.Forest.{acts}
use Rattle.ledger_model.specs.Terms.{Action, instance_of}
use Rattle.ledger_model.specs.Terms as terms
use Rattle.ledger_model.proofs.Lists.{In, in_append_cases, in_append_left, in_append_right}
use Rattle.wire_form.specs.Formats.{Reading, any_item, both_at, counted_at}
use Rattle.wire_form.specs.Fields.{count_at, hash_at}
use Rattle.wire_form.specs.Reading.{action_at}
use Rattle.wire_form.specs.Spellable.{IsSpellableAction, IsSpellableInstance}
use Rattle.wire_form.proofs.Bounded.{Gives, action_gives, anything, both_give, count_gives, counted_give, seen_gives}
use Rattle.wire_form.proofs.FormatLaws.{ok_is}
use Rattle.view_split.specs.Holed as holed
use Rattle.view_split.specs.Holed.{Holed, NoMore, after_holes, fill, inner}
use Rattle.view_split.specs.CoreLists.{act_of, children_of}
use Rattle.view_split.specs.Numbered.{map_forest}
use Rattle.view_split.specs.Placed.{placed_forest}
use Rattle.view_split.specs.SeenViews.{put_back}
use Rattle.view_split.specs.Split.{assembled}
use Rattle.view_split.specs.ViewTrees.{View}
use Rattle.view_split.specs.declared.core_node.CoreNode.{CoreNode}
use Rattle.view_split.specs.declared.core_node.CoreChild.{CoreChild}
use Rattle.view_split.specs.declared.core_node.CoreChild.TheVariants.{Inner as InnerChild, Hole as HoleChild}
use Rattle.view_split.specs.declared.placed_view.PlacedView.{PlacedView}
use Rattle.view_split.specs.declared.split_view.SplitView.{SplitView}
use Rattle.blind_tree.specs.CoreReading.{child_at, children_with, core_at, hole_at, node_at, node_of, node_with, tagged_child_at, tagged_hole_at}
use Rattle.blind_tree.specs.OpenedFor.{are_listed, missing, views_listed}
use Rattle.blind_tree.specs.Opening.{ViewParts, parts_read, placed, read_leaf, view_of, view_read, views_read}
use Rattle.blind_tree.specs.Vertices.{Vertices, NoVertices, BlindVertex, InnerVertex, count}
use Rattle.blind_tree.specs.declared.leaf.Leaf.{Leaf}
use Rattle.blind_tree.specs.declared.leaf.Leaf.TheVariants as leaves
use Rattle.framed_form.proofs.Lying.{if_there, read_ok, same_ok}
use Rattle.log_bounds.proofs.Opened.{all_read, bare, parts_core}

abbrev pub HasSpelling : Act → Type 0
HasSpelling act = IsSpellableInstance (instance_of act.action)

-- each of these can be spelled
abbrev pub HaveSpellings : List Act → Type 0
HaveSpellings xs = (act : Act) → In act xs → HasSpelling act

-- ---- cores

action_spelled : (action : Action) → IsSpellableAction action → IsSpellableInstance (instance_of action)
action_spelled (terms.Create id instance) s = s
action_spelled (terms.Exercise id salt instance choice args actors consuming result) s = s.0
action_spelled (terms.Fetch id salt instance actors) s = s.0

abbrev CoreFits : CoreNode → Type 0
CoreFits core = HasSpelling (act_of core) × HaveSpellings (inner core.children)

abbrev ChildFits : CoreChild → Type 0
ChildFits (InnerChild core) = CoreFits core
ChildFits HoleChild = Unit {0}

abbrev BelowFits : Holed Act → Type 0
BelowFits below = HaveSpellings (inner below)

children_fit : (cs : List CoreChild) → AllByRecursion ChildFits cs → BelowFits (children_of cs)
children_fit [] all act i = absurd i
children_fit (InnerChild core ∷ cs) all act (inl same) = subst HasSpelling same (all.0).0
children_fit (InnerChild core ∷ cs) all act (inr i) =
    elim (in_append_cases (inner core.children) (inner (children_of cs)) act i) [ inl l ↦ (all.0).1 act l | inr r ↦ children_fit cs all.1 act r ]
children_fit (HoleChild ∷ cs) all act i = children_fit cs all.1 act i

children_give : (child : Reading CoreChild) → Gives ChildFits child → Gives BelowFits (children_with child)
children_give child each =
    seen_gives children_of (counted_at (count_at 63) any_item child) BelowFits
    (λ bytes x e. children_fit x.0 (counted_give ChildFits any_item child each 63 (count_at 63) (count_gives 63) bytes x e).1)

node_gives : (child : Reading CoreChild) → Gives ChildFits child → Gives CoreFits (node_with child)
node_gives child each =
    seen_gives node_of (both_at (both_at hash_at action_at) (children_with child)) CoreFits
    (λ bytes x e.
    let p = both_give _ (both_at hash_at action_at) BelowFits (children_with child) (both_give _ hash_at IsSpellableAction action_at (anything hash_at) action_gives) (children_give child each) bytes x e in
    (action_spelled ((x.0).0).1 (p.0).1, p.1))

child_gives : (levels : ℕ) → Gives ChildFits (child_at levels)
unfolding child_at hole_at tagged_hole_at tagged_child_at
child_gives zero [] x e = absurd cc
child_gives zero (zero ∷ rest) x e = absurd cc
child_gives zero (suc zero ∷ rest) x e = subst (λ (y : CoreChild × List ℕ). ChildFits y.0) (ok_is (HoleChild, rest) x e) tt
child_gives zero (suc (suc n) ∷ rest) x e = absurd cc
child_gives (suc levels) [] x e = absurd cc
child_gives (suc levels) (zero ∷ rest) x e =
    seen_gives InnerChild (node_with (child_at levels)) ChildFits (node_gives (child_at levels) (child_gives levels)) rest x e
child_gives (suc levels) (suc zero ∷ rest) x e = subst (λ (y : CoreChild × List ℕ). ChildFits y.0) (ok_is (HoleChild, rest) x e) tt
child_gives (suc levels) (suc (suc n) ∷ rest) x e = absurd cc

core_gives : Gives CoreFits core_at
unfolding core_at node_at
core_gives = node_gives (child_at 15) (child_gives 15)

read_leaf_fits : (contents : Leaf) (core : CoreNode) → read_leaf core_at contents ≡ Ok core → CoreFits core
read_leaf_fits (leaves.Blind hash) core e = absurd cc
read_leaf_fits (leaves.Plain salt bytes) core e = core_gives bytes (core, []) (all_read _ (core_at bytes) core e)

-- ---- views and what they are put back to

-- what is left once holes are filled
after_in : (h : Holed Act) (trees : Forest Act) (act : Act) → In act (acts (after_holes h trees)) → In act (acts trees)
after_in NoMore trees act i = i
after_in (holed.Inner root below others) trees act i = after_in below trees act (after_in others (after_holes below trees) act i)
after_in (holed.Hole others) NoRoots act i = absurd i
after_in (holed.Hole others) (Root root below more) act i = inr (in_append_right (acts below) (acts more) act (after_in others more act i))

filled_in : (h : Holed Act) (trees : Forest Act) (act : Act) → In act (acts (fill h trees)) → In act (inner h) ⊎ In act (acts trees)
filled_in NoMore trees act i = absurd i
filled_in (holed.Inner root below others) trees act (inl same) = inl (inl same)
filled_in (holed.Inner root below others) trees act (inr i) =
    elim (in_append_cases (acts (fill below trees)) (acts (fill others (after_holes below trees))) act i) [
      | inl l ↦ elim (filled_in below trees act l) [ inl c ↦ inl (inr (in_append_left (inner below) (inner others) act c)) | inr t ↦ inr t ]
      | inr r ↦ elim (filled_in others (after_holes below trees) act r) [
        | inl c ↦ inl (inr (in_append_right (inner below) (inner others) act c))
        | inr t ↦ inr (after_in below trees act t)
      ]
    ]
filled_in (holed.Hole others) NoRoots act i = filled_in others NoRoots act i
filled_in (holed.Hole others) (Root root below more) act (inl same) = inr (inl same)
filled_in (holed.Hole others) (Root root below more) act (inr i) =
    elim (in_append_cases (acts below) (acts (fill others more)) act i) [
      | inl l ↦ inr (inr (in_append_left (acts below) (acts more) act l))
      | inr r ↦ elim (filled_in others more act r) [ inl c ↦ inl c | inr t ↦ inr (inr (in_append_right (acts below) (acts more) act t)) ]
    ]

abbrev pub Fit : Forest SplitView → Type 0
Fit views = HaveSpellings (acts (assembled views))

view_fits : (core : CoreNode) (sets : List (List ℕ) × List (List ℕ)) (subviews others : Forest SplitView) → CoreFits core → Fit subviews → Fit others
    → Fit (Root (view_of (sets, core) subviews).root subviews others)
view_fits core sets subviews others c s o act (inl same) = subst HasSpelling same c.0
view_fits core sets subviews others c s o act (inr i) =
    elim (in_append_cases (acts (fill core.children (assembled subviews))) (acts (assembled others)) act i) [
      | inl l ↦ elim (filled_in core.children (assembled subviews) act l) [ inl own ↦ c.1 act own | inr below ↦ s act below ]
      | inr r ↦ o act r
    ]

parts_fit : (informees contents : Leaf) (n : ℕ) (parts : ViewParts) → parts_read informees contents n ≡ Ok parts → CoreFits parts.1
parts_fit informees contents n parts e = read_leaf_fits contents parts.1 (parts_core informees contents n parts e)

views_fit : (v : Vertices) (views : Forest SplitView) → views_read v ≡ Ok views → Fit views
views_fit NoVertices views e = subst Fit (same_ok NoRoots views e) (λ act i. absurd i)
views_fit (BlindVertex hash others) views e = absurd cc
views_fit (InnerVertex informees contents subviews others) views e =
    let parts = read_ok (parts_read informees contents (count subviews)) _ views e in
    let below = read_ok (views_read subviews) _ views parts.2 in
    let rest = read_ok (views_read others) _ views below.2 in
    let p = parts_fit informees contents (count subviews) parts.0 parts.1 in
    subst Fit (same_ok (Root (view_of parts.0 below.0).root below.0 rest.0) views rest.2)
    (view_fits (parts.0).1 (parts.0).0 below.0 rest.0 p (views_fit subviews below.0 below.1) (views_fit others rest.0 rest.1))

-- a view with all below it
abbrev alone : View → Forest SplitView
alone view = Root view.root view.below NoRoots

view_fit : (informees contents : Leaf) (subviews : Vertices) (view : View) → view_read informees contents subviews ≡ Ok view → Fit (alone view)
view_fit informees contents subviews view e =
    let parts = read_ok (parts_read informees contents (count subviews)) _ view e in
    let below = read_ok (views_read subviews) _ view parts.2 in
    let p = parts_fit informees contents (count subviews) parts.0 parts.1 in
    subst (λ (v : View). Fit (alone v)) (same_ok (view_of parts.0 below.0) view below.2)
    (view_fits (parts.0).1 (parts.0).0 below.0 NoRoots p (views_fit subviews below.0 below.1) (λ act i. absurd i))

-- ---- views with paths

abbrev pub OpenedFit : List PlacedView → Type 0
OpenedFit views = HaveSpellings (acts (put_back (placed_forest views)))

opened_cons : (p : PlacedView) (ps : List PlacedView) → Fit (alone p.view) → OpenedFit ps → OpenedFit (p ∷ ps)
opened_cons p ps one others act (inl same) = one act (inl same)
opened_cons p ps one others act (inr i) =
    let whole = fill p.view.root.below (assembled p.view.below) in
    let j : In act (acts whole ++ acts (put_back (placed_forest ps))) =
    subst (λ (f : Forest SplitView). In act (acts (fill p.view.root.below (assembled f)) ++ acts (put_back (placed_forest ps)))) (bare p.path 0 p.view.below) i in
    elim (in_append_cases (acts whole) (acts (put_back (placed_forest ps))) act j) [
      | inl l ↦ one act (inr (in_append_left (acts whole) [] act l))
      | inr r ↦ others act r
    ]

-- what stands below the first action of a view
abbrev tree_below : PlacedView → Forest Act
tree_below p = fill p.view.root.below (assembled (map_forest (λ (v : List ℕ × SplitView). v.1) (paths_from p.path 0 p.view.below)))

abbrev acts_of : List PlacedView → List Act
acts_of views = acts (put_back (placed_forest views))

opened_split : (ps qs : List PlacedView) (act : Act) → In act (acts_of (ps ++ qs)) → In act (acts_of ps) ⊎ In act (acts_of qs)
opened_split [] qs act i = inr i
opened_split (p ∷ ps) qs act (inl same) = inl (inl same)
opened_split (p ∷ ps) qs act (inr i) =
    elim (in_append_cases (acts (tree_below p)) (acts_of (ps ++ qs)) act i) [
      | inl l ↦ inl (inr (in_append_left (acts (tree_below p)) (acts_of ps) act l))
      | inr r ↦ elim (opened_split ps qs act r) [ inl own ↦ inl (inr (in_append_right (acts (tree_below p)) (acts_of ps) act own)) | inr other ↦ inr other ]
    ]

opened_append : (ps qs : List PlacedView) → OpenedFit ps → OpenedFit qs → OpenedFit (ps ++ qs)
opened_append ps qs one others act i = elim (opened_split ps qs act i) [ inl own ↦ one act own | inr other ↦ others act other ]

pub listed_fit : (listed : List ℕ → Bool) (above : List ℕ) (k : ℕ) (v : Vertices) (views : List PlacedView) → views_listed listed above k v ≡ Ok views → OpenedFit views
listed_fit listed above k NoVertices views e = subst OpenedFit (same_ok [] views e) (λ act i. absurd i)
listed_fit listed above k (BlindVertex hash others) views e =
    elim (cases_Bool (listed (above ++ k ∷ []))) [
      | inl is ↦ (let none : missing ≡ Ok views = rw is at e in absurd cc)
      | inr out ↦ listed_fit listed above (suc k) others views (rw out at e)
    ]
listed_fit listed above k (InnerVertex informees contents subviews others) views e =
    elim (cases_Bool (listed (above ++ k ∷ []))) [
      | inl is ↦
          (let here = if_there (are_listed listed (above ++ k ∷ []) 0 subviews) _ views (rw is at e) in
          let view = read_ok (view_read informees contents subviews) _ views here.1 in
          let rest = read_ok (views_listed listed above (suc k) others) _ views view.2 in
          subst OpenedFit (same_ok (placed (above ++ k ∷ []) view.0 ∷ rest.0) views rest.2)
          (opened_cons (placed (above ++ k ∷ []) view.0) rest.0 (view_fit informees contents subviews view.0 view.1) (listed_fit listed above (suc k) others rest.0 rest.1)))
      | inr out ↦
          (let first = read_ok (views_listed listed (above ++ k ∷ []) 0 subviews) _ views (rw out at e) in
          let rest = read_ok (views_listed listed above (suc k) others) _ views first.2 in
          subst OpenedFit (same_ok (first.0 ++ rest.0) views rest.2)
          (opened_append first.0 rest.0 (listed_fit listed (above ++ k ∷ []) 0 subviews first.0 first.1) (listed_fit listed above (suc k) others rest.0 rest.1)))
    ]
