-- From the test of how a view is split to the structure of the views that are opened.
use Rattle.std.proofs.Common.{◌≡◌, ℕ, suc, true, List, [], ◌∷◌, ◌++◌, take, map, length, filter, flat_map, refl, sym, ap, ◌∙◌, subst, inl, inr, arith, not}
use Rattle.std.proofs.lemmas.Bool.{and_from, and_parts, not-true, eq-eqb}
use Rattle.std.proofs.lemmas.Option.{same_Some}
use Rattle.std.proofs.lemmas.List.{length-append}
use Rattle.std.proofs.lemmas.Slice.Eq.{bytes_eq-Decides, slice_eq-Decides}
use Rattle.std.proofs.Math.Seq.{take-append_seam}
use Rattle.ledger_terms.specs.Parties.{IsRising, set_of}
use Rattle.ledger_terms.specs.declared.act.Act.{Act}
use Rattle.ledger_terms.specs.declared.action.Action.{Action}
use Rattle.ledger_terms.specs.Forest.{Forest, NoRoots, Root, preorder, paths_from, roots_of}
use Rattle.ledger_model.specs.Forest.{trees_of}
use Rattle.ledger_model.specs.Terms.{PartySet, Path}
use Rattle.ledger_model.specs.declared.roles.Roles.{Roles}
use Rattle.ledger_model.specs.Language.{Language, roles_of}
use Rattle.ledger_model.specs.Opening.{OpenedView}
use Rattle.ledger_model.specs.Views.{its_informees, starts}
use Rattle.ledger_model.proofs.Lists.{In, in_from_Contains, in_append_left, in_append_right, in_append_cases, in_filter, in_map}
use Rattle.canton_model.specs.Checks.{first_act, is_directly_below, is_split_core, same_names, subview_starts}
use Rattle.canton_model.proofs.FoundViews.{view_at_its_path}
use Rattle.canton_model.specs.Checks as checks
use Rattle.view_split.specs.Holed.{inner}
use Rattle.view_split.specs.Filled.{AreFilled}
use Rattle.view_split.specs.Numbered.{map_forest}
use Rattle.view_split.specs.Placed.{placed_forest, shown_by}
use Rattle.view_split.specs.SeenViews.{opened_as, placed_numbered}
use Rattle.view_split.specs.Split.{confirmers_in, core_acts}
use Rattle.view_split.specs.declared.opened_tree.OpenedTree.{OpenedTree}
use Rattle.view_split.specs.declared.placed_view.PlacedView.{PlacedView}
use Rattle.view_split.specs.declared.split_view.SplitView.{SplitView}
use Rattle.view_split.proofs.InPlace.{acts_in, HasCore, numbered_tree}
use Rattle.framed_form.specs.Structure.{IsStructured}
use Rattle.framed_form.proofs.Agreed.{in_flat_map}
use Rattle.framed_form.proofs.Wholes.{all_from}

abbrev Numbered : Type 0
Numbered = ℕ × Act

abbrev Placed : Type 0
Placed = Path × SplitView

abbrev bare : Forest Placed → Forest SplitView
bare = map_forest (λ (v : Placed). v.1)

-- ---- forests

tree_root : {A : Type 0} (f : Forest A) (t : A × Forest A) → In t (trees_of f) → In t.0 (preorder f)
tree_root NoRoots t h = absurd h
tree_root {A} (Root x below others) t (inl same) = inl (ap (λ (u : A × Forest A). u.0) same)
tree_root (Root x below others) t (inr later) =
    inr (elim (in_append_cases (trees_of below) (trees_of others) t later) [
      | inl b ↦ in_append_left (preorder below) (preorder others) t.0 (tree_root below t b)
      | inr o ↦ in_append_right (preorder below) (preorder others) t.0 (tree_root others t o)
    ])

root_tree : {A : Type 0} (f : Forest A) (x : A) → In x (roots_of f) → (below : Forest A) × In (x, below) (trees_of f)
root_tree NoRoots x h = absurd h
root_tree {A} (Root y below others) x (inl same) = (below, inl (ap (λ (z : A). (z, below)) same))
root_tree (Root y below others) x (inr later) =
    let r = root_tree others x later in (r.0, inr (in_append_right (trees_of below) (trees_of others) (x, r.0) r.1))

tree_within : {A : Type 0} (f : Forest A) (t s : A × Forest A) → In t (trees_of f) → In s (trees_of t.1) → In s (trees_of f)
tree_within NoRoots t s h i = absurd h
tree_within {A} (Root x below others) t s (inl same) i =
    inr (in_append_left (trees_of below) (trees_of others) s (subst (λ (u : A × Forest A). In s (trees_of u.1)) (sym same) i))
tree_within (Root x below others) t s (inr later) i =
    inr (elim (in_append_cases (trees_of below) (trees_of others) t later) [
      | inl b ↦ in_append_left (trees_of below) (trees_of others) s (tree_within below t s b i)
      | inr o ↦ in_append_right (trees_of below) (trees_of others) s (tree_within others t s o i)
    ])

roots_mapped : (f : Forest Placed) (v : SplitView) → In v (roots_of (bare f)) → (s : Placed) × In s (roots_of f) × (s.1 ≡ v)
roots_mapped NoRoots v h = absurd h
roots_mapped (Root x below others) v (inl same) = (x, inl refl, same)
roots_mapped (Root x below others) v (inr later) = let r = roots_mapped others v later in (r.0, inr r.1, r.2)

-- ---- paths

-- what stands below a view has paths from it on
abbrev HasPaths : Placed × Forest Placed → Type 0
HasPaths t = (g : Forest SplitView) × (paths_from (t.0).0 0 g ≡ t.1)

paths_below : (above : Path) (k : ℕ) (f : Forest SplitView) (t : Placed × Forest Placed) → In t (trees_of (paths_from above k f)) → HasPaths t
paths_below above k NoRoots t h = absurd h
paths_below above k (Root x below others) t (inl same) = subst HasPaths same (below, refl)
paths_below above k (Root x below others) t (inr later) =
    elim (in_append_cases (trees_of (paths_from (above ++ k ∷ []) 0 below)) (trees_of (paths_from above (suc k) others)) t later) [
      | inl b ↦ paths_below (above ++ k ∷ []) 0 below t b
      | inr o ↦ paths_below above (suc k) others t o
    ]

placed_below : (ps : List PlacedView) (t : Placed × Forest Placed) → In t (trees_of (placed_forest ps)) → HasPaths t
placed_below [] t h = absurd h
placed_below (p ∷ ps) t (inl same) = subst HasPaths same ((p.view).below, refl)
placed_below (p ∷ ps) t (inr later) =
    elim (in_append_cases (trees_of (paths_from p.path 0 (p.view).below)) (trees_of (placed_forest ps)) t later) [
      | inl b ↦ paths_below p.path 0 (p.view).below t b
      | inr o ↦ placed_below ps t o
    ]

root_paths : (above : Path) (k : ℕ) (f : Forest SplitView) (s : Placed) → In s (roots_of (paths_from above k f)) → (j : ℕ) × (above ++ j ∷ [] ≡ s.0)
root_paths above k NoRoots s h = absurd h
root_paths above k (Root x below others) s (inl same) = (k, ap (λ (v : Placed). v.0) same)
root_paths above k (Root x below others) s (inr later) = root_paths above (suc k) others s later

step_below : (path : Path) (j : ℕ) → is_directly_below path (path ++ j ∷ []) ≡ true
step_below path j =
    let long : length (path ++ j ∷ []) ≡ suc (length path) = length-append path (j ∷ []) ∙ omega arith in
    and_from _ _ (eq-eqb _ _ long) ((bytes_eq-Decides (take (length path) (path ++ j ∷ [])) path).1 (take-append_seam path (j ∷ [])))

-- ---- lists

in_acts : (core : List Numbered) (a : Act) → In a (acts_in core) → (n : Numbered) × In n core × (n.1 ≡ a)
in_acts [] a h = absurd h
in_acts (x ∷ xs) a (inl same) = (x, inl refl, same)
in_acts (x ∷ xs) a (inr later) = let r = in_acts xs a later in (r.0, inr r.1, r.2)

confirmers_same : (roles : Action → Roles) (core : List Numbered) → flat_map (λ (a : Numbered). (roles (a.1).action).confirmers) core ≡ confirmers_in roles (acts_in core)
confirmers_same roles [] = refl
confirmers_same roles (x ∷ xs) = ap (λ (zs : PartySet). (roles (x.1).action).confirmers ++ zs) (confirmers_same roles xs)

names_are : (a b : PartySet) → same_names a b ≡ true → a ≡ b
names_are a b h = (slice_eq-Decides bytes_eq-Decides a b (same_names a b) refl).0 h

first_of : (core : List Numbered) (first : Act) (rest : List Act) → acts_in core ≡ first ∷ rest → In first (first_act core)
first_of [] first rest e = absurd (let no : 0 ≡ suc (length rest) = ap length e in omega (arith, no))
first_of (x ∷ xs) first rest e = inl (ap (head_or first) e)
  where
    head_or : Act → List Act → Act
    head_or d [] = d
    head_or d (y ∷ ys) = y

module _ (language : Language) (tree : OpenedTree) (filled : AreFilled (bare (placed_forest tree.views)))
    (rises : IsRising (map (λ (v : OpenedView). v.path) (shown_by tree).views)) where
  abbrev placed : Forest Placed
  placed = placed_forest tree.views

  abbrev roles : Action → Roles
  roles = roles_of language

  -- each view stands among those that are shown
  shows : (v : Placed) (c : HasCore placed v) → In (opened_as (v, c.core)) (shown_by tree).views
  shows v c = in_map opened_as (preorder (placed_numbered placed)) (v, c.core) (tree_root (placed_numbered placed) ((v, c.core), c.subviews) c.there)

  -- those of one path are one
  one_path : (a b : OpenedView) → In a (shown_by tree).views → In b (shown_by tree).views → a.path ≡ b.path → a ≡ b
  one_path a b i j same =
      same_Some a b
      (sym (view_at_its_path (shown_by tree).views a rises i)
      ∙ (ap (λ (path : Path). checks.view_at path (shown_by tree).views) same ∙ view_at_its_path (shown_by tree).views b rises j))

  -- the first action of a view directly below
  starts_there : (v : Placed) (subviews : Forest Placed) (s : Placed) → In (v, subviews) (trees_of placed) → In s (roots_of subviews)
      → (o : OpenedView) → o.path ≡ v.0 → In (s.1).first (subview_starts (shown_by tree) o)
  starts_there v subviews s h i o path =
      let r = root_tree subviews s i in
      let there = tree_within placed (v, subviews) (s, r.0) h r.1 in
      let c = numbered_tree placed (s, r.0) filled there in
      let under = placed_below tree.views (v, subviews) h in
      let step = root_paths v.0 0 under.0 s (subst (λ (f : Forest Placed). In s (roots_of f)) (sym under.1) i) in
      let below : is_directly_below o.path s.0 ≡ true = subst (λ (q : Path). is_directly_below o.path q ≡ true) step.1 (subst (λ (q : Path). is_directly_below q (v.0 ++ step.0 ∷ []) ≡ true) (sym path) (step_below v.0 step.0)) in
      let listed = in_filter (λ (other : OpenedView). is_directly_below o.path other.path) (shown_by tree).views (opened_as (s, c.core)) (shows s c) below in
      in_flat_map (λ (other : OpenedView). first_act other.core) (filter (λ (other : OpenedView). is_directly_below o.path other.path) (shown_by tree).views)
      (opened_as (s, c.core)) (s.1).first listed (first_of c.core (s.1).first (inner (s.1).below) c.acts)

  by_core : (v : SplitView) (subviews : Forest SplitView) (core : List Numbered) (below : List Act) → acts_in core ≡ core_acts v
      → ((s : SplitView) → In s (roots_of subviews) → In s.first below)
      → is_split_core language v.informees v.confirmers core below ≡ true → IsStructured roles v subviews
  by_core v subviews [] below acts starts_in h = cc
  by_core v subviews (first ∷ rest) below acts starts_in h =
      let p1 = and_parts _ _ h in
      let p2 = and_parts _ _ p1.1 in
      let p3 = and_parts _ _ p2.1 in
      let p4 = and_parts _ _ p3.1 in
      let is_first : first.1 ≡ v.first = ap (head_or first.1) acts in
      let are_rest : acts_in rest ≡ inner v.below = ap tail_of acts in
      let informees : v.informees ≡ its_informees roles first.1 = names_are v.informees (its_informees roles first.1) p2.0 in
      record {
        informees = informees ∙ ap (its_informees roles) is_first;
        confirmers = names_are v.confirmers _ p3.0 ∙ ap set_of (confirmers_same roles (first ∷ rest) ∙ ap (confirmers_in roles) acts);
        inside = λ act c.
            let i : In act (acts_in rest) = subst (λ (xs : List Act). In act xs) (sym are_rest) (in_from_Contains (inner v.below) act c) in
            let n = in_acts rest act i in
            let none = not-true _ (all_from (λ (a : Numbered). not (starts roles (its_informees roles first.1) a.1)) rest n.0 p4.0 n.1) in
            ap (λ (names : PartySet). starts roles names act) informees ∙ (ap (starts roles (its_informees roles first.1)) (sym n.2) ∙ none);
        below = λ s c.
            let i = starts_in s (in_from_Contains (roots_of subviews) s c) in
            ap (λ (names : PartySet). starts roles names s.first) informees ∙ all_from (starts roles (its_informees roles first.1)) below s.first p4.1 i;
      }
    where
      head_or : Act → List Act → Act
      head_or d [] = d
      head_or d (y ∷ ys) = y

      tail_of : List Act → List Act
      tail_of [] = []
      tail_of (y ∷ ys) = ys

  pub structured : (view : OpenedView) → In view (shown_by tree).views
      → is_split_core language view.informees view.confirmers view.core (subview_starts (shown_by tree) view) ≡ true
      → (split : SplitView) (subviews : Forest Placed) → In ((view.path, split), subviews) (trees_of placed) → IsStructured roles split (bare subviews)
  structured view there well split subviews h =
      let c = numbered_tree placed ((view.path, split), subviews) filled h in
      let same : view ≡ opened_as ((view.path, split), c.core) = one_path view (opened_as ((view.path, split), c.core)) there (shows (view.path, split) c) refl in
      let well' = subst (λ (o : OpenedView). is_split_core language o.informees o.confirmers o.core (subview_starts (shown_by tree) o) ≡ true) same well in
      by_core split (bare subviews) c.core (subview_starts (shown_by tree) (opened_as ((view.path, split), c.core))) c.acts
      (λ s i.
      let r = roots_mapped subviews s i in
      subst (λ (x : SplitView). In x.first (subview_starts (shown_by tree) (opened_as ((view.path, split), c.core)))) r.2
      (starts_there (view.path, split) subviews r.0 h r.1 (opened_as ((view.path, split), c.core)) refl))
      well'
