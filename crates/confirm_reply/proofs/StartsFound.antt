-- The first actions that a walk finds are those of the views directly below the path.
use Rattle.std.proofs.Common.{◌≡◌, ℕ, suc, Bool, true, false, List, [], ◌∷◌, ◌++◌, length, map, Option, Some, None, refl, sym, ap, ◌∙◌, subst, inl, inr, arith, append_assoc, take}
use Rattle.std.specs.Prelude.{◌&&◌, filter, flat_map, nat_eq, slice_get}
use Rattle.std.specs.Str.{bytes_eq}
use Rattle.std.proofs.lemmas.Bool.{cases_Bool, and_parts, both_ways, eq-eqb, eqb-true}
use Rattle.std.proofs.lemmas.List.{length-append, map-append}
use Rattle.std.proofs.lemmas.Slice.Eq.{bytes_eq-Decides}
use Rattle.std.proofs.Math.Seq.{take-append_seam}
use Rattle.ledger_terms.specs.declared.act.Act.{Act}
use Rattle.ledger_terms.specs.Forest.{Forest, NoRoots, Root, number_from, preorder, paths_from}
use Rattle.ledger_model.specs.Forest.{trees_of}
use Rattle.ledger_model.specs.Opening.{OpenedView, Shown}
use Rattle.ledger_model.specs.Terms.{Path}
use Rattle.canton_model.specs.Checks.{first_act, is_directly_below, subview_starts}
use Rattle.view_split.specs.declared.split_view.SplitView.{SplitView}
use Rattle.view_split.specs.Numbered.{core_in, held_in, with_cores}
use Rattle.view_split.specs.Placed.{placed_forest, shown_by}
use Rattle.view_split.specs.SeenViews.{opened_as, placed_numbered, put_back}
use Rattle.view_split.specs.declared.placed_view.PlacedView.{PlacedView}
use Rattle.view_split.specs.declared.opened_tree.OpenedTree.{OpenedTree}
use Rattle.confirm_reply.specs.Located.{after_path, after_step, is_reached, number_if, starts_among, starts_in}
use Rattle.confirm_reply.specs.Opened.{acts_of_core}
use Rattle.confirm_reply.specs.WellSplit.{taken, taken_at}
use Rattle.confirm_reply.proofs.Located.{after_end, same_path}
use Rattle.confirm_reply.proofs.Placed.{CoreHas, EachIn, StandsIn, Tree, all_stand, cores_each}

abbrev Numbered : Type 0
Numbered = ℕ × Act

abbrev Placed : Type 0
Placed = Path × SplitView

abbrev NumberedView : Type 0
NumberedView = Placed × List Numbered

abbrev laid : Forest Placed → Forest Numbered → Forest NumberedView
laid views trees = with_cores (λ (v : Placed). (v.1).below) views trees

-- ---- paths

one_more : (above : List ℕ) (k : ℕ) → length (above ++ k ∷ []) ≡ suc (length above)
one_more above k = omega (arith, length-append above (k ∷ []))

pub below_same : (above : List ℕ) (k : ℕ) → is_directly_below above (above ++ k ∷ []) ≡ true
below_same above k =
    let one = eq-eqb (length (above ++ k ∷ [])) (suc (length above)) (one_more above k) in
    let same = (bytes_eq-Decides above above).1 refl in
    rw (one, take-append_seam above (k ∷ [])) same

below_other : (wanted above : List ℕ) (k : ℕ) → bytes_eq wanted above ≡ false → is_directly_below wanted (above ++ k ∷ []) ≡ false
below_other wanted above k differ =
    elim (cases_Bool (is_directly_below wanted (above ++ k ∷ []))) [
      | inr fails ↦ fails
      | inl passes ↦
          let parts = and_parts (nat_eq (length (above ++ k ∷ [])) (suc (length wanted))) (bytes_eq (take (length wanted) (above ++ k ∷ [])) wanted) passes in
          let long : length (above ++ k ∷ []) ≡ suc (length wanted) = eqb-true (length (above ++ k ∷ [])) (suc (length wanted)) parts.0 in
          let count : length wanted ≡ length above = omega (arith, long, one_more above k) in
          let front : take (length wanted) (above ++ k ∷ []) ≡ above = ap (λ (n : ℕ). take n (above ++ k ∷ [])) count ∙ take-append_seam above (k ∷ []) in
          let same : above ≡ wanted = sym front ∙ (bytes_eq-Decides (take (length wanted) (above ++ k ∷ [])) wanted).0 parts.1 in
          absurd (both_ways (bytes_eq wanted above) differ ((bytes_eq-Decides wanted above).1 (sym same)))
    ]

below_by_one : (wanted above : List ℕ) (k : ℕ) → is_directly_below wanted (above ++ k ∷ []) ≡ is_reached (after_path (Some wanted) above)
below_by_one wanted above k =
    elim (cases_Bool (bytes_eq wanted above)) [
      | inl same ↦
          ap (λ (w : List ℕ). is_directly_below w (above ++ k ∷ [])) ((bytes_eq-Decides wanted above).0 same)
          ∙ (below_same above k ∙ (sym same ∙ same_path wanted above))
      | inr other ↦ below_other wanted above k other ∙ (sym other ∙ same_path wanted above)
    ]

-- ---- the views directly below a path

abbrev first_number : Bool → List Numbered → List ℕ
first_number false core = []
first_number true [] = []
first_number true (a ∷ core) = a.0 ∷ []

abbrev starts_of : List ℕ → List NumberedView → List ℕ
starts_of wanted [] = []
starts_of wanted (view ∷ views) = first_number (is_directly_below wanted (view.0).0) view.1 ++ starts_of wanted views

starts_append : (wanted : List ℕ) (vs ws : List NumberedView) → starts_of wanted (vs ++ ws) ≡ starts_of wanted vs ++ starts_of wanted ws
starts_append wanted [] ws = refl
starts_append wanted (v ∷ vs) ws =
    let here = first_number (is_directly_below wanted (v.0).0) v.1 in
    ap (λ (ns : List ℕ). here ++ ns) (starts_append wanted vs ws) ∙ sym (append_assoc here (starts_of wanted vs) (starts_of wanted ws))

one_number : (here : Bool) (x : Numbered) (core : List Numbered) → first_number here (x ∷ core) ≡ number_if here x
one_number false x core = refl
one_number true x core = refl

-- a view, those below it and those after it
step : (wanted : List ℕ) (here : Bool) (path : Path) (view : SplitView) (x : Numbered) (core : List Numbered) (inside after : List NumberedView) (below rest : List ℕ)
    → is_directly_below wanted path ≡ here → starts_of wanted inside ≡ below → starts_of wanted after ≡ rest
    → starts_of wanted (((path, view), x ∷ core) ∷ (inside ++ after)) ≡ number_if here x ++ (below ++ rest)
step wanted here path view x core inside after below rest is found later =
    (λ i. first_number (is i) (x ∷ core) ++ starts_append wanted inside after i) ∙ (λ i. one_number here x core i ++ (found i ++ later i))

walked : (wanted above : List ℕ) (k : ℕ) (views : Forest SplitView) (trees : Forest Numbered)
    → starts_of wanted (preorder (laid (paths_from above k views) trees)) ≡ starts_among (after_path (Some wanted) above) k views trees
walked wanted above k NoRoots trees = refl
walked wanted above k (Root view subviews others) NoRoots = refl
walked wanted above k (Root view subviews others) (Root x children more) =
    let path = above ++ k ∷ [] in
    let left = after_path (Some wanted) above in
    let held = held_in view.below children in
    let ends : after_path (Some wanted) path ≡ after_step left k = after_end (Some wanted) above k in
    step wanted (is_reached left) path view x (core_in view.below children) (preorder (laid (paths_from path 0 subviews) held))
    (preorder (laid (paths_from above (suc k) others) more)) (starts_among (after_step left k) 0 subviews held) (starts_among left (suc k) others more)
    (below_by_one wanted above k)
    (walked wanted path 0 subviews held ∙ ap (λ (l : Option (List ℕ)). starts_among l 0 subviews held) ends)
    (walked wanted above (suc k) others more)

starts_found : (wanted : List ℕ) (placed : List PlacedView) (trees : Forest Numbered)
    → starts_of wanted (preorder (laid (placed_forest placed) trees)) ≡ starts_in wanted placed trees
starts_found wanted [] trees = refl
starts_found wanted (p ∷ placed) NoRoots = refl
starts_found wanted (p ∷ placed) (Root x children more) =
    let left = after_path (Some wanted) p.path in
    let held = held_in p.view.root.below children in
    step wanted (is_directly_below wanted p.path) p.path p.view.root x (core_in p.view.root.below children)
    (preorder (laid (paths_from p.path 0 p.view.below) held)) (preorder (laid (placed_forest placed) more))
    (starts_among left 0 p.view.below held) (starts_in wanted placed more)
    refl (walked wanted p.path 0 p.view.below held) (starts_found wanted placed more)

-- ---- what stands at their numbers

abbrev act_if : Bool → List Numbered → List Act
act_if false core = []
act_if true core = first_act core

one_start : (all : List Tree) (here : Bool) (core : List Numbered) (ns : List ℕ) (rest : List Act) → EachIn (StandsIn all) core
    → acts_of_core (taken all ns) ≡ rest → acts_of_core (taken all (first_number here core ++ ns)) ≡ act_if here core ++ rest
one_start all false core ns rest e later = later
one_start all true [] ns rest e later = later
one_start all true (a ∷ core) ns rest e later =
    (λ i. acts_of_core (taken_at a.0 ((e.0).1 i) ++ taken all ns)) ∙ ap (λ (acts : List Act). a.1 ∷ acts) later

abbrev starts_in_views : List ℕ → List OpenedView → List Act
starts_in_views wanted views =
    flat_map (λ (other : OpenedView). first_act other.core) (filter (λ (other : OpenedView). is_directly_below wanted other.path) views)

one_filtered : (wanted : List ℕ) (view : OpenedView) (views : List OpenedView)
    → act_if (is_directly_below wanted view.path) view.core ++ starts_in_views wanted views ≡ starts_in_views wanted (view ∷ views)
one_filtered wanted view views =
    elim (cases_Bool (is_directly_below wanted view.path)) [ inl below ↦ rw below refl | inr aside ↦ rw aside refl ]

acts_found : (all : List Tree) (wanted : List ℕ) (views : List NumberedView) → EachIn (CoreHas (StandsIn all)) views
    → acts_of_core (taken all (starts_of wanted views)) ≡ starts_in_views wanted (map opened_as views)
acts_found all wanted [] e = refl
acts_found all wanted (view ∷ views) e =
    one_start all (is_directly_below wanted (view.0).0) view.1 (starts_of wanted views) (starts_in_views wanted (map opened_as views)) e.0
    (acts_found all wanted views e.1)
    ∙ one_filtered wanted (opened_as view) (map opened_as views)

pub starts_are : (tree : OpenedTree) (view : OpenedView) (path : Path) → path ≡ view.path
    → acts_of_core (taken (trees_of (shown_by tree).roots) (starts_in path tree.views (number_from 0 (shown_by tree).roots)))
    ≡ subview_starts (shown_by tree) view
starts_are tree view path same =
    let roots = put_back (placed_forest tree.views) in
    let all = trees_of roots in
    let placed = preorder (placed_numbered (placed_forest tree.views)) in
    ap (λ (ns : List ℕ). acts_of_core (taken all ns)) (sym (starts_found path tree.views (number_from 0 roots)))
    ∙ (acts_found all path placed (cores_each (StandsIn all) (placed_forest tree.views) (number_from 0 roots) (all_stand roots))
    ∙ ap (λ (wanted : Path). starts_in_views wanted (map opened_as placed)) same)
