-- The view that a walk finds is the first with the path.
use Rattle.std.specs.Option.{option_or}
use Rattle.std.proofs.Common.{◌≡◌, ℕ, suc, Bool, List, [], ◌∷◌, ◌++◌, map, Option, Some, None, refl, sym, ap, ◌∙◌, inl, inr}
use Rattle.std.specs.Prelude.{find, nat_eq, option_map}
use Rattle.std.specs.Str.{bytes_eq}
use Rattle.std.proofs.lemmas.Bool.{cases_Bool}
use Rattle.std.proofs.lemmas.List.{map-append}
use Rattle.std.proofs.lemmas.List.Folds.{find-append}
use Rattle.ledger_terms.specs.declared.act.Act.{Act}
use Rattle.ledger_terms.specs.Forest.{Forest, NoRoots, Root, preorder, paths_from}
use Rattle.ledger_model.specs.Terms.{Path}
use Rattle.ledger_model.specs.Opening.{OpenedView}
use Rattle.view_split.specs.declared.split_view.SplitView.{SplitView}
use Rattle.view_split.specs.Numbered.{core_in, held_in, with_cores}
use Rattle.view_split.specs.Placed.{placed_forest}
use Rattle.view_split.specs.SeenViews.{opened_as}
use Rattle.view_split.specs.declared.placed_view.PlacedView.{PlacedView}
use Rattle.confirm_reply.specs.Located.{Found, after_path, after_step, is_reached, view_found, view_found_in, view_or}
use Rattle.confirm_reply.specs.Numbers.{numbers_of}

abbrev Numbered : Type 0
Numbered = ℕ × Act

abbrev Placed : Type 0
Placed = Path × SplitView

abbrev NumberedView : Type 0
NumberedView = Placed × List Numbered

abbrev laid : Forest Placed → Forest Numbered → Forest NumberedView
laid views trees = with_cores (λ (v : Placed). (v.1).below) views trees

abbrev has_path : List ℕ → OpenedView → Bool
has_path wanted view = bytes_eq wanted view.path

-- what is found of a view that is opened
abbrev pub found_from : OpenedView → Found
found_from view = record { informees = view.informees; confirmers = view.confirmers; core = numbers_of view.core }

abbrev found_at : Option OpenedView → Option Found
found_at view = option_map found_from view

abbrev first_found : List ℕ → List NumberedView → Option Found
first_found wanted views = found_at (find (has_path wanted) (map opened_as views))

-- ---- paths

pub after_end : (left : Option (List ℕ)) (path : List ℕ) (k : ℕ) → after_path left (path ++ k ∷ []) ≡ after_step (after_path left path) k
after_end left [] k = refl
after_end left (step ∷ path) k = after_end (after_step left step) path k

after_none : (path : List ℕ) → after_path None path ≡ None
after_none [] = refl
after_none (step ∷ path) = after_none path

pub same_path : (wanted path : List ℕ) → bytes_eq wanted path ≡ is_reached (after_path (Some wanted) path)
same_path [] [] = refl
same_path (w ∷ wanted) [] = refl
same_path [] (step ∷ path) = sym (ap is_reached (after_none path))
same_path (w ∷ wanted) (step ∷ path) =
    elim (cases_Bool (nat_eq w step)) [
      | inl same ↦ rw same (same_path wanted path)
      | inr other ↦ rw other (sym (ap is_reached (after_none path)))
    ]

-- ---- the first of several

found_or : (a b : Option OpenedView) → found_at (option_or a b) ≡ option_or (found_at a) (found_at b)
found_or None b = refl
found_or (Some view) b = refl

first_append : (wanted : List ℕ) (vs ws : List NumberedView) → first_found wanted (vs ++ ws) ≡ option_or (first_found wanted vs) (first_found wanted ws)
first_append wanted vs ws =
    ap (λ (views : List OpenedView). found_at (find (has_path wanted) views)) (map-append opened_as vs ws)
    ∙ (ap found_at (find-append (has_path wanted) (map opened_as vs) (map opened_as ws))
    ∙ found_or (find (has_path wanted) (map opened_as vs)) (find (has_path wanted) (map opened_as ws)))

-- a view, those below it and those after it
step : (wanted : List ℕ) (left : Option (List ℕ)) (path : Path) (view : SplitView) (x : Numbered) (children : Forest Numbered)
    (inside after : List NumberedView) (below rest : Option Found)
    → bytes_eq wanted path ≡ is_reached left → first_found wanted inside ≡ below → first_found wanted after ≡ rest
    → first_found wanted (((path, view), x ∷ core_in view.below children) ∷ (inside ++ after)) ≡ option_or (view_or left view x children below) rest
step wanted left path view x children inside after below rest here found later =
    elim (cases_Bool (is_reached left)) [
      | inl all ↦ rw (here, all) refl
      | inr some ↦ rw (here, some) (first_append wanted inside after ∙ (λ i. option_or (found i) (later i)))
    ]

located : (wanted above : List ℕ) (k : ℕ) (views : Forest SplitView) (trees : Forest Numbered)
    → first_found wanted (preorder (laid (paths_from above k views) trees)) ≡ view_found (after_path (Some wanted) above) k views trees
located wanted above k NoRoots trees = refl
located wanted above k (Root view subviews others) NoRoots = refl
located wanted above k (Root view subviews others) (Root x children more) =
    let path = above ++ k ∷ [] in
    let left = after_step (after_path (Some wanted) above) k in
    let held = held_in view.below children in
    let ends : after_path (Some wanted) path ≡ left = after_end (Some wanted) above k in
    step wanted left path view x children (preorder (laid (paths_from path 0 subviews) held)) (preorder (laid (paths_from above (suc k) others) more))
    (view_found left 0 subviews held) (view_found (after_path (Some wanted) above) (suc k) others more)
    (same_path wanted path ∙ ap is_reached ends)
    (located wanted path 0 subviews held ∙ ap (λ (l : Option (List ℕ)). view_found l 0 subviews held) ends)
    (located wanted above (suc k) others more)

pub first_is_found : (wanted : List ℕ) (placed : List PlacedView) (trees : Forest Numbered)
    → first_found wanted (preorder (laid (placed_forest placed) trees)) ≡ view_found_in wanted placed trees
first_is_found wanted [] trees = refl
first_is_found wanted (p ∷ placed) NoRoots = refl
first_is_found wanted (p ∷ placed) (Root x children more) =
    let left = after_path (Some wanted) p.path in
    let held = held_in p.view.root.below children in
    step wanted left p.path p.view.root x children (preorder (laid (paths_from p.path 0 p.view.below) held)) (preorder (laid (placed_forest placed) more))
    (view_found left 0 p.view.below held) (view_found_in wanted placed more)
    (same_path wanted p.path) (located wanted p.path 0 p.view.below held) (first_is_found wanted placed more)
