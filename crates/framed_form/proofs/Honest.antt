-- What a tree that was made by the rules opens for the views that its recipient sees is what it opens at all.
use Rattle.std.proofs.Common.{◌≡◌, ℕ, suc, Bool, true, false, List, [], ◌∷◌, ◌++◌, Result, Ok, refl, ap, subst, ◌∙◌, inl, inr}
use Rattle.std.specs.Prelude.{◌&&◌}
use Rattle.std.proofs.lemmas.Bool.{and_from, cases_Bool}
use Rattle.ledger_terms.specs.Forest.{Forest, NoRoots, Root}
use Rattle.wire_form.specs.declared.wire_fault.WireFault.{WireFault}
use Rattle.view_split.specs.SeenViews.{is_sight}
use Rattle.view_split.specs.ViewTrees.{View}
use Rattle.view_split.specs.declared.placed_view.PlacedView.{PlacedView}
use Rattle.view_split.specs.declared.split_view.SplitView.{SplitView}
use Rattle.blind_tree.specs.Blind.{has_sight, leaf_of, shown_to, vertices_shown}
use Rattle.blind_tree.specs.LeafBytes.{core_bytes, roles_bytes}
use Rattle.blind_tree.specs.TreeHashes.{Hashing}
use Rattle.blind_tree.specs.OpenedFor.{are_listed, views_listed}
use Rattle.blind_tree.specs.Opening.{placed, view_read, views_opened, with_read}
use Rattle.framed_form.proofs.Listed.{Lists}

module _ (sha : Hashing) (hosts : List ℕ → Bool) (listed : List ℕ → Bool) where
  -- below a view that is seen all are listed
  all_listed : (above : List ℕ) (k : ℕ) (f : Forest SplitView) → Lists (is_sight hosts) listed true above k f → are_listed listed above k (vertices_shown sha (shown_to hosts true f)) ≡ true
  all_listed above k NoRoots lists = refl
  all_listed above k (Root view below others) lists =
      let path = above ++ k ∷ [] in
      let under = vertices_shown sha (shown_to hosts true below) in
      let after = vertices_shown sha (shown_to hosts true others) in
      and_from (listed path) (are_listed listed path 0 under && are_listed listed above (suc k) after) lists.0
      (and_from (are_listed listed path 0 under) (are_listed listed above (suc k) after) (all_listed path 0 below lists.1) (all_listed above (suc k) others lists.2))

  pub opens_listed : (above : List ℕ) (k : ℕ) (f : Forest SplitView) → Lists (is_sight hosts) listed false above k f
      → views_listed listed above k (vertices_shown sha (shown_to hosts false f)) ≡ views_opened above k (vertices_shown sha (shown_to hosts false f))
  opens_listed above k NoRoots lists = refl
  opens_listed above k (Root view below others) lists =
      let path = above ++ k ∷ [] in
      let after = opens_listed above (suc k) others lists.2 in
      elim (cases_Bool (is_sight hosts view)) [
        | inl sees ↦
            (let here : listed path ≡ true = lists.0 ∙ sees in
            let lists' : Lists (is_sight hosts) listed true path 0 below = subst (λ (b : Bool). Lists (is_sight hosts) listed b path 0 below) sees lists.1 in
            let all = all_listed path 0 below lists' in
            rw (sees, here, all) (ap (λ (r : Result (List PlacedView) WireFault).
            with_read (view_read (leaf_of sha true 3 (view.first).seed (roles_bytes view)) (leaf_of sha true 4 (view.first).seed (core_bytes view)) (vertices_shown sha (shown_to hosts true below)))
            (λ (v : View). with_read r (λ (rest : List PlacedView). Ok (placed path v ∷ rest)))) after))
        | inr unseen ↦
            (let here : listed path ≡ false = lists.0 ∙ unseen in
            let lists' : Lists (is_sight hosts) listed false path 0 below = subst (λ (b : Bool). Lists (is_sight hosts) listed b path 0 below) unseen lists.1 in
            elim (cases_Bool (has_sight hosts below)) [
              | inl some ↦ rw (unseen, some, here)
                  (λ i. with_read (opens_listed path 0 below lists' i) (λ (first : List PlacedView). with_read (after i) (λ (rest : List PlacedView). Ok (first ++ rest))))
              | inr none ↦ rw (unseen, none, here) after
            ])
      ]
