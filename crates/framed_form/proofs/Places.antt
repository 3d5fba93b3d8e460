-- Views by their paths, and what is told of them.
use Rattle.std.proofs.Common.{◌≡◌, ℕ, suc, ◌≤◌, Bool, true, List, [], ◌∷◌, ◌++◌, map, Contains, refl, sym, ap, ◌∙◌, subst, inl, inr, arith, append_assoc, le_refl}
use Rattle.std.specs.List.{list_any}
use Rattle.ledger_terms.specs.Forest.{Forest, NoRoots, Root, paths_from, preorder, project}
use Rattle.ledger_model.specs.Forest.{trees_of}
use Rattle.ledger_model.specs.Language.{roles_of}
use Rattle.ledger_model.specs.Opening.{Transaction, seen_paths}
use Rattle.ledger_model.specs.Terms.{ParticipantId, Path}
use Rattle.ledger_model.proofs.Lists.{In, contains_from_In, in_append_cases, in_append_left, in_append_right, in_filter, in_map}
use Rattle.canton_model.specs.declared.request.Request.{Request}
use Rattle.canton_model.specs.Reading.{Outlined, Reading, paths_confirmed, paths_in, paths_seen, placed_outline, view_paths}
use Rattle.view_split.specs.Numbered.{map_forest}
use Rattle.view_split.specs.SeenViews.{seen_views}
use Rattle.view_split.specs.Split.{split}
use Rattle.view_split.specs.declared.split_view.SplitView.{SplitView}
use Rattle.view_split.proofs.Fitting.{preorder-map}
use Rattle.view_split.proofs.Shown.{seen_paths_are}
use Rattle.view_split.proofs.Sight.{map_project}
use Rattle.framed_form.specs.ByRules.{told_of}

-- ---- one view at each path

-- the path begins with this one and a step from k on
abbrev IsFrom : Path → ℕ → Path → Type 0
IsFrom above k path = (j : ℕ) × (rest : Path) × (k ≤ j) × (path ≡ above ++ j ∷ rest)

same_step : (above : Path) (j k : ℕ) (r s : Path) → above ++ j ∷ r ≡ above ++ k ∷ s → (j ≡ k) × (r ≡ s)
same_step [] j k r s e = (cc, cc)
same_step (a ∷ above) j k r s e = same_step above j k r s cc

no_step : (j : ℕ) (r : Path) → [] ≡ j ∷ r → ⊥
no_step j r e = cc

module _ {V : Type 0} where
  froms : (above : Path) (k : ℕ) (f : Forest V) (x : Path × V) → In x (preorder (paths_from above k f)) → IsFrom above k x.0
  froms above k NoRoots x h = absurd h
  froms above k (Root root under others) x (inl same) = (k, [], le_refl k, ap (λ (y : Path × V). y.0) (sym same))
  froms above k (Root root under others) x (inr t) =
      elim (in_append_cases (preorder (paths_from (above ++ k ∷ []) 0 under)) (preorder (paths_from above (suc k) others)) x t) [
        | inl l ↦ let r = froms (above ++ k ∷ []) 0 under x l in (k, r.0 ∷ r.1, le_refl k, r.3 ∙ append_assoc above (k ∷ []) (r.0 ∷ r.1))
        | inr o ↦ let r = froms above (suc k) others x o in (r.0, r.1, omega (arith, r.2), r.3)
      ]

  -- a path of a view below, and one of a view after it
  below_at : (above : Path) (k : ℕ) (f : Forest V) (x : Path × V) → In x (preorder (paths_from (above ++ k ∷ []) 0 f)) → (j : ℕ) × (rest : Path) × (x.0 ≡ above ++ k ∷ j ∷ rest)
  below_at above k f x h = let r = froms (above ++ k ∷ []) 0 f x h in (r.0, r.1, r.3 ∙ append_assoc above (k ∷ []) (r.0 ∷ r.1))

  not_first : (above : Path) (k : ℕ) (f : Forest V) (x : Path × V) → In x (preorder (paths_from (above ++ k ∷ []) 0 f)) → above ++ k ∷ [] ≡ x.0 → ⊥
  not_first above k f x h e = let r = below_at above k f x h in no_step r.0 r.1 (same_step above k k [] (r.0 ∷ r.1) (e ∙ r.2)).1

  not_later : (above : Path) (k : ℕ) (rest : Path) (f : Forest V) (x : Path × V) → In x (preorder (paths_from above (suc k) f)) → above ++ k ∷ rest ≡ x.0 → ⊥
  not_later above k rest f x h e =
      let r = froms above (suc k) f x h in
      let same = (same_step above k r.0 rest r.1 (e ∙ r.3)).0 in
      absurd (omega (arith, same, r.2))

  pub one_at : (above : Path) (k : ℕ) (f : Forest V) (x y : Path × V) → In x (preorder (paths_from above k f)) → In y (preorder (paths_from above k f)) → x.0 ≡ y.0 → x ≡ y
  one_at above k NoRoots x y h i e = absurd h
  one_at above k (Root root under others) x y (inl h) (inl i) e = sym h ∙ i
  one_at above k (Root root under others) x y (inl h) (inr i) e =
      let first : above ++ k ∷ [] ≡ y.0 = ap (λ (z : Path × V). z.0) h ∙ e in
      elim (in_append_cases (preorder (paths_from (above ++ k ∷ []) 0 under)) (preorder (paths_from above (suc k) others)) y i) [
        | inl b ↦ absurd (not_first above k under y b first)
        | inr o ↦ absurd (not_later above k [] others y o first)
      ]
  one_at above k (Root root under others) x y (inr h) (inl i) e =
      let first : above ++ k ∷ [] ≡ x.0 = ap (λ (z : Path × V). z.0) i ∙ sym e in
      elim (in_append_cases (preorder (paths_from (above ++ k ∷ []) 0 under)) (preorder (paths_from above (suc k) others)) x h) [
        | inl b ↦ absurd (not_first above k under x b first)
        | inr o ↦ absurd (not_later above k [] others x o first)
      ]
  one_at above k (Root root under others) x y (inr h) (inr i) e =
      let inside = preorder (paths_from (above ++ k ∷ []) 0 under) in
      let later = preorder (paths_from above (suc k) others) in
      elim (in_append_cases inside later x h) [
        | inl b ↦ elim (in_append_cases inside later y i) [
          | inl c ↦ one_at (above ++ k ∷ []) 0 under x y b c e
          | inr o ↦ let r = below_at above k under x b in absurd (not_later above k (r.0 ∷ r.1) others y o (sym r.2 ∙ e))
        ]
        | inr o ↦ elim (in_append_cases inside later y i) [
          | inl c ↦ let r = below_at above k under y c in absurd (not_later above k (r.0 ∷ r.1) others x o (sym r.2 ∙ sym e))
          | inr p ↦ one_at above (suc k) others x y o p e
        ]
      ]

-- each member of a forest is the root of a tree in it
pub tree_with : {A : Type 0} (f : Forest A) (x : A) → In x (preorder f) → (below : Forest A) × In (x, below) (trees_of f)
tree_with NoRoots x h = absurd h
tree_with {A} (Root y below others) x (inl same) = (below, inl (ap (λ (z : A). (z, below)) same))
tree_with (Root y below others) x (inr t) =
    elim (in_append_cases (preorder below) (preorder others) x t) [
      | inl l ↦ let r = tree_with below x l in (r.0, inr (in_append_left (trees_of below) (trees_of others) (x, r.0) r.1))
      | inr o ↦ let r = tree_with others x o in (r.0, inr (in_append_right (trees_of below) (trees_of others) (x, r.0) r.1))
    ]

-- ---- paths of what is told

module _ {A B : Type 0} (g : A → B) where
  abbrev pub with_path : Path × A → Path × B
  with_path v = (v.0, g v.1)

  pub paths_mapped : (above : Path) (k : ℕ) (f : Forest A) → paths_from above k (map_forest g f) ≡ map_forest with_path (paths_from above k f)
  paths_mapped above k NoRoots = refl
  paths_mapped above k (Root x below others) =
      λ i. Root (above ++ k ∷ [], g x) (paths_mapped (above ++ k ∷ []) 0 below i) (paths_mapped above (suc k) others i)

  same_paths : (xs : List (Path × A)) → map (λ (v : Path × B). v.0) (map with_path xs) ≡ map (λ (v : Path × A). v.0) xs
  same_paths [] = refl
  same_paths (x ∷ xs) = ap (λ (ps : List Path). x.0 ∷ ps) (same_paths xs)

  pub paths_alike : (f : Forest (Path × A)) → map (λ (v : Path × B). v.0) (preorder (map_forest with_path f)) ≡ map (λ (v : Path × A). v.0) (preorder f)
  paths_alike f = ap (map (λ (v : Path × B). v.0)) (preorder-map with_path f) ∙ same_paths (preorder f)

module _ (reading : Reading) (request : Request) (t : Transaction) (told : reading.outline request ≡ map_forest told_of (split (roles_of reading.language) t.roots)) where
  abbrev pub whole : Forest (Path × SplitView)
  whole = paths_from [] 0 (split (roles_of reading.language) t.roots)

  placed_is : placed_outline reading request ≡ map_forest (with_path told_of) whole
  placed_is = ap (paths_from [] 0) told ∙ paths_mapped told_of [] 0 (split (roles_of reading.language) t.roots)

  listed : (v : Path × SplitView) → In v (preorder whole) → In (with_path told_of v) (preorder (placed_outline reading request))
  listed v h =
      subst (λ (f : Forest (Path × Outlined)). In (with_path told_of v) (preorder f)) (sym placed_is)
      (subst (λ (xs : List (Path × Outlined)). In (with_path told_of v) xs) (sym (preorder-map (with_path told_of) whole)) (in_map (with_path told_of) (preorder whole) v h))

  -- each view's path is one of the request
  pub path_told : (v : Path × SplitView) → In v (preorder whole) → Contains (view_paths reading request) v.0
  path_told v h =
      contains_from_In (view_paths reading request) v.0
      (in_map (λ (view : Path × Outlined). view.0) (preorder (placed_outline reading request)) (with_path told_of v) (listed v h))

  -- who confirms a confirmer of a view confirms its path
  pub path_confirmed : (p : ParticipantId) (v : Path × SplitView) → In v (preorder whole) → list_any (reading.confirms p) (v.1).confirmers ≡ true
      → Contains (paths_confirmed reading p request) v.0
  path_confirmed p v h c =
      let confirms : Path × Outlined → Bool = λ view. list_any (reading.confirms p) (view.1).confirmers in
      contains_from_In (paths_confirmed reading p request) v.0
      (in_map (λ (view : Path × Outlined). view.0) _ (with_path told_of v)
      (in_filter confirms (preorder (placed_outline reading request)) (with_path told_of v) (listed v h) c))

  -- what is seen of the request is what is seen of its transaction
  pub seen_are : (p : ParticipantId) → paths_seen reading p request ≡ seen_paths (roles_of reading.language) (reading.hosts p) t.roots
  seen_are p =
      let sees : Path × Outlined → Bool = λ view. list_any (reading.hosts p) (view.1).informees in
      ap (λ (f : Forest (Path × Outlined)). paths_in (project sees f)) placed_is
      ∙ (ap (λ (f : Forest (Path × Outlined)). paths_in f) (sym (map_project (with_path told_of) sees whole))
      ∙ (paths_alike told_of (seen_views (reading.hosts p) (split (roles_of reading.language) t.roots))
      ∙ seen_paths_are (roles_of reading.language) (reading.hosts p) t.roots))
