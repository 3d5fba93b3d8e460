-- The views that a participant sees, taken one after another in order of path.
use Rattle.std.proofs.Common.{◌≡◌, ℕ, suc, ◌+◌, ◌<◌, ◌≤◌, Bool, true, false, List, [], ◌∷◌, ◌++◌, length, map, drop, get_or, Option, Some, None, is_some}
use Rattle.std.proofs.Common.{refl, sym, ap, ◌∙◌, inl, inr, append-nil, append_assoc, arith}
use Rattle.std.specs.Prelude.{if◌then◌else◌, nat_lt}
use Rattle.std.specs.List.{list_any}
use Rattle.std.proofs.lemmas.Bool.{cases_Bool, le-ltb, lt-ltb}
use Rattle.std.proofs.lemmas.List.{drop_more, length-append, map-append}
use Rattle.std.proofs.Math.ListN.{drop_of_length-le}
use Rattle.ledger_terms.specs.Forest.{Forest, NoRoots, Root, paths_from, preorder, project}
use Rattle.ledger_model.specs.Terms.{Name, Path}
use Rattle.ledger_model.proofs.Projected.{preorder_join}
use Rattle.blind_tree.specs.Leaves.{Sets}
use Rattle.blind_tree.specs.Opening.{view_roles}
use Rattle.blind_tree.specs.declared.view_roles.ViewRoles.{ViewRoles}
use Rattle.framed_form.specs.Frames.{paths_in, seen_in, tells}
use Rattle.framed_form.specs.Outlines.{listed_views}
use Rattle.proto_model.specs.Notices.{confirmed_among, top_seen}

abbrev pub path_if : Bool → Path → List Path
path_if wanted path = if wanted then path ∷ [] else []

-- the paths of those of views that are seen, where the topmost view that is seen is known of the view before them
abbrev pub seen_after : (Name → Bool) → Option ℕ → List ViewRoles → List Path
seen_after hosts top [] = []
seen_after hosts top (view ∷ views) = path_if (is_some (top_seen hosts top view)) view.path ++ seen_after hosts (top_seen hosts top view) views

-- ---- views of a forest

abbrev Placed : Type 0
Placed = Path × Sets

abbrev listed : Placed → ViewRoles
listed view = view_roles view.0 view.1

abbrev told : Path → ℕ → Forest Sets → List ViewRoles
told above k views = map listed (preorder (paths_from above k views))

told_root : (above : Path) (k : ℕ) (sets : Sets) (below others : Forest Sets)
    → told above k (Root sets below others) ≡ view_roles (above ++ k ∷ []) sets ∷ (told (above ++ k ∷ []) 0 below ++ told above (suc k) others)
told_root above k sets below others =
    ap (λ (views : List ViewRoles). view_roles (above ++ k ∷ []) sets ∷ views)
    (map-append listed (preorder (paths_from (above ++ k ∷ []) 0 below)) (preorder (paths_from above (suc k) others)))

abbrev all_paths : Path → ℕ → Forest Sets → List Path
all_paths above k views = paths_in (paths_from above k views)

paths_root : (above : Path) (k : ℕ) (sets : Sets) (below others : Forest Sets)
    → all_paths above k (Root sets below others) ≡ (above ++ k ∷ []) ∷ (all_paths (above ++ k ∷ []) 0 below ++ all_paths above (suc k) others)
paths_root above k sets below others =
    ap (λ (paths : List Path). (above ++ k ∷ []) ∷ paths)
    (map-append (λ (view : Placed). view.0) (preorder (paths_from (above ++ k ∷ []) 0 below)) (preorder (paths_from above (suc k) others)))

deep : (above : Path) (k : ℕ) → length (above ++ k ∷ []) ≡ suc (length above)
deep above k = length-append above (k ∷ []) ∙ omega arith

module _ (hosts : Name → Bool) where
  -- below a view that is seen all are
  inside : (top : ℕ) (above : Path) (k : ℕ) (views : Forest Sets) (rest : List ViewRoles) → top ≤ length above
      → seen_after hosts (Some top) (told above k views ++ rest) ≡ all_paths above k views ++ seen_after hosts (Some top) rest
  inside top above k NoRoots rest low = refl
  inside top above k (Root sets below others) rest low =
      let path = above ++ k ∷ [] in
      let d = deep above k in
      let under : nat_lt top (length path) ≡ true = lt-ltb top (length path) (omega (arith, d, low)) in
      let later = told above (suc k) others ++ rest in
      let b = inside top path 0 below later (omega (arith, d, low)) in
      let o = inside top above (suc k) others rest low in
      ap (λ (vs : List ViewRoles). seen_after hosts (Some top) (vs ++ rest)) (told_root above k sets below others)
      ∙ (first under (told path 0 below ++ told above (suc k) others ++ rest)
      ∙ (ap (λ (vs : List ViewRoles). path ∷ seen_after hosts (Some top) vs) (append_assoc (told path 0 below) (told above (suc k) others) rest)
      ∙ (ap (λ (ps : List Path). path ∷ ps) (b ∙ ap (λ (ps : List Path). all_paths path 0 below ++ ps) o
      ∙ sym (append_assoc (all_paths path 0 below) (all_paths above (suc k) others) (seen_after hosts (Some top) rest)))
      ∙ ap (λ (ps : List Path). ps ++ seen_after hosts (Some top) rest) (sym (paths_root above k sets below others)))))
    where
      first : nat_lt top (length (above ++ k ∷ [])) ≡ true → (vs : List ViewRoles)
          → seen_after hosts (Some top) (view_roles (above ++ k ∷ []) sets ∷ vs) ≡ (above ++ k ∷ []) ∷ seen_after hosts (Some top) vs
      first under vs = rw under refl

  -- no view at this depth or above it stands below the topmost one that is seen
  abbrev IsPast : Option ℕ → ℕ → Type 0
  IsPast None depth = Unit {0}
  IsPast (Some top) depth = depth ≤ top

  abbrev IsShallow : ℕ → List ViewRoles → Type 0
  IsShallow depth [] = Unit {0}
  IsShallow depth (view ∷ views) = length view.path ≤ depth

  past : (top : Option ℕ) (depth : ℕ) (rest : List ViewRoles) → IsPast top depth → IsShallow depth rest → seen_after hosts top rest ≡ seen_after hosts None rest
  past None depth rest p s = refl
  past (Some top) depth [] p s = refl
  past (Some top) depth (view ∷ views) p s =
      let over : nat_lt top (length view.path) ≡ false = le-ltb top (length view.path) (omega (arith, p, s)) in rw over refl

  abbrev kept : Placed → Bool
  kept view = tells hosts view.1

  abbrev seen_from : Path → ℕ → Forest Sets → List Path
  seen_from above k views = paths_in (project kept (paths_from above k views))

  shallow_later : (above : Path) (k depth : ℕ) (views : Forest Sets) (rest : List ViewRoles) → suc (length above) ≤ depth → IsShallow depth rest
      → IsShallow depth (told above k views ++ rest)
  shallow_later above k depth NoRoots rest low s = s
  shallow_later above k depth (Root sets below others) rest low s = let d = deep above k in omega (arith, d, low)

  shallower : (a b : ℕ) (rest : List ViewRoles) → a ≤ b → IsShallow a rest → IsShallow b rest
  shallower a b [] low s = tt
  shallower a b (view ∷ views) low s = omega (arith, low, s)

  outside : (top : Option ℕ) (above : Path) (k : ℕ) (views : Forest Sets) (rest : List ViewRoles)
      → IsPast top (suc (length above)) → IsShallow (suc (length above)) rest
      → seen_after hosts top (told above k views ++ rest) ≡ seen_from above k views ++ seen_after hosts None rest
  outside top above k NoRoots rest p s = past top (suc (length above)) rest p s
  outside top above k (Root sets below others) rest p s =
      let path = above ++ k ∷ [] in
      let d = deep above k in
      let later = told above (suc k) others ++ rest in
      let all = told path 0 below ++ later in
      ap (λ (vs : List ViewRoles). seen_after hosts top (vs ++ rest)) (told_root above k sets below others)
      ∙ (ap (λ (vs : List ViewRoles). seen_after hosts top (view_roles path sets ∷ vs)) (append_assoc (told path 0 below) (told above (suc k) others) rest)
      ∙ (past top (suc (length above)) (view_roles path sets ∷ all) p (omega (arith, d))
      ∙ elim (cases_Bool (list_any hosts sets.0)) [
        | inl is ↦
            (let b = inside (length path) path 0 below later (omega arith) in
            let o = outside (Some (length path)) above (suc k) others rest (omega (arith, d)) s in
            rw is
            (ap (λ (ps : List Path). path ∷ ps) (b ∙ ap (λ (ps : List Path). all_paths path 0 below ++ ps) o
            ∙ sym (append_assoc (all_paths path 0 below) (seen_from above (suc k) others) (seen_after hosts None rest)))
            ∙ ap (λ (ps : List Path). path ∷ (ps ++ seen_after hosts None rest))
            (sym (map-append (λ (view : Placed). view.0) (preorder (paths_from path 0 below)) (preorder (project kept (paths_from above (suc k) others)))))))
        | inr out ↦
            (let low = shallow_later above (suc k) (suc (length path)) others rest (omega (arith, d)) (shallower (suc (length above)) (suc (length path)) rest (omega (arith, d)) s) in
            let b = outside None path 0 below later tt low in
            let o = outside None above (suc k) others rest tt s in
            rw out
            (b ∙ (ap (λ (ps : List Path). seen_from path 0 below ++ ps) o
            ∙ (sym (append_assoc (seen_from path 0 below) (seen_from above (suc k) others) (seen_after hosts None rest))
            ∙ ap (λ (ps : List Path). ps ++ seen_after hosts None rest)
            (sym (map-append (λ (view : Placed). view.0) (preorder (project kept (paths_from path 0 below))) (preorder (project kept (paths_from above (suc k) others))))
            ∙ ap (λ (vs : List Placed). map (λ (view : Placed). view.0) vs)
            (sym (preorder_join (project kept (paths_from path 0 below)) (project kept (paths_from above (suc k) others)))))))))
      ]))

  -- one after another they are those that are seen
  pub all_seen : (views : Forest Sets) → seen_after hosts None (listed_views views) ≡ seen_in hosts views
  all_seen views =
      ap (seen_after hosts None) (sym (append-nil (listed_views views)))
      ∙ (outside None [] 0 views [] tt tt ∙ append-nil (seen_in hosts views))

  -- ---- the walk

  pub seen_step : (views : List ViewRoles) (i : ℕ) (view : ViewRoles) (top next : Option ℕ) (out new all : List Path) → i < length views → view ≡ get_or views i view
      → next ≡ top_seen hosts top view → new ≡ out ++ path_if (is_some next) view.path
      → out ++ seen_after hosts top (drop i views) ≡ all → new ++ seen_after hosts next (drop (i + 1) views) ≡ all
  seen_step views i view top next out new all lt at is grown before =
      let rest = seen_after hosts next (drop (i + 1) views) in
      let here : seen_after hosts top (drop i views) ≡ path_if (is_some next) view.path ++ rest = rw (drop_more views i view lt, ← at, is) refl in
      ap (λ (ps : List Path). ps ++ rest) grown
      ∙ (append_assoc out (path_if (is_some next) view.path) rest ∙ (ap (λ (ps : List Path). out ++ ps) (sym here) ∙ before))

  pub seen_end : (views : List ViewRoles) (i : ℕ) (top : Option ℕ) (out all : List Path) → length views ≤ i
      → out ++ seen_after hosts top (drop i views) ≡ all → out ≡ all
  seen_end views i top out all past before = sym (append-nil out) ∙ (rw (drop_of_length-le views past) at before)

-- ---- the views that are confirmed

module _ (confirms : Name → Bool) where
  pub confirmed_step : (views : List ViewRoles) (i : ℕ) (view : ViewRoles) (out new all : List Path) → i < length views → view ≡ get_or views i view
      → new ≡ out ++ path_if (list_any confirms view.confirmers) view.path
      → out ++ confirmed_among confirms (drop i views) ≡ all → new ++ confirmed_among confirms (drop (i + 1) views) ≡ all
  confirmed_step views i view out new all lt at grown before =
      let rest = confirmed_among confirms (drop (i + 1) views) in
      let here : confirmed_among confirms (drop i views) ≡ path_if (list_any confirms view.confirmers) view.path ++ rest = rw (drop_more views i view lt, ← at) (one view (drop (i + 1) views)) in
      ap (λ (ps : List Path). ps ++ rest) grown
      ∙ (append_assoc out (path_if (list_any confirms view.confirmers) view.path) rest ∙ (ap (λ (ps : List Path). out ++ ps) (sym here) ∙ before))
    where
      one : (view : ViewRoles) (views : List ViewRoles)
          → confirmed_among confirms (view ∷ views) ≡ path_if (list_any confirms view.confirmers) view.path ++ confirmed_among confirms views
      one view views = elim (cases_Bool (list_any confirms view.confirmers)) [ inl is ↦ rw is refl | inr out ↦ rw out refl ]

  pub confirmed_end : (views : List ViewRoles) (i : ℕ) (out all : List Path) → length views ≤ i
      → out ++ confirmed_among confirms (drop i views) ≡ all → out ≡ all
  confirmed_end views i out all past before = sym (append-nil out) ∙ (rw (drop_of_length-le views past) at before)
