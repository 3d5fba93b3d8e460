-- Where each view was found well split by somebody who sees it, all are.
use Rattle.std.proofs.Common.{◌≡◌, ℕ, suc, Bool, true, false, List, [], ◌∷◌, ◌++◌, refl, sym, ap, ◌∙◌, subst, inl, inr, append_assoc}
use Rattle.std.proofs.lemmas.Bool.{cases_Bool, both_ways}
use Rattle.ledger_terms.specs.Forest.{Forest, NoRoots, Root, join, paths_from}
use Rattle.ledger_terms.specs.declared.action.Action.{Action}
use Rattle.ledger_model.specs.Forest.{trees_of}
use Rattle.ledger_model.specs.declared.roles.Roles.{Roles}
use Rattle.ledger_model.proofs.Lists.{In, in_append_left, in_append_right}
use Rattle.view_split.specs.Numbered.{map_forest}
use Rattle.view_split.specs.declared.split_view.SplitView.{SplitView}
use Rattle.view_split.proofs.Sight.{without_paths}
use Rattle.framed_form.specs.Frames.{paths_in}
use Rattle.framed_form.specs.Structure.{AreStructured, IsStructured}
use Rattle.framed_form.proofs.Listed.{Lists, kept, paths_root}

abbrev pub Placed : Type 0
Placed = List ℕ × SplitView

-- the trees of two forests side by side
trees_append : {A : Type 0} (f g : Forest A) → trees_of (join f g) ≡ trees_of f ++ trees_of g
trees_append NoRoots g = refl
trees_append {A} (Root x below others) g =
    ap (λ (ts : List (A × Forest A)). (x, below) ∷ ts) (ap (λ (ts : List (A × Forest A)). trees_of below ++ ts) (trees_append others g) ∙ sym (append_assoc (trees_of below) (trees_of others) (trees_of g)))

module _ (keeps : SplitView → Bool) (listed : List ℕ → Bool) (all : Forest Placed) where
  -- each tree of a forest is one of these
  abbrev Within : Forest Placed → Type 0
  Within f = (t : Placed × Forest Placed) → In t (trees_of f) → In t (trees_of all)

  -- every view that is listed stands there with all that is below it
  abbrev pub Stands : List ℕ → ℕ → Forest SplitView → Type 0
  Stands above k NoRoots = Unit {0}
  Stands above k (Root view below rest) =
      (listed (above ++ k ∷ []) ≡ true → In ((above ++ k ∷ [], view), paths_from (above ++ k ∷ []) 0 below) (trees_of all))
      × Stands (above ++ k ∷ []) 0 below
      × Stands above (suc k) rest

  stands_all : (above : List ℕ) (k : ℕ) (w : Forest SplitView) → Within (paths_from above k w) → Stands above k w
  stands_all above k NoRoots within = tt
  stands_all above k (Root view below rest) within =
      let path = above ++ k ∷ [] in
      let under = paths_from path 0 below in
      let after = paths_from above (suc k) rest in (
        λ h. within ((path, view), under) (inl refl),
        stands_all path 0 below (λ t h. within t (inr (in_append_left (trees_of under) (trees_of after) t h))),
        stands_all above (suc k) rest (λ t h. within t (inr (in_append_right (trees_of under) (trees_of after) t h))),
      )

  pub stands_kept : (above : List ℕ) (k : ℕ) (w : Forest SplitView) → Lists keeps listed false above k w → Within (kept keeps (paths_from above k w)) → Stands above k w
  stands_kept above k NoRoots lists within = tt
  stands_kept above k (Root view below rest) lists within =
      let path = above ++ k ∷ [] in
      let after = kept keeps (paths_from above (suc k) rest) in
      elim (cases_Bool (keeps view)) [
        | inl is ↦
            (let under = paths_from path 0 below in
            let within' : Within (Root (path, view) under after) = rw is at within in (
              λ h. within' ((path, view), under) (inl refl),
              stands_all path 0 below (λ t h. within' t (inr (in_append_left (trees_of under) (trees_of after) t h))),
              stands_kept above (suc k) rest lists.2 (λ t h. within' t (inr (in_append_right (trees_of under) (trees_of after) t h))),
            ))
        | inr out ↦
            (let under = kept keeps (paths_from path 0 below) in
            let within' : Within (join under after) = rw out at within in
            let lists' : Lists keeps listed false path 0 below = subst (λ (b : Bool). Lists keeps listed b path 0 below) out lists.1 in (
              λ h. absurd (both_ways (listed path) (lists.0 ∙ out) h),
              stands_kept path 0 below lists' (λ t h. within' t (subst (In t) (sym (trees_append under after)) (in_append_left (trees_of under) (trees_of after) t h))),
              stands_kept above (suc k) rest lists.2 (λ t h. within' t (subst (In t) (sym (trees_append under after)) (in_append_right (trees_of under) (trees_of after) t h))),
            ))
      ]

-- the view at a path is well split in what somebody is opened
pub record Found (roles : Action → Roles) (path : List ℕ) (all : Forest Placed) : Type 0 where
  pub right : (view : SplitView) (subviews : Forest Placed) → In ((path, view), subviews) (trees_of all)
      → IsStructured roles view (map_forest (λ (v : Placed). v.1) subviews)

-- Somebody sees the views w, of which these are listed to it, and found the view at a path well split.
pub record Voucher (roles : Action → Roles) (w : Forest SplitView) (path : List ℕ) : Type 0 where
  pub keeps : SplitView → Bool
  pub listed : List ℕ → Bool
  pub lists : Lists keeps listed false [] 0 w
  pub sees : listed path ≡ true
  pub found : Found roles path (kept keeps (paths_from [] 0 w))

module _ (roles : Action → Roles) (w : Forest SplitView) where
  -- a voucher's views at a place below
  abbrev Vouches : List ℕ → ℕ → Forest SplitView → Type 0
  Vouches above k NoRoots = Unit {0}
  Vouches above k (Root view below rest) =
      IsStructured roles view below × Vouches (above ++ k ∷ []) 0 below × Vouches above (suc k) rest

  structured_from : (above : List ℕ) (k : ℕ) (g : Forest SplitView) → Vouches above k g → AreStructured roles g
  structured_from above k NoRoots h = tt
  structured_from above k (Root view below rest) h = (h.0, structured_from (above ++ k ∷ []) 0 below h.1, structured_from above (suc k) rest h.2)

  -- what stands in all views for every voucher
  abbrev EachStands : List ℕ → ℕ → Forest SplitView → Type 0
  EachStands above k g = (keeps : SplitView → Bool) (listed : List ℕ → Bool) → Lists keeps listed false [] 0 w
      → Stands keeps listed (kept keeps (paths_from [] 0 w)) above k g

  vouched : (above : List ℕ) (k : ℕ) (g : Forest SplitView) → EachStands above k g
      → ((path : List ℕ) → In path (paths_in (paths_from above k g)) → Voucher roles w path) → Vouches above k g
  vouched above k NoRoots each vouchers = tt
  vouched above k (Root view below rest) each vouchers =
      let path = above ++ k ∷ [] in
      let under = paths_from path 0 below in
      let after = paths_from above (suc k) rest in
      let some : (q : List ℕ) → In q (path ∷ (paths_in under ++ paths_in after)) → Voucher roles w q =
      λ q h. vouchers q (subst (In q) (sym (paths_root (path, view) under after)) h) in
      let v = some path (inl refl) in
      let there = (each v.keeps v.listed v.lists).0 v.sees in
      let right = (v.found).right view under there in (
        subst (λ (s : Forest SplitView). IsStructured roles view s) (without_paths path 0 below) right,
        vouched path 0 below (λ keeps listed lists. (each keeps listed lists).1) (λ q h. some q (inr (in_append_left (paths_in under) (paths_in after) q h))),
        vouched above (suc k) rest (λ keeps listed lists. (each keeps listed lists).2) (λ q h. some q (inr (in_append_right (paths_in under) (paths_in after) q h))),
      )

  pub all_structured : ((path : List ℕ) → In path (paths_in (paths_from [] 0 w)) → Voucher roles w path) → AreStructured roles w
  all_structured vouchers =
      structured_from [] 0 w
      (vouched [] 0 w (λ keeps listed lists. stands_kept keeps listed (kept keeps (paths_from [] 0 w)) [] 0 w lists (λ t h. h)) vouchers)
