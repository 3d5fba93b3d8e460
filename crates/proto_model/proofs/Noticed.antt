-- What is read of a request is what the protocol's definitions say of it.
use Rattle.std.proofs.Common.{◌≡◌, ℕ, suc, Bool, true, false, List, [], ◌∷◌, ◌++◌, map, filter, refl, sym, ap, ◌∙◌, inl, inr}
use Rattle.std.specs.Prelude.{◌||◌, nat_eq, not}
use Rattle.std.specs.List.{list_any}
use Rattle.std.proofs.lemmas.Bool.{cases_Bool}
use Rattle.std.proofs.lemmas.List.{map-append}
use Rattle.ledger_terms.specs.Forest.{Forest, NoRoots, Root, paths_from, preorder, project}
use Rattle.ledger_terms.specs.Hosting.{confirms_at, hosts_at}
use Rattle.ledger_terms.specs.declared.topology.Topology.{Topology}
use Rattle.ledger_model.specs.Terms.{Name, ParticipantId, Path}
use Rattle.ledger_model.proofs.Projected.{preorder_join}
use Rattle.canton_model.specs.Reading.{Outlined, is_recipient, is_some_path, paths_confirmed, paths_seen}
use Rattle.canton_model.specs.declared.request.Request.{Request}
use Rattle.lang_eval.specs.Found.{Packages}
use Rattle.view_split.specs.Numbered.{map_forest}
use Rattle.blind_tree.specs.Leaves.{Sets}
use Rattle.blind_tree.specs.Opening.{view_roles}
use Rattle.framed_form.specs.FramedForm.{outline_of}
use Rattle.framed_form.specs.FramedForm as bytes
use Rattle.framed_form.specs.FramedReading.{framed_reading, stated}
use Rattle.framed_form.specs.Frames.{tells}
use Rattle.framed_form.specs.Outlines.{listed_views}
use Rattle.proto_model.specs.Notices.{confirmed_among}

abbrev Placed : Type 0
Placed = Path × Sets

abbrev with_path : Placed → Path × Outlined
with_path view = (view.0, stated view.1)

abbrev told : Path → ℕ → Forest Sets → List (Path × Outlined)
told above k views = preorder (paths_from above k (map_forest stated views))

abbrev path_of : Path × Outlined → Path
path_of view = view.0

told_is : (above : Path) (k : ℕ) (views : Forest Sets) → told above k views ≡ map with_path (preorder (paths_from above k views))
told_is above k NoRoots = refl
told_is above k (Root sets below others) =
    (λ i. (above ++ k ∷ [], stated sets) ∷ (told_is (above ++ k ∷ []) 0 below i ++ told_is above (suc k) others i))
    ∙ ap (λ (vs : List (Path × Outlined)). (above ++ k ∷ [], stated sets) ∷ vs)
    (sym (map-append with_path (preorder (paths_from (above ++ k ∷ []) 0 below)) (preorder (paths_from above (suc k) others))))

same_paths : (views : List Placed) → map path_of (map with_path views) ≡ map (λ (view : Placed). view.0) views
same_paths [] = refl
same_paths (view ∷ views) = ap (λ (ps : List Path). view.0 ∷ ps) (same_paths views)

paths_told : (above : Path) (k : ℕ) (views : Forest Sets) → map path_of (told above k views) ≡ map (λ (view : Placed). view.0) (preorder (paths_from above k views))
paths_told above k views = ap (λ (vs : List (Path × Outlined)). map path_of vs) (told_is above k views) ∙ same_paths (preorder (paths_from above k views))

module _ (hosts : Name → Bool) where
  abbrev sees : Path × Outlined → Bool
  sees view = list_any hosts (view.1).informees

  abbrev sees_placed : Placed → Bool
  sees_placed view = tells hosts view.1

  seen_alike : (above : Path) (k : ℕ) (views : Forest Sets)
      → map path_of (preorder (project sees (paths_from above k (map_forest stated views))))
      ≡ map (λ (view : Placed). view.0) (preorder (project sees_placed (paths_from above k views)))
  seen_alike above k NoRoots = refl
  seen_alike above k (Root sets below others) =
      let path = above ++ k ∷ [] in
      let bs = paths_from path 0 (map_forest stated below) in
      let os = paths_from above (suc k) (map_forest stated others) in
      let cs = paths_from path 0 below in
      let ps = paths_from above (suc k) others in
      let o = seen_alike above (suc k) others in
      elim (cases_Bool (list_any hosts sets.0)) [
        | inl is ↦ rw is
            (ap (λ (xs : List Path). path ∷ xs)
            (map-append path_of (preorder bs) (preorder (project sees os))
            ∙ ((λ i. paths_told path 0 below i ++ o i)
            ∙ sym (map-append (λ (view : Placed). view.0) (preorder cs) (preorder (project sees_placed ps))))))
        | inr out ↦ rw out
            (ap (λ (xs : List (Path × Outlined)). map path_of xs) (preorder_join (project sees bs) (project sees os))
            ∙ (map-append path_of (preorder (project sees bs)) (preorder (project sees os))
            ∙ ((λ i. seen_alike path 0 below i ++ o i)
            ∙ (sym (map-append (λ (view : Placed). view.0) (preorder (project sees_placed cs)) (preorder (project sees_placed ps)))
            ∙ ap (λ (xs : List Placed). map (λ (view : Placed). view.0) xs) (sym (preorder_join (project sees_placed cs) (project sees_placed ps)))))))
      ]

confirmed_alike : (confirms : Name → Bool) (views : List Placed)
    → map path_of (filter (λ (view : Path × Outlined). list_any confirms (view.1).confirmers) (map with_path views))
    ≡ confirmed_among confirms (map (λ (view : Placed). view_roles view.0 view.1) views)
confirmed_alike confirms [] = refl
confirmed_alike confirms (view ∷ views) =
    elim (cases_Bool (list_any confirms (view.1).1)) [
      | inl is ↦ rw is (ap (λ (ps : List Path). view.0 ∷ ps) (confirmed_alike confirms views))
      | inr out ↦ rw out (confirmed_alike confirms views)
    ]

module _ (topology : Topology) (packages : Packages) (me : ParticipantId) (request : Request) where
  pub seen_is : paths_seen (framed_reading topology packages) me request ≡ bytes.paths_seen topology me request
  seen_is = seen_alike (hosts_at topology.hosts me) [] 0 (outline_of request)

  pub confirmed_is : paths_confirmed (framed_reading topology packages) me request ≡ confirmed_among (confirms_at topology.hosts me) (listed_views (outline_of request))
  confirmed_is =
      ap (λ (vs : List (Path × Outlined)). map path_of (filter (λ (view : Path × Outlined). list_any (confirms_at topology.hosts me) (view.1).confirmers) vs))
      (told_is [] 0 (outline_of request))
      ∙ confirmed_alike (confirms_at topology.hosts me) (preorder (paths_from [] 0 (outline_of request)))

  -- who is a recipient
  pub recipient_is : (seen : List Path) → seen ≡ bytes.paths_seen topology me request → (is : Bool) → is ≡ (nat_eq me request.sender || is_some_path seen)
      → is_recipient (framed_reading topology packages) me request ≡ is
  recipient_is seen same is e = ap (λ (paths : List Path). nat_eq me request.sender || is_some_path paths) (seen_is ∙ sym same) ∙ sym e

pub some_path : (paths : List Path) (empty : Bool) → (empty ≡ true → paths ≡ []) → (paths ≡ [] → empty ≡ true) → not empty ≡ is_some_path paths
some_path [] true is back = refl
some_path [] false is back = let no = back refl in absurd cc
some_path (path ∷ paths) true is back = let no = is refl in absurd cc
some_path (path ∷ paths) false is back = refl
