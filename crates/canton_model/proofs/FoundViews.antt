-- Views found by their paths.
use Rattle.std.proofs.Common.{◌≡◌, ℕ, true, false, List, [], ◌∷◌, map, Some, refl, sym, ap, ◌∙◌, subst, inl, inr}
use Rattle.std.specs.Str.{bytes_eq}
use Rattle.std.specs.Cmp.Lexicographic.{slice_cmp}
use Rattle.std.specs.declared.cmp.Ordering.{Ordering}
use Rattle.std.specs.declared.cmp.Ordering.TheVariants.{Equal}
use Rattle.std.specs.Ordering.{is_lt, nat_cmp, ordering_then}
use Rattle.std.specs.Cmp.{nat_cmp_is}
use Rattle.std.proofs.lemmas.Bool.{cases_Bool, both_ways}
use Rattle.std.proofs.lemmas.Option.{same_Some, none-some}
use Rattle.std.proofs.lemmas.Slice.Eq.{bytes_eq-Decides}
use Rattle.ledger_terms.specs.Parties.{name_below, AllAbove, IsRising}
use Rattle.ledger_model.specs.Terms.{Path}
use Rattle.ledger_model.specs.Opening.{OpenedView}
use Rattle.canton_model.specs.Checks.{view_at}
use Rattle.ledger_model.proofs.Lists.{In}

itself : (n : ℕ) → nat_cmp n n ≡ Equal
itself n = sym (nat_cmp_is n n Equal refl)

not_below_itself : (path : Path) → name_below path path ≡ false
not_below_itself [] = refl
not_below_itself (x ∷ xs) = ap (λ (o : Ordering). is_lt (ordering_then o (slice_cmp nat_cmp xs xs))) (itself x) ∙ not_below_itself xs

-- the first view with a path is one with that path
pub view_at_in : (path : Path) (views : List OpenedView) (view : OpenedView) → view_at path views ≡ Some view → In view views × (view.path ≡ path)
view_at_in path [] view h = absurd (none-some view h)
view_at_in path (x ∷ xs) view h =
    elim (cases_Bool (bytes_eq path x.path)) [
      | inl same ↦
          let is : x ≡ view = same_Some x view (rw same at h) in
          (inl is, ap (λ (v : OpenedView). v.path) (sym is) ∙ sym ((bytes_eq-Decides path x.path).0 same))
      | inr other ↦ let r = view_at_in path xs view (rw other at h) in (inr r.0, r.1)
    ]

-- where a view has the path one is found
pub found_at : (path : Path) (views : List OpenedView) (view : OpenedView) → In view views → view.path ≡ path → (first : OpenedView) × (view_at path views ≡ Some first)
found_at path [] view i same = absurd i
found_at path (x ∷ xs) view i same =
    elim (cases_Bool (bytes_eq path x.path)) [
      | inl here ↦ (x, rw here refl)
      | inr other ↦ elim i [
        | inl is ↦ absurd (both_ways _ other ((bytes_eq-Decides path x.path).1 (sym same ∙ ap (λ (v : OpenedView). v.path) (sym is))))
        | inr t ↦ let r = found_at path xs view t same in (r.0, rw other r.1)
      ]
    ]

-- where paths rise each view is the first with its path
above_all : (path : Path) (views : List OpenedView) (view : OpenedView) → AllAbove path (map (λ (v : OpenedView). v.path) views) → In view views → name_below path view.path ≡ true
above_all path [] view h i = absurd i
above_all path (x ∷ xs) view h (inl same) = ap (λ (v : OpenedView). name_below path v.path) (sym same) ∙ h.0
above_all path (x ∷ xs) view h (inr t) = above_all path xs view h.1 t

pub view_at_its_path : (views : List OpenedView) (view : OpenedView) → IsRising (map (λ (v : OpenedView). v.path) views) → In view views → view_at view.path views ≡ Some view
view_at_its_path [] view h i = absurd i
view_at_its_path (x ∷ xs) view h (inl same) = subst (λ (v : OpenedView). view_at v.path (x ∷ xs) ≡ Some v) same (rw ((bytes_eq-Decides x.path x.path).1 refl) refl)
view_at_its_path (x ∷ xs) view h (inr t) =
    elim (cases_Bool (bytes_eq view.path x.path)) [
      | inr other ↦ rw other (view_at_its_path xs view h.1 t)
      | inl same ↦ absurd (both_ways _ (not_below_itself view.path) (subst (λ (y : Path). name_below y view.path ≡ true) (sym ((bytes_eq-Decides view.path x.path).0 same)) (above_all x.path xs view h.0 t)))
    ]
