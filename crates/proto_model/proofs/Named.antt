-- Whether all that several lists have passes a test.
use Rattle.std.proofs.Common.{◌≡◌, Bool, List, [], ◌∷◌, refl, sym, ap, ◌∙◌}
use Rattle.std.specs.Prelude.{◌&&◌}
use Rattle.std.specs.List.{flat_map, list_all}
use Rattle.std.proofs.lemmas.List.Folds.{list_all-append}

pub all_flat : {A B : Type 0} (test : B → Bool) (parts : A → List B) (xs : List A) → list_all (λ x. list_all test (parts x)) xs ≡ list_all test (flat_map parts xs)
all_flat test parts [] = refl
all_flat test parts (x ∷ xs) =
    ap (λ (b : Bool). list_all test (parts x) && b) (all_flat test parts xs) ∙ sym (list_all-append test (parts x) (flat_map parts xs))
