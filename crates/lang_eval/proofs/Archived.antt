-- Templates of which the first have the choice Archive.
use Rattle.std.proofs.Common.{◌≡◌, ℕ, zero, suc, ◌+◌, ◌<◌, List, [], ◌∷◌, ◌++◌, length, map, take, drop, get_or, slice_set, ap, ◌∙◌, arith}
use Rattle.ledger_terms.specs.Packages.{TemplateForm}
use Rattle.lang_eval.specs.Builtin.{with_archive}

archived_place : (xs : List TemplateForm) (i : ℕ) (x y : TemplateForm) → i < length xs
    → y ≡ with_archive (get_or (map with_archive (take i xs) ++ drop i xs) i x)
    → slice_set (map with_archive (take i xs) ++ drop i xs) i y ≡ map with_archive (take (suc i) xs) ++ drop (suc i) xs
archived_place [] i x y lt h = let no : ⊥ = omega arith in absurd no
archived_place (t ∷ xs) zero x y lt h = ap (λ (t : TemplateForm). t ∷ xs) h
archived_place (t ∷ xs) (suc i) x y lt h = ap (λ (l : List TemplateForm). with_archive t ∷ l) (archived_place xs i x y (omega arith) h)

-- one more of them gets it
pub archived_more : (ts xs : List TemplateForm) (i : ℕ) (x y : TemplateForm) → i < length xs → ts ≡ map with_archive (take i xs) ++ drop i xs
    → x ≡ get_or ts i x → y ≡ with_archive x → slice_set ts i y ≡ map with_archive (take (i + 1) xs) ++ drop (i + 1) xs
archived_more ts xs i x y lt e found added =
    let next : i + 1 ≡ suc i = omega arith in
    rw (e, next) (archived_place xs i x y lt (added ∙ ap with_archive (found ∙ ap (λ (l : List TemplateForm). get_or l i x) e)))
