-- One more element is written behind what was written.
use Rattle.std.proofs.Common.{◌≡◌, ℕ, ◌+◌, ◌<◌, List, ◌++◌, ap, append_assoc, drop, get_or, length, sym, ◌∙◌}
use Rattle.std.specs.List.{flat_map}
use Rattle.std.proofs.lemmas.List.{drop_more}

pub one_more : {A : Type 0} (spell : A → List ℕ) (xs : List A) (i : ℕ) (x : A) (out new all : List ℕ) → i < length xs → x ≡ get_or xs i x
    → new ≡ out ++ spell x → out ++ flat_map spell (drop i xs) ≡ all → new ++ flat_map spell (drop (i + 1) xs) ≡ all
one_more spell xs i x out new all within is written before =
    let rest = flat_map spell (drop (i + 1) xs) in
    let split : flat_map spell (drop i xs) ≡ spell (get_or xs i x) ++ rest = ap (flat_map spell) (drop_more xs i x within) in
    let here : spell (get_or xs i x) ++ rest ≡ spell x ++ rest = ap (λ y. spell y ++ rest) (sym is) in
    ap (λ (zs : List ℕ). zs ++ rest) written
    ∙ (append_assoc out (spell x) rest ∙ (ap (λ (zs : List ℕ). out ++ zs) (sym (split ∙ here)) ∙ before))
