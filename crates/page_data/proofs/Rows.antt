-- Rows that are gone through by index.
use Rattle.std.proofs.Common.{◌≡◌, ℕ, zero, suc, ◌+◌, List, [], ◌∷◌, ◌++◌, drop, map, refl, sym, ap, ◌∙◌, subst, arith}
use Rattle.std.specs.Prelude.{slice_get}
use Rattle.std.proofs.lemmas.List.{append_assoc, map-append}
use Rattle.contract_store.specs.declared.row.StoreRow.{StoreRow}
use Rattle.page_data.specs.Knowledge.{rows_in}

drop_one : (rows : List StoreRow) (k : ℕ) → rows_in (slice_get rows k) ++ drop (suc k) rows ≡ drop k rows
drop_one [] zero = refl
drop_one [] (suc k) = refl
drop_one (row ∷ rows) zero = refl
drop_one (row ∷ rows) (suc k) = drop_one rows k

-- the row at a place is put behind those before it
pub row_more : (rows : List StoreRow) (k : ℕ) (done new all : List StoreRow) → new ≡ done ++ rows_in (slice_get rows k)
    → done ++ drop k rows ≡ all → new ++ drop (k + 1) rows ≡ all
row_more rows k done new all e so_far =
    let on : suc k ≡ k + 1 = omega arith in
    subst (λ (n : ℕ). new ++ drop n rows ≡ all) on
    (ap (λ (xs : List StoreRow). xs ++ drop (suc k) rows) e
    ∙ (append_assoc done (rows_in (slice_get rows k)) (drop (suc k) rows) ∙ (ap (λ (xs : List StoreRow). done ++ xs) (drop_one rows k) ∙ so_far)))

-- the same of what is made of rows
module _ {Y : Type 0} (f : StoreRow → Y) (rows : List StoreRow) where
  pub made_more : (k : ℕ) (done new all : List Y) → new ≡ done ++ map f (rows_in (slice_get rows k)) → done ++ map f (drop k rows) ≡ all
      → new ++ map f (drop (k + 1) rows) ≡ all
  made_more k done new all e so_far =
      let on : suc k ≡ k + 1 = omega arith in
      let one = rows_in (slice_get rows k) in
      let rest = drop (suc k) rows in
      let made : map f one ++ map f rest ≡ map f (drop k rows) = sym (map-append f one rest) ∙ ap (map f) (drop_one rows k) in
      subst (λ (n : ℕ). new ++ map f (drop n rows) ≡ all) on
      (ap (λ (xs : List Y). xs ++ map f rest) e ∙ (append_assoc done (map f one) (map f rest) ∙ (ap (λ (xs : List Y). done ++ xs) made ∙ so_far)))
