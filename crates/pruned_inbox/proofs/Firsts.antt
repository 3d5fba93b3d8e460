-- Rows of which each contract has one: the first of each.
use Rattle.std.proofs.Common.{◌≡◌, Bool, true, false, List, [], ◌∷◌, ◌++◌, filter, refl, sym, ap, ◌∙◌, inl, inr, not}
use Rattle.std.specs.Prelude.{◌&&◌}
use Rattle.std.specs.Str.{bytes_eq}
use Rattle.std.proofs.lemmas.Bool.{cases_Bool}
use Rattle.std.proofs.lemmas.Slice.Eq.{bytes_eq-Decides}
use Rattle.ledger_model.specs.Terms.{Hash}
use Rattle.ledger_model.proofs.Lists.{filter_append}
use Rattle.ledger_terms.specs.declared.active_row.ActiveRow.{ActiveRow}
use Rattle.canton_model.specs.Inbox.{first_of_each}
use Rattle.canton_model.proofs.FirstRows.{is_other}
use Rattle.pruned_inbox.specs.Start.{has_row}

-- ---- filters

pub filter_same : (f g : ActiveRow → Bool) → ((row : ActiveRow) → f row ≡ g row) → (rows : List ActiveRow) → filter f rows ≡ filter g rows
filter_same f g same [] = refl
filter_same f g same (x ∷ xs) =
    let rest = filter_same f g same xs in
    elim (cases_Bool (g x)) [
      | inl keeps ↦ let also = same x ∙ keeps in rw (keeps, also, rest) refl
      | inr drops ↦ let also = same x ∙ drops in rw (drops, also, rest) refl
    ]

pub filter_both : (f g : ActiveRow → Bool) (rows : List ActiveRow) → filter f (filter g rows) ≡ filter (λ row. f row && g row) rows
filter_both f g [] = refl
filter_both f g (x ∷ xs) =
    let rest = filter_both f g xs in
    elim (cases_Bool (g x)) [
      | inl keeps ↦ elim (cases_Bool (f x)) [ inl also ↦ rw (keeps, also, rest) refl | inr out ↦ rw (keeps, out, rest) refl ]
      | inr drops ↦ elim (cases_Bool (f x)) [ inl also ↦ rw (drops, also, rest) refl | inr out ↦ rw (drops, out, rest) refl ]
    ]

-- ---- the first row of each contract

abbrev pub is_beside : List ActiveRow → ActiveRow → Bool
is_beside rows row = not (has_row rows row.known.id)

turned : (a b : Hash) → bytes_eq a b ≡ bytes_eq b a
turned a b =
    elim (cases_Bool (bytes_eq b a)) [
      | inl same ↦ (bytes_eq-Decides a b).1 (sym ((bytes_eq-Decides b a).0 same)) ∙ sym same
      | inr other ↦ elim (cases_Bool (bytes_eq a b)) [
        | inr also ↦ also ∙ sym other
        | inl same ↦ let wrong : true ≡ false = sym ((bytes_eq-Decides b a).1 (sym ((bytes_eq-Decides a b).0 same))) ∙ other in absurd (cc)
      ]
    ]

beside_more : (x : ActiveRow) (rows : List ActiveRow) (row : ActiveRow) → (is_other x row && is_beside rows row) ≡ is_beside (x ∷ rows) row
beside_more x rows row =
    let swap = turned row.known.id x.known.id in
    elim (cases_Bool (bytes_eq x.known.id row.known.id)) [ inl same ↦ rw (swap, same) refl | inr other ↦ rw (swap, other) refl ]

pub first_append : (xs ys : List ActiveRow) → first_of_each (xs ++ ys) ≡ first_of_each xs ++ filter (is_beside xs) (first_of_each ys)
first_append [] ys = sym (all_kept (first_of_each ys))
  where
    all_kept : (rows : List ActiveRow) → filter (is_beside []) rows ≡ rows
    all_kept [] = refl
    all_kept (r ∷ rows) = ap (λ (zs : List ActiveRow). r ∷ zs) (all_kept rows)
first_append (x ∷ xs) ys =
    let later = filter (is_other x) (filter (is_beside xs) (first_of_each ys)) in
    let joined : later ≡ filter (is_beside (x ∷ xs)) (first_of_each ys) =
    filter_both (is_other x) (is_beside xs) (first_of_each ys)
    ∙ filter_same (λ row. is_other x row && is_beside xs row) (is_beside (x ∷ xs)) (beside_more x xs) (first_of_each ys) in
    ap (λ (rows : List ActiveRow). x ∷ filter (is_other x) rows) (first_append xs ys)
    ∙ (ap (λ (rows : List ActiveRow). x ∷ rows) (filter_append (is_other x) (first_of_each xs) (filter (is_beside xs) (first_of_each ys)))
    ∙ ap (λ (rows : List ActiveRow). x ∷ (filter (is_other x) (first_of_each xs) ++ rows)) joined)

-- ---- rows of which no two are of one contract

both_ways : (a b : Bool) → (a && b) ≡ (b && a)
both_ways true true = refl
both_ways true false = refl
both_ways false true = refl
both_ways false false = refl

both_same : (a : Bool) → (a && a) ≡ a
both_same true = refl
both_same false = refl

filter_twice : (f : ActiveRow → Bool) (rows : List ActiveRow) → filter f (filter f rows) ≡ filter f rows
filter_twice f rows = filter_both f f rows ∙ filter_same (λ row. f row && f row) f (λ row. both_same (f row)) rows

filter_turned : (f g : ActiveRow → Bool) (rows : List ActiveRow) → filter f (filter g rows) ≡ filter g (filter f rows)
filter_turned f g rows =
    filter_both f g rows
    ∙ (filter_same (λ row. f row && g row) (λ row. g row && f row) (λ row. both_ways (f row) (g row)) rows ∙ sym (filter_both g f rows))

abbrev Apart : List ActiveRow → Type 0
Apart [] = Unit {0}
Apart (x ∷ xs) = (filter (is_other x) xs ≡ xs) × Apart xs

first_all : (rows : List ActiveRow) → Apart rows → first_of_each rows ≡ rows
first_all [] h = refl
first_all (x ∷ xs) h =
    ap (λ (rows : List ActiveRow). x ∷ filter (is_other x) rows) (first_all xs h.1) ∙ ap (λ (rows : List ActiveRow). x ∷ rows) h.0

apart_filter : (f : ActiveRow → Bool) (rows : List ActiveRow) → Apart rows → Apart (filter f rows)
apart_filter f [] h = tt
apart_filter f (x ∷ xs) h =
    elim (cases_Bool (f x)) [
      | inl keeps ↦ rw keeps (filter_turned (is_other x) f xs ∙ ap (filter f) h.0, apart_filter f xs h.1)
      | inr drops ↦ rw drops (apart_filter f xs h.1)
    ]

apart_first : (rows : List ActiveRow) → Apart (first_of_each rows)
apart_first [] = tt
apart_first (x ∷ xs) =
    (filter_twice (is_other x) (first_of_each xs), apart_filter (is_other x) (first_of_each xs) (apart_first xs))

first_left : (f : ActiveRow → Bool) (rows : List ActiveRow) → first_of_each (filter f (first_of_each rows)) ≡ filter f (first_of_each rows)
first_left f rows = first_all (filter f (first_of_each rows)) (apart_filter f (first_of_each rows) (apart_first rows))

-- What is wanted of all rows is wanted of those that were left of the earlier ones, with the later ones behind.
pub first_joined : (wanted wanted_since left : ActiveRow → Bool) (earlier later : List ActiveRow)
    → ((row : ActiveRow) → wanted row ≡ (wanted_since row && left row))
    → ((row : ActiveRow) → (wanted row && is_beside earlier row) ≡ (wanted_since row && is_beside (filter left (first_of_each earlier)) row))
    → filter wanted (first_of_each (earlier ++ later)) ≡ filter wanted_since (first_of_each (filter left (first_of_each earlier) ++ later))
first_joined wanted wanted_since left earlier later of_left of_new =
    let kept = filter left (first_of_each earlier) in
    let rows = first_of_each later in
    let old_part : filter wanted (first_of_each earlier) ≡ filter wanted_since kept =
    filter_same wanted (λ row. wanted_since row && left row) of_left (first_of_each earlier) ∙ sym (filter_both wanted_since left (first_of_each earlier)) in
    let new_part : filter wanted (filter (is_beside earlier) rows) ≡ filter wanted_since (filter (is_beside kept) rows) =
    filter_both wanted (is_beside earlier) rows
    ∙ (filter_same (λ row. wanted row && is_beside earlier row) (λ row. wanted_since row && is_beside kept row) of_new rows
    ∙ sym (filter_both wanted_since (is_beside kept) rows)) in
    ap (filter wanted) (first_append earlier later)
    ∙ (filter_append wanted (first_of_each earlier) (filter (is_beside earlier) rows)
    ∙ (ap (λ (front : List ActiveRow). front ++ filter wanted (filter (is_beside earlier) rows)) old_part
    ∙ (ap (λ (back : List ActiveRow). filter wanted_since kept ++ back) new_part
    ∙ (sym (filter_append wanted_since kept (filter (is_beside kept) rows))
    ∙ (ap (λ (front : List ActiveRow). filter wanted_since (front ++ filter (is_beside kept) rows)) (sym (first_left left earlier))
    ∙ ap (filter wanted_since) (sym (first_append kept later)))))))
