-- What is left at the base says of each contract what the actions below it say.
use Rattle.std.proofs.Common.{◌≡◌, ℕ, zero, suc, ◌≤◌, Bool, true, false, List, [], ◌∷◌, ◌++◌, filter, refl, sym, ap, ◌∙◌, inl, inr, not}
use Rattle.std.specs.Prelude.{if◌then◌else◌, ◌&&◌, ◌||◌}
use Rattle.std.specs.List.{list_any}
use Rattle.std.specs.Str.{bytes_eq}
use Rattle.std.proofs.lemmas.Bool.{cases_Bool}
use Rattle.std.proofs.lemmas.Slice.Eq.{bytes_eq-Decides}
use Rattle.ledger_model.specs.Terms.{Hash, creates, consumes, is_create}
use Rattle.ledger_terms.specs.declared.act.Act.{Act}
use Rattle.ledger_terms.specs.declared.active_row.ActiveRow.{ActiveRow}
use Rattle.ledger_terms.specs.declared.params.Params.{Params}
use Rattle.ledger_model.specs.Forest.{acts}
use Rattle.ledger_model.specs.Status.{status_after}
use Rattle.ledger_model.specs.declared.status.Status.{Status}
use Rattle.ledger_model.specs.declared.status.Status.TheVariants.{Unknown, Active, Consumed}
use Rattle.canton_model.specs.Reading.{Reading}
use Rattle.canton_model.specs.Timeline.{is_approved_in}
use Rattle.canton_model.specs.Inbox.{Item, moments, opened_at, active_row, created_at_place, created_below, first_of_each, authentic_below, past_in, status_in_inbox}
use Rattle.canton_model.proofs.FirstRows.{is_other}
use Rattle.pruned_inbox.specs.Base.{IsBase}
use Rattle.pruned_inbox.specs.Forgotten.{forget}
use Rattle.pruned_inbox.specs.Orderly.{IsOrderly}
use Rattle.pruned_inbox.specs.Start.{Start, IsStart, is_row_of, has_row, is_gone, is_left_by, touches, left_below, status_since, status_kept}
use Rattle.pruned_inbox.proofs.Counted.{past_split}

pub any_append : {X : Type 0} (p : X → Bool) (xs ys : List X) → list_any p (xs ++ ys) ≡ (list_any p xs || list_any p ys)
any_append p [] ys = refl
any_append p (x ∷ xs) ys = elim (cases_Bool (p x)) [
  | inl here ↦ rw here refl
  | inr out ↦ rw out (any_append p xs ys)
]

both_true : (a : Bool) → (a && true) ≡ a
both_true true = refl
both_true false = refl

both_false : (a : Bool) → (a && false) ≡ false
both_false true = refl
both_false false = refl

-- a test that answers alike for all rows of a contract
pub row_filtered : (c : Hash) (test : ActiveRow → Bool) (answer : Bool) → ((row : ActiveRow) → is_row_of c row ≡ true → test row ≡ answer) → (rows : List ActiveRow)
    → has_row (filter test rows) c ≡ (has_row rows c && answer)
row_filtered c test answer same [] = refl
row_filtered c test answer same (x ∷ xs) =
    let rest = row_filtered c test answer same xs in
    elim (cases_Bool (is_row_of c x)) [
      | inr other ↦ elim (cases_Bool (test x)) [
        | inl keeps ↦ rw (keeps, other) rest
        | inr drops ↦ rw (drops, other) rest
      ]
      | inl its ↦ elim (cases_Bool (test x)) [
        | inl keeps ↦ let yes' : answer ≡ true = sym (same x its) ∙ keeps in rw (keeps, its, yes') refl
        | inr drops ↦
            let no' : answer ≡ false = sym (same x its) ∙ drops in
            rw drops (rest ∙ (ap (λ (a : Bool). has_row xs c && a) no' ∙ (both_false (has_row xs c) ∙ sym (ap (λ (a : Bool). has_row (x ∷ xs) c && a) no' ∙ both_false (has_row (x ∷ xs) c)))))
      ]
    ]

same_id : (c : Hash) (row : ActiveRow) → is_row_of c row ≡ true → row.known.id ≡ c
same_id c row h = (bytes_eq-Decides row.known.id c).0 h

apart : (c : Hash) (x row : ActiveRow) → is_row_of c x ≡ false → is_row_of c row ≡ true → is_other x row ≡ true
apart c x row other its =
    elim (cases_Bool (bytes_eq row.known.id x.known.id)) [
      | inr out ↦ rw out refl
      | inl same ↦
          let e : x.known.id ≡ c = sym ((bytes_eq-Decides row.known.id x.known.id).0 same) ∙ same_id c row its in
          let wrong : true ≡ false = sym ((bytes_eq-Decides x.known.id c).1 e) ∙ other in absurd (cc)
    ]

pub has_first : (c : Hash) (rows : List ActiveRow) → has_row (first_of_each rows) c ≡ has_row rows c
has_first c [] = refl
has_first c (x ∷ xs) =
    elim (cases_Bool (is_row_of c x)) [
      | inl its ↦ rw its refl
      | inr other ↦
          let others = row_filtered c (is_other x) true (λ row its. apart c x row other its) (first_of_each xs) in
          rw other (others ∙ (both_true (has_row (first_of_each xs) c) ∙ has_first c xs))
    ]

-- the rows that Creates make
created_here : (c : Hash) (place : ℕ) (xs : List Act) → has_row (created_at_place place xs) c ≡ list_any (creates c) xs
created_here c place [] = refl
created_here c place (x ∷ xs) =
    let rest = created_here c place xs in
    elim (cases_Bool (is_create x.action)) [
      | inl made ↦ elim (cases_Bool (is_row_of c (active_row place x))) [
        | inl its ↦ rw (made, its) refl
        | inr other ↦ rw (made, other) rest
      ]
      | inr not_made ↦ elim (cases_Bool (is_row_of c (active_row place x))) [
        | inl its ↦ rw (not_made, its) rest
        | inr other ↦ rw (not_made, other) rest
      ]
    ]

pub has_created : (reading : Reading) (items : List Item) (n : ℕ) (c : Hash) → has_row (created_below reading items n) c ≡ list_any (creates c) (authentic_below reading items n)
has_created reading items zero c = refl
has_created reading items (suc k) c =
    let here : List Act = if is_approved_in k (moments items) then filter reading.is_authentic (acts (opened_at items k)) else [] in
    any_append (is_row_of c) (created_below reading items k) (created_at_place k here)
    ∙ (ap (λ (a : Bool). a || has_row (created_at_place k here) c) (has_created reading items k c)
    ∙ (ap (λ (a : Bool). list_any (creates c) (authentic_below reading items k) || a) (created_here c k here)
    ∙ sym (any_append (creates c) (authentic_below reading items k) here)))

left_alike : (all : List Act) (c : Hash) (row : ActiveRow) → is_row_of c row ≡ true → is_left_by all row ≡ not (list_any (consumes c) all)
left_alike all c row its = ap (λ (id : Hash). not (list_any (consumes id) all)) (same_id c row its)

-- the contracts that are left active
pub has_left : (reading : Reading) (items : List Item) (b : ℕ) (c : Hash)
    → has_row (left_below reading items b) c ≡ (list_any (creates c) (authentic_below reading items b) && not (list_any (consumes c) (authentic_below reading items b)))
has_left reading items b c =
    let all = authentic_below reading items b in
    row_filtered c (is_left_by all) (not (list_any (consumes c) all)) (left_alike all c) (first_of_each (created_below reading items b))
    ∙ ap (λ (a : Bool). a && not (list_any (consumes c) all)) (has_first c (created_below reading items b) ∙ has_created reading items b c)

pub touched : (c : Hash) (xs : List Act) → list_any (touches c) xs ≡ (list_any (creates c) xs || list_any (consumes c) xs)
touched c [] = refl
touched c (x ∷ xs) =
    let rest = touched c xs in
    elim (cases_Bool (creates c x)) [
      | inl made ↦ rw made refl
      | inr not_made ↦ elim (cases_Bool (consumes c x)) [
        | inl used ↦ rw (not_made, used) (sym (either_true (list_any (creates c) xs)))
        | inr not_used ↦ rw (not_made, not_used) rest
      ]
    ]
  where
    either_true : (a : Bool) → (a || true) ≡ true
    either_true true = refl
    either_true false = refl

others : (made used : Bool) → ((made || used) && not (made && not used)) ≡ used
others true true = refl
others true false = refl
others false true = refl
others false false = refl

module _ (reading : Reading) (items : List Item) (b : ℕ) (start : Start) (starts : IsStart reading items b start) where
  abbrev before : List Act
  before = authentic_below reading items b

  pub is_active_there : (c : Hash) → has_row start.active c ≡ (list_any (creates c) before && not (list_any (consumes c) before))
  is_active_there c = ap (λ (rows : List ActiveRow). has_row rows c) starts.active ∙ has_left reading items b c

  -- the others are those that some action consumes
  pub is_gone_there : (c : Hash) → is_gone start c ≡ list_any (consumes c) before
  is_gone_there c =
      starts.gone c
      ∙ (ap (λ (t : Bool). t && not (has_row start.active c)) (touched c before)
      ∙ (ap (λ (a : Bool). (list_any (creates c) before || list_any (consumes c) before) && not a) (is_active_there c)
      ∙ others (list_any (creates c) before) (list_any (consumes c) before)))

-- ---- status

abbrev told : (gone active : Bool) → Status
told gone active = if gone then Consumed else if active then Active else Unknown

told_same : (made used made_since used_since : Bool) → told (used || used_since) (made || made_since) ≡ told (used || used_since) ((made && not used) || made_since)
told_same true true x y = refl
told_same true false x y = refl
told_same false true x y = refl
told_same false false x y = refl

pub status_split : (reading : Reading) (items : List Item) (b : ℕ) (start : Start) → IsStart reading items b start → (since : List Act) (c : Hash)
    → status_after (authentic_below reading items b ++ since) c ≡ status_since start since c
status_split reading items b start starts since c =
    let before = authentic_below reading items b in
    ap (λ (gone : Bool). told gone (list_any (creates c) (before ++ since))) (any_append (consumes c) before since)
    ∙ (ap (λ (active : Bool). told (list_any (consumes c) before || list_any (consumes c) since) active) (any_append (creates c) before since)
    ∙ (told_same (list_any (creates c) before) (list_any (consumes c) before) (list_any (creates c) since) (list_any (consumes c) since)
    ∙ (ap (λ (gone : Bool). told (gone || list_any (consumes c) since) ((list_any (creates c) before && not (list_any (consumes c) before)) || list_any (creates c) since)) (sym (is_gone_there reading items b start starts c))
    ∙ ap (λ (active : Bool). told (is_gone start c || list_any (consumes c) since) (active || list_any (creates c) since)) (sym (is_active_there reading items b start starts c)))))

pub status_same : (reading : Reading) (params : Params) (b : ℕ) (items : List Item) → IsOrderly params items → IsBase params items b → (start : Start) → IsStart reading items b start
    → (k : ℕ) (c : Hash) → b ≤ k → status_in_inbox reading items k c ≡ status_kept reading start (forget b items) k c
status_same reading params b items orderly is_base start starts k c le =
    ap (λ (past : List Act). status_after past c) (past_split reading params b items orderly is_base k le)
    ∙ status_split reading items b start starts (past_in reading (forget b items) k) c
