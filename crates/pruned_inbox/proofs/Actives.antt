-- Active contracts: those that are left at the base and those that came since, without what was consumed since.
use Rattle.std.proofs.Common.{◌≡◌, ℕ, zero, suc, ◌<◌, ◌≤◌, Bool, true, false, List, [], ◌∷◌, ◌++◌, filter, Option, refl, sym, ap, ◌∙◌, inl, inr, arith, not, append_assoc}
use Rattle.std.specs.Prelude.{if◌then◌else◌, ◌&&◌, ◌||◌}
use Rattle.std.specs.List.{list_any}
use Rattle.std.proofs.lemmas.Bool.{cases_lt}
use Rattle.ledger_model.specs.Terms.{consumes, creates, ParticipantId}
use Rattle.ledger_terms.specs.declared.act.Act.{Act}
use Rattle.ledger_terms.specs.declared.active_row.ActiveRow.{ActiveRow}
use Rattle.ledger_terms.specs.declared.params.Params.{Params}
use Rattle.ledger_model.specs.Forest.{acts}
use Rattle.ledger_model.specs.Opening.{Shown, roots_in}
use Rattle.canton_model.specs.Reading.{Reading}
use Rattle.canton_model.specs.Timeline.{is_approved_in}
use Rattle.canton_model.specs.Inbox.{Item, moments, opened_at, created_at_place, created_below, first_of_each, authentic_below, is_active_row, is_stakeholder_hosted, node_active}
use Rattle.pruned_inbox.specs.Base.{IsBase}
use Rattle.pruned_inbox.specs.Forgotten.{forget}
use Rattle.pruned_inbox.specs.Orderly.{IsOrderly}
use Rattle.pruned_inbox.specs.Start.{Start, IsStart, is_left_by, is_active_since, left_below, active_kept}
use Rattle.pruned_inbox.proofs.Kept.{all_behind, shown_below, shown_from, approved_all}
use Rattle.pruned_inbox.proofs.Counted.{authentic_split}
use Rattle.pruned_inbox.proofs.Firsts.{filter_both, is_beside, first_joined}
use Rattle.pruned_inbox.proofs.Starts.{any_append, has_created, has_left, is_gone_there}

-- ---- tests

left_test : (hosted used used_since : Bool) → (hosted && not (used || used_since)) ≡ ((not used && (hosted && not used_since)) && not used)
left_test true true true = refl
left_test true true false = refl
left_test true false true = refl
left_test true false false = refl
left_test false true true = refl
left_test false true false = refl
left_test false false true = refl
left_test false false false = refl

new_test : (hosted made used used_since : Bool)
    → ((hosted && not (used || used_since)) && not made) ≡ ((not used && (hosted && not used_since)) && not (made && not used))
new_test true true true true = refl
new_test true true true false = refl
new_test true true false true = refl
new_test true true false false = refl
new_test true false true true = refl
new_test true false true false = refl
new_test true false false true = refl
new_test true false false false = refl
new_test false made true used_since = refl
new_test false made false used_since = refl

-- ---- of an inbox

module _ (reading : Reading) (params : Params) (p : ParticipantId) (b : ℕ) (items : List Item) (orderly : IsOrderly params items) (is_base : IsBase params items b) where
  abbrev kept : List Item
  kept = forget b items

  abbrev here : List Item → ℕ → List Act
  here its k = if is_approved_in k (moments its) then filter reading.is_authentic (acts (opened_at its k)) else []

  none_here : (k : ℕ) → k < b → here kept k ≡ []
  none_here k lt =
      ap (λ (o : Option Shown). if is_approved_in k (moments kept) then filter reading.is_authentic (acts (roots_in o)) else []) (shown_below b items k lt)
      ∙ either (is_approved_in k (moments kept))
    where
      either : (a : Bool) → (if a then filter reading.is_authentic [] else []) ≡ []
      either true = refl
      either false = refl

  same_here : (k : ℕ) → b ≤ k → here kept k ≡ here items k
  same_here k le =
      ap (λ (a : Bool). if a then filter reading.is_authentic (acts (opened_at kept k)) else []) (approved_all params b items (all_behind params items orderly) k le)
      ∙ ap (λ (o : Option Shown). if is_approved_in k (moments items) then filter reading.is_authentic (acts (roots_in o)) else []) (shown_from b items k le)

  none_created : (n : ℕ) → n ≤ b → created_below reading kept n ≡ []
  none_created zero le = refl
  none_created (suc k) le =
      ap (λ (rows : List ActiveRow). rows ++ created_at_place k (here kept k)) (none_created k (omega (arith, le)))
      ∙ ap (created_at_place k) (none_here k (omega (arith, le)))

  append_none : (rows : List ActiveRow) → rows ++ [] ≡ rows
  append_none [] = refl
  append_none (r ∷ rows) = ap (λ (zs : List ActiveRow). r ∷ zs) (append_none rows)

  pub created_split : (n : ℕ) → b ≤ n → created_below reading items n ≡ created_below reading items b ++ created_below reading kept n
  created_split zero le = let bottom : b ≡ 0 = omega (arith, le) in rw bottom refl
  created_split (suc k) le =
      elim (cases_lt k b) [
        | inl lt ↦
            let top : b ≡ suc k = omega (arith, le, lt) in
            ap (created_below reading items) (sym top)
            ∙ (sym (append_none (created_below reading items b))
            ∙ ap (λ (rows : List ActiveRow). created_below reading items b ++ rows) (sym (none_created (suc k) (omega (arith, top)))))
        | inr far ↦
            ap (λ (rows : List ActiveRow). rows ++ created_at_place k (here items k)) (created_split k far)
            ∙ (ap (λ (xs : List Act). (created_below reading items b ++ created_below reading kept k) ++ created_at_place k xs) (sym (same_here k far))
            ∙ append_assoc (created_below reading items b) (created_below reading kept k) (created_at_place k (here kept k)))
      ]

  module _ (start : Start) (starts : IsStart reading items b start) where
    abbrev before : List Act
    before = authentic_below reading items b

    abbrev since : ℕ → List Act
    since n = authentic_below reading kept n

    abbrev hosted : ActiveRow → Bool
    hosted row = is_stakeholder_hosted reading p row.known.instance

    used : (n : ℕ) → b ≤ n → (row : ActiveRow)
        → is_active_row reading p (authentic_below reading items n) row
        ≡ (hosted row && not (list_any (consumes row.known.id) before || list_any (consumes row.known.id) (since n)))
    used n le row =
        ap (λ (all : List Act). is_active_row reading p all row) (authentic_split reading params b items orderly is_base n le)
        ∙ ap (λ (u : Bool). hosted row && not u) (any_append (consumes row.known.id) before (since n))

    -- what is gone is what was consumed
    active_since : (n : ℕ) (row : ActiveRow)
        → is_active_since reading p start (since n) row
        ≡ (not (list_any (consumes row.known.id) before) && (hosted row && not (list_any (consumes row.known.id) (since n))))
    active_since n row = ap (λ (gone : Bool). not gone && is_active_row reading p (since n) row) (is_gone_there reading items b start starts row.known.id)

    left_row : (n : ℕ) → b ≤ n → (row : ActiveRow)
        → is_active_row reading p (authentic_below reading items n) row ≡ (is_active_since reading p start (since n) row && is_left_by before row)
    left_row n le row =
        used n le row
        ∙ (left_test (hosted row) (list_any (consumes row.known.id) before) (list_any (consumes row.known.id) (since n))
        ∙ ap (λ (t : Bool). t && is_left_by before row) (sym (active_since n row)))

    new_row : (n : ℕ) → b ≤ n → (row : ActiveRow)
        → (is_active_row reading p (authentic_below reading items n) row && is_beside (created_below reading items b) row)
        ≡ (is_active_since reading p start (since n) row && is_beside (left_below reading items b) row)
    new_row n le row =
        let c = row.known.id in
        let u = list_any (consumes c) before in
        let s = list_any (consumes c) (since n) in
        ap (λ (t : Bool). t && is_beside (created_below reading items b) row) (used n le row)
        ∙ (ap (λ (m : Bool). (hosted row && not (u || s)) && not m) (has_created reading items b c)
        ∙ (new_test (hosted row) (list_any (creates c) before) u s
        ∙ (ap (λ (m : Bool). (not u && (hosted row && not s)) && not m) (sym (has_left reading items b c))
        ∙ ap (λ (t : Bool). t && is_beside (left_below reading items b) row) (sym (active_since n row)))))

    pub active_same : (n : ℕ) → b ≤ n → node_active reading p items n ≡ active_kept reading p start kept n
    active_same n le =
        ap (λ (rows : List ActiveRow). filter (is_active_row reading p (authentic_below reading items n)) (first_of_each rows)) (created_split n le)
        ∙ (first_joined (is_active_row reading p (authentic_below reading items n)) (is_active_since reading p start (since n)) (is_left_by before)
        (created_below reading items b) (created_below reading kept n) (left_row n le) (new_row n le)
        ∙ ap (λ (rows : List ActiveRow). filter (is_active_since reading p start (since n)) (first_of_each (rows ++ created_below reading kept n))) (sym starts.active))

-- those of the contracts left that have a hosted stakeholder are the active ones
pub active_there : (reading : Reading) (p : ParticipantId) (items : List Item) (b : ℕ) (start : Start) → IsStart reading items b start
    → node_active reading p items b ≡ filter (λ (row : ActiveRow). is_stakeholder_hosted reading p row.known.instance) start.active
active_there reading p items b start starts =
    let hosted : ActiveRow → Bool = λ row. is_stakeholder_hosted reading p row.known.instance in
    sym (filter_both hosted (is_left_by (authentic_below reading items b)) (first_of_each (created_below reading items b))) ∙ ap (filter hosted) (sym starts.active)
