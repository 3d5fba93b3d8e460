-- A pruned inbox is pruned again as the whole one.
use Rattle.std.proofs.Common.{◌≡◌, ℕ, ◌≤◌, Bool, true, false, List, ◌++◌, filter, refl, sym, ap, ◌∙◌, inl, inr, arith, not}
use Rattle.std.specs.Prelude.{◌&&◌, ◌||◌}
use Rattle.std.specs.List.{list_any}
use Rattle.std.proofs.lemmas.Bool.{cases_lt}
use Rattle.ledger_terms.specs.declared.act.Act.{Act}
use Rattle.ledger_terms.specs.declared.active_row.ActiveRow.{ActiveRow}
use Rattle.ledger_terms.specs.declared.params.Params.{Params}
use Rattle.ledger_model.specs.Terms.{Hash, creates, consumes}
use Rattle.canton_model.specs.Reading.{Reading}
use Rattle.canton_model.specs.Inbox.{Item, authentic_below, created_below, first_of_each}
use Rattle.pruned_inbox.specs.Base.{IsBase, base}
use Rattle.pruned_inbox.specs.Forgotten.{forget}
use Rattle.pruned_inbox.specs.Orderly.{IsOrderly}
use Rattle.pruned_inbox.specs.Start.{Start, IsStart, GoesOn, has_row, is_gone, is_left_by, is_left_since, left_below, left_kept, touches}
use Rattle.pruned_inbox.proofs.Kept.{all_behind, forget_length, decided_kept}
use Rattle.pruned_inbox.proofs.Decisions.{decided_later}
use Rattle.pruned_inbox.proofs.Counted.{authentic_split}
use Rattle.pruned_inbox.proofs.Starts.{any_append, has_created, has_left, touched, is_active_there, is_gone_there}
use Rattle.pruned_inbox.proofs.Actives.{created_split}
use Rattle.pruned_inbox.proofs.Firsts.{is_beside, first_joined}
use Rattle.pruned_inbox.proofs.Cleaned.{base_is_base, base_is_most}
use Rattle.pruned_inbox.proofs.Kept.{received_below, received_from}

-- ---- tests

left_test : (used used_since : Bool) → not (used || used_since) ≡ ((not used && not used_since) && not used)
left_test true true = refl
left_test true false = refl
left_test false true = refl
left_test false false = refl

new_test : (made used used_since : Bool) → (not (used || used_since) && not made) ≡ ((not used && not used_since) && not (made && not used))
new_test true true true = refl
new_test true true false = refl
new_test true false true = refl
new_test true false false = refl
new_test false true true = refl
new_test false true false = refl
new_test false false true = refl
new_test false false false = refl

in_all : (made used since : Bool) → ((made || used) || since) ≡ (used || ((made && not used) || since))
in_all true true since = refl
in_all true false since = refl
in_all false true since = refl
in_all false false since = refl

module _ (reading : Reading) (params : Params) (b : ℕ) (items : List Item) (orderly : IsOrderly params items) (is_base : IsBase params items b) (start : Start) (starts : IsStart reading items b start) where
  abbrev kept : List Item
  kept = forget b items

  abbrev before : List Act
  before = authentic_below reading items b

  abbrev since : ℕ → List Act
  since n = authentic_below reading kept n

  used : (n : ℕ) → b ≤ n → (row : ActiveRow) → is_left_by (authentic_below reading items n) row ≡ not (list_any (consumes row.known.id) before || list_any (consumes row.known.id) (since n))
  used n le row =
      ap (λ (all : List Act). is_left_by all row) (authentic_split reading params b items orderly is_base n le)
      ∙ ap not (any_append (consumes row.known.id) before (since n))

  left_since : (n : ℕ) (row : ActiveRow)
      → is_left_since start (since n) row ≡ (not (list_any (consumes row.known.id) before) && not (list_any (consumes row.known.id) (since n)))
  left_since n row = ap (λ (gone : Bool). not gone && is_left_by (since n) row) (is_gone_there reading items b start starts row.known.id)

  left_row : (n : ℕ) → b ≤ n → (row : ActiveRow)
      → is_left_by (authentic_below reading items n) row ≡ (is_left_since start (since n) row && is_left_by before row)
  left_row n le row =
      used n le row
      ∙ (left_test (list_any (consumes row.known.id) before) (list_any (consumes row.known.id) (since n))
      ∙ ap (λ (t : Bool). t && is_left_by before row) (sym (left_since n row)))

  new_row : (n : ℕ) → b ≤ n → (row : ActiveRow)
      → (is_left_by (authentic_below reading items n) row && is_beside (created_below reading items b) row)
      ≡ (is_left_since start (since n) row && is_beside (left_below reading items b) row)
  new_row n le row =
      let c = row.known.id in
      let u = list_any (consumes c) before in
      let s = list_any (consumes c) (since n) in
      ap (λ (t : Bool). t && is_beside (created_below reading items b) row) (used n le row)
      ∙ (ap (λ (m : Bool). not (u || s) && not m) (has_created reading items b c)
      ∙ (new_test (list_any (creates c) before) u s
      ∙ (ap (λ (m : Bool). (not u && not s) && not m) (sym (has_left reading items b c))
      ∙ ap (λ (t : Bool). t && is_beside (left_below reading items b) row) (sym (left_since n row)))))

  left_same : (n : ℕ) → b ≤ n → left_below reading items n ≡ left_kept reading start kept n
  left_same n le =
      ap (λ (rows : List ActiveRow). filter (is_left_by (authentic_below reading items n)) (first_of_each rows)) (created_split reading params 0 b items orderly is_base n le)
      ∙ (first_joined (is_left_by (authentic_below reading items n)) (is_left_since start (since n)) (is_left_by before)
      (created_below reading items b) (created_below reading kept n) (left_row n le) (new_row n le)
      ∙ ap (λ (rows : List ActiveRow). filter (is_left_since start (since n)) (first_of_each (rows ++ created_below reading kept n))) (sym starts.active))

  touched_same : (n : ℕ) (c : Hash) → b ≤ n
      → list_any (touches c) (authentic_below reading items n) ≡ (is_gone start c || (has_row start.active c || list_any (touches c) (since n)))
  touched_same n c le =
      ap (λ (all : List Act). list_any (touches c) all) (authentic_split reading params b items orderly is_base n le)
      ∙ (any_append (touches c) before (since n)
      ∙ (ap (λ (t : Bool). t || list_any (touches c) (since n)) (touched c before)
      ∙ (in_all (list_any (creates c) before) (list_any (consumes c) before) (list_any (touches c) (since n))
      ∙ (ap (λ (g : Bool). g || ((list_any (creates c) before && not (list_any (consumes c) before)) || list_any (touches c) (since n))) (sym (is_gone_there reading items b start starts c))
      ∙ ap (λ (a : Bool). is_gone start c || (a || list_any (touches c) (since n))) (sym (is_active_there reading items b start starts c))))))

  -- what a start and the items since leave at a later place is what the whole inbox leaves there
  pub goes_on : (n : ℕ) (next : Start) → b ≤ n → GoesOn reading kept n start next → IsStart reading items n next
  goes_on n next le on =
      record {
        active = on.active ∙ sym (left_same n le);
        gone = λ c. on.gone c ∙ ap (λ (t : Bool). t && not (has_row next.active c)) (sym (touched_same n c le));
        ascend = on.ascend;
      }

-- ---- the base

module _ (params : Params) (b : ℕ) (items : List Item) (orderly : IsOrderly params items) (is_base : IsBase params items b) where
  abbrev those : List Item
  those = forget b items

  those_base : (n : ℕ) → IsBase params items n → IsBase params those n
  those_base n h =
      record {
        within = let w = h.within in let same = forget_length b items in omega (arith, w, same);
        decided = λ m lt received.
            elim (cases_lt m b) [
              | inl below ↦ let wrong : true ≡ false = sym received ∙ received_below b items m below in absurd (cc)
              | inr far ↦ decided_kept params b items (all_behind params items orderly) m n far ∙ h.decided m lt (sym (received_from b items m far) ∙ received)
            ];
      }

  items_base : (n : ℕ) → b ≤ n → IsBase params those n → IsBase params items n
  items_base n le h =
      record {
        within = let w = h.within in let same = forget_length b items in omega (arith, w, same);
        decided = λ m lt received.
            elim (cases_lt m b) [
              | inl below ↦ decided_later params items m b n le (is_base.decided m below received)
              | inr far ↦ sym (decided_kept params b items (all_behind params items orderly) m n far) ∙ h.decided m lt (received_from b items m far ∙ received)
            ];
      }

  pub base_same : base params those ≡ base params items
  base_same =
      let up = base_is_most params those (base params items) (those_base (base params items) (base_is_base params items)) in
      let mine = base_is_most params those b (those_base b is_base) in
      let down = base_is_most params items (base params those) (items_base (base params those) mine (base_is_base params those)) in
      omega (arith, up, down)
