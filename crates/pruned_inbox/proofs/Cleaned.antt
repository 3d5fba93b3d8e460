-- The clean place, what stands below it, and the base.
use Rattle.std.proofs.Common.{◌≡◌, ℕ, zero, suc, ◌<◌, ◌≤◌, Bool, true, false, List, [], ◌∷◌, ◌++◌, take, length, Option, Some, filter, refl, sym, ap, ◌∙◌, inl, inr, arith, not}
use Rattle.std.specs.Prelude.{slice_get, nat_le, ◌&&◌, if◌then◌else◌}
use Rattle.std.proofs.lemmas.Bool.{cases_Bool, cases_lt, le-leb, leb-true, and_parts, or_cases}
use Rattle.ledger_terms.specs.declared.act.Act.{Act}
use Rattle.ledger_terms.specs.declared.params.Params.{Params}
use Rattle.ledger_model.specs.declared.commit.Commit.{Commit}
use Rattle.ledger_model.specs.Forest.{Forest, NoRoots, Root}
use Rattle.ledger_model.specs.Opening.{Shown, roots_in}
use Rattle.ledger_model.proofs.Lists.{filter_append}
use Rattle.canton_model.specs.Timeline.{is_approved_in}
use Rattle.canton_model.specs.Inbox.{Item, Notice, moments, notice_at, opened_at, is_received, is_decided_in, IsClean, clean, last_time, part_if, parts_below, node_log, is_kept_from, is_withheld_in, withheld_below, withheld}
use Rattle.canton_model.proofs.InboxFacts.{clean_is_clean, clean_is_most}
use Rattle.pruned_inbox.specs.Base.{IsBase, is_settled_at, all_below, greatest, base}
use Rattle.pruned_inbox.specs.Forgotten.{forget}
use Rattle.pruned_inbox.specs.Orderly.{IsOrderly}
use Rattle.pruned_inbox.proofs.Kept.{all_behind, forget_length, forget_from, received_below, notice_below, notice_from, shown_below, shown_from, decided_kept, approved_all}
use Rattle.pruned_inbox.proofs.Decisions.{decided_later}
use Rattle.pruned_inbox.specs.Received.{is_received_in, is_received_at}

pub received_is_there : (items : List Item) (m : ℕ) (item : Item) → slice_get items m ≡ Some item → is_received item.content ≡ true → is_received_at items m ≡ true
received_is_there items m item at e = ap is_received_in at ∙ e

module _ (params : Params) (b : ℕ) (items : List Item) (orderly : IsOrderly params items) (is_base : IsBase params items b) where
  abbrev kept : List Item
  kept = forget b items

  long : length kept ≡ length items
  long = forget_length b items

  kept_is_clean : IsClean params kept (clean params items)
  kept_is_clean =
      let c = clean_is_clean params items in
      record {
        within = let w = c.within in omega (arith, w, long);
        decided = λ m item lt at e.
            elim (cases_lt m b) [
              | inl below ↦
                  let seen = received_is_there kept m item at e in
                  let wrong : true ≡ false = sym seen ∙ received_below b items m below in absurd (cc)
              | inr far ↦
                  let at' : slice_get items m ≡ Some item = sym (forget_from b items m far) ∙ at in
                  decided_kept params b items (all_behind params items orderly) m (length kept) far ∙ (ap (is_decided_in params items m) long ∙ c.decided m item lt at' e)
            ];
      }

  items_are_clean : IsClean params items (clean params kept)
  items_are_clean =
      let c = clean_is_clean params kept in
      record {
        within = let w = c.within in omega (arith, w, long);
        decided = λ m item lt at e.
            elim (cases_lt m b) [
              | inl below ↦ decided_later params items m b (length items) is_base.within (is_base.decided m below (received_is_there items m item at e))
              | inr far ↦
                  let at' : slice_get kept m ≡ Some item = forget_from b items m far ∙ at in
                  sym (decided_kept params b items (all_behind params items orderly) m (length items) far) ∙ (ap (is_decided_in params kept m) (sym long) ∙ c.decided m item lt at' e)
            ];
      }

  pub clean_same : clean params kept ≡ clean params items
  clean_same =
      let one = clean_is_most params kept (clean params items) kept_is_clean in
      let two = clean_is_most params items (clean params kept) items_are_clean in
      omega (arith, one, two)

  base_below_clean : IsClean params items b
  base_below_clean =
      record {
        within = is_base.within;
        decided = λ m item lt at e. decided_later params items m b (length items) is_base.within (is_base.decided m lt (received_is_there items m item at e));
      }

  pub base_at_most_clean : b ≤ clean params items
  base_at_most_clean = clean_is_most params items b base_below_clean

-- ---- the time before the clean place

pub last_kept : (b : ℕ) (items : List Item) (n : ℕ) → last_time (take n (forget b items)) ≡ last_time (take n items)
last_kept zero items n = refl
last_kept (suc b) [] n = refl
last_kept (suc b) (x ∷ xs) zero = refl
last_kept (suc b) (x ∷ []) (suc zero) = refl
last_kept (suc zero) (x ∷ []) (suc (suc n)) = refl
last_kept (suc (suc b)) (x ∷ []) (suc (suc n)) = refl
last_kept (suc b) (x ∷ y ∷ ys) (suc zero) = refl
last_kept (suc zero) (x ∷ y ∷ ys) (suc (suc n)) = refl
last_kept (suc (suc b)) (x ∷ y ∷ ys) (suc (suc n)) = last_kept (suc b) (y ∷ ys) (suc n)

-- ---- parts

abbrev is_from : ℕ → Commit → Bool
is_from b part = nat_le b part.place

no_part : (a : Bool) (k : ℕ) → part_if a k NoRoots ≡ []
no_part true k = refl
no_part false k = refl

part_in : (b k : ℕ) (a : Bool) (roots : Forest Act) → nat_le b k ≡ true → filter (is_from b) (part_if a k roots) ≡ part_if a k roots
part_in b k false roots e = refl
part_in b k true NoRoots e = refl
part_in b k true (Root act consequences others) e = rw e refl

part_before : (b k : ℕ) (a : Bool) (roots : Forest Act) → nat_le b k ≡ false → filter (is_from b) (part_if a k roots) ≡ []
part_before b k false roots e = refl
part_before b k true NoRoots e = refl
part_before b k true (Root act consequences others) e = rw e refl

not_le : (b k : ℕ) → k < b → nat_le b k ≡ false
not_le b k lt = elim (cases_Bool (nat_le b k)) [ inr no' ↦ no' | inl yes' ↦ let le = leb-true b k yes' in absurd (omega (arith, le, lt)) ]

module _ (params : Params) (b : ℕ) (items : List Item) (orderly : IsOrderly params items) where
  abbrev those : List Item
  those = forget b items

  part_at : (k : ℕ) → part_if (is_approved_in k (moments those)) k (opened_at those k) ≡ filter (is_from b) (part_if (is_approved_in k (moments items)) k (opened_at items k))
  part_at k =
      elim (cases_lt k b) [
        | inl lt ↦
            ap (λ (o : Option Shown). part_if (is_approved_in k (moments those)) k (roots_in o)) (shown_below b items k lt)
            ∙ (no_part (is_approved_in k (moments those)) k ∙ sym (part_before b k (is_approved_in k (moments items)) (opened_at items k) (not_le b k lt)))
        | inr far ↦
            ap (λ (o : Option Shown). part_if (is_approved_in k (moments those)) k (roots_in o)) (shown_from b items k far)
            ∙ (ap (λ (a : Bool). part_if a k (opened_at items k)) (approved_all params b items (all_behind params items orderly) k far)
            ∙ sym (part_in b k (is_approved_in k (moments items)) (opened_at items k) (le-leb b k far)))
      ]

  pub parts_same : (n : ℕ) → parts_below those n ≡ filter (is_from b) (parts_below items n)
  parts_same zero = refl
  parts_same (suc k) =
      ap (λ (parts : List Commit). parts ++ part_if (is_approved_in k (moments those)) k (opened_at those k)) (parts_same k)
      ∙ (ap (λ (parts : List Commit). filter (is_from b) (parts_below items k) ++ parts) (part_at k)
      ∙ sym (filter_append (is_from b) (parts_below items k) (part_if (is_approved_in k (moments items)) k (opened_at items k))))

  pub log_same : IsBase params items b → node_log params those ≡ filter (is_from b) (node_log params items)
  log_same is_base = ap (parts_below those) (clean_same params b items orderly is_base) ∙ parts_same (clean params items)

-- ---- withheld places

shut : (a : Bool) → (a && false) ≡ false
shut true = refl
shut false = refl

abbrev place_if : Bool → ℕ → List ℕ
place_if a k = if a then k ∷ [] else []

place_in : (b k : ℕ) (a : Bool) → nat_le b k ≡ true → filter (nat_le b) (place_if a k) ≡ place_if a k
place_in b k true e = rw e refl
place_in b k false e = refl

place_before : (b k : ℕ) (a : Bool) → nat_le b k ≡ false → filter (nat_le b) (place_if a k) ≡ []
place_before b k true e = rw e refl
place_before b k false e = refl

module _ (params : Params) (b : ℕ) (items : List Item) (orderly : IsOrderly params items) where
  abbrev these : List Item
  these = forget b items

  place_at : (k : ℕ) → place_if (is_withheld_in these k) k ≡ filter (nat_le b) (place_if (is_withheld_in items k) k)
  place_at k =
      elim (cases_lt k b) [
        | inl lt ↦
            let none : is_withheld_in these k ≡ false =
            ap (λ (o : Option Notice). is_approved_in k (moments these) && is_kept_from o) (notice_below b items k lt) ∙ shut (is_approved_in k (moments these)) in
            ap (λ (a : Bool). place_if a k) none ∙ sym (place_before b k (is_withheld_in items k) (not_le b k lt))
        | inr far ↦
            let same : is_withheld_in these k ≡ is_withheld_in items k =
            ap (λ (o : Option Notice). is_approved_in k (moments these) && is_kept_from o) (notice_from b items k far)
            ∙ ap (λ (a : Bool). a && is_kept_from (notice_at items k)) (approved_all params b items (all_behind params items orderly) k far) in
            ap (λ (a : Bool). place_if a k) same ∙ sym (place_in b k (is_withheld_in items k) (le-leb b k far))
      ]

  places_same : (n : ℕ) → withheld_below these n ≡ filter (nat_le b) (withheld_below items n)
  places_same zero = refl
  places_same (suc k) =
      ap (λ (places : List ℕ). places ++ place_if (is_withheld_in these k) k) (places_same k)
      ∙ (ap (λ (places : List ℕ). filter (nat_le b) (withheld_below items k) ++ places) (place_at k)
      ∙ sym (filter_append (nat_le b) (withheld_below items k) (place_if (is_withheld_in items k) k)))

  pub withheld_same : IsBase params items b → withheld params these ≡ filter (nat_le b) (withheld params items)
  withheld_same is_base = ap (withheld_below these) (clean_same params b items orderly is_base) ∙ places_same (clean params items)

-- ---- the base is the greatest such place

all_of : (test : ℕ → Bool) (n : ℕ) → all_below test n ≡ true → (m : ℕ) → m < n → test m ≡ true
all_of test zero e m lt = absurd (omega (arith, lt))
all_of test (suc k) e m lt =
    let parts = and_parts (all_below test k) (test k) e in
    elim (cases_lt m k) [
      | inl below ↦ all_of test k parts.0 m below
      | inr at ↦ let same : m ≡ k = omega (arith, lt, at) in ap test same ∙ parts.1
    ]

of_all : (test : ℕ → Bool) (n : ℕ) → ((m : ℕ) → m < n → test m ≡ true) → all_below test n ≡ true
of_all test zero h = refl
of_all test (suc k) h = rw (of_all test k (λ m lt. h m (omega (arith, lt))), h k (omega arith)) refl

greatest_within : (test : ℕ → Bool) (n : ℕ) → greatest test n ≤ n
greatest_within test zero = omega arith
greatest_within test (suc n) =
    let below = greatest_within test n in
    elim (cases_Bool (test (suc n))) [ inl passes ↦ rw passes (omega arith) | inr fails ↦ rw fails (omega (arith, below)) ]

greatest_passes : (test : ℕ → Bool) (n : ℕ) → test 0 ≡ true → test (greatest test n) ≡ true
greatest_passes test zero e = e
greatest_passes test (suc n) e =
    elim (cases_Bool (test (suc n))) [ inl passes ↦ rw (passes, passes) refl | inr fails ↦ rw fails (greatest_passes test n e) ]

greatest_most : (test : ℕ → Bool) (n m : ℕ) → m ≤ n → test m ≡ true → m ≤ greatest test n
greatest_most test zero m le e = omega (arith, le)
greatest_most test (suc n) m le e =
    elim (cases_Bool (test (suc n))) [
      | inl passes ↦ rw passes le
      | inr fails ↦ rw fails (elim (cases_lt m (suc n)) [
        | inl below ↦ greatest_most test n m (omega (arith, below)) e
        | inr at ↦
            let same : suc n ≡ m = omega (arith, le, at) in
            let wrong : true ≡ false = sym e ∙ (ap test (sym same) ∙ fails) in absurd (cc)
      ])
    ]

settled_from : (params : Params) (items : List Item) (n m : ℕ) → is_settled_at params items n m ≡ true → is_received_at items m ≡ true → is_decided_in params items m n ≡ true
settled_from params items n m e received =
    elim (or_cases (not (is_received_at items m)) (is_decided_in params items m n) e) [
      | inr decided ↦ decided
      | inl out ↦ let wrong : true ≡ false = sym out ∙ ap not received in absurd (cc)
    ]

from_decided : (params : Params) (items : List Item) (n m : ℕ) → (is_received_at items m ≡ true → is_decided_in params items m n ≡ true) → is_settled_at params items n m ≡ true
from_decided params items n m h =
    elim (cases_Bool (is_received_at items m)) [ inl received ↦ rw (received, h received) refl | inr not_there ↦ rw not_there refl ]

pub base_is_base : (params : Params) (items : List Item) → IsBase params items (base params items)
base_is_base params items =
    let test : ℕ → Bool = λ n. all_below (is_settled_at params items n) n in
    let passes = greatest_passes test (length items) refl in
    record {
      within = greatest_within test (length items);
      decided = λ m lt received. settled_from params items (base params items) m (all_of (is_settled_at params items (base params items)) (base params items) passes m lt) received;
    }

pub base_is_most : (params : Params) (items : List Item) (n : ℕ) → IsBase params items n → n ≤ base params items
base_is_most params items n h =
    greatest_most (λ k. all_below (is_settled_at params items k) k) (length items) n h.within
    (of_all (is_settled_at params items n) n (λ m lt. from_decided params items n m (h.decided m lt)))
