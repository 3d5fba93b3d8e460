-- Verdicts stand behind their requests.
use Rattle.std.proofs.Common.{◌≡◌, ℕ, zero, suc, ◌+◌, ◌<◌, ◌≤◌, List, [], ◌∷◌, Option, Some, None, drop, get_or, length, refl, sym, ap, ◌∙◌, arith, inl, inr}
use Rattle.std.specs.Prelude.{nat_eq}
use Rattle.std.proofs.lemmas.Bool.{cases_Bool, eqb-true}
use Rattle.std.proofs.Math.ListN.{drop_of_length-le}
use Rattle.canton_model.specs.declared.decision.Decision.{Decision}
use Rattle.canton_model.specs.declared.verdict.Verdict.{Verdict}
use Rattle.canton_model.specs.Timeline.{decision_on, or_else, verdict_on}
use Rattle.canton_model.specs.Inbox.{Item, moments, verdict_in}
use Rattle.inbox_registry.specs.Order.{IsBelow, VerdictsBehind}
use Rattle.node_inbox.specs.Items.{model_content, model_items}
use Rattle.node_inbox.specs.declared.kept_item.KeptItem.{KeptItem}
use Rattle.node_inbox.proofs.DecidedSince.{item_next}

not_yet : (k j : ℕ) (o : Option Verdict) → j ≤ k → IsBelow j o → decision_on k o ≡ None
not_yet k j None le h = refl
not_yet k j (Some verdict) le h =
    elim (cases_Bool (nat_eq verdict.request k)) [
      | inl b ↦ let same = eqb-true verdict.request k b in absurd (omega arith)
      | inr b ↦ rw b refl
    ]

-- what stands before a request has no verdict on it
verdict_from : (k n j : ℕ) (items : List Item) → j + n ≤ k → VerdictsBehind j items → verdict_on k (moments (drop n items)) ≡ verdict_on k (moments items)
verdict_from k zero j items le h = refl
verdict_from k (suc n) j [] le h = refl
verdict_from k (suc n) j (item ∷ rest) le h =
    verdict_from k n (suc j) rest (omega (arith, le)) h.1
    ∙ sym (ap (λ (o : Option Decision). or_else o (verdict_on k (moments rest))) (not_yet k j (verdict_in item.content) (omega (arith, le)) h.0))

dropped : (n : ℕ) (items : List KeptItem) → model_items (drop n items) ≡ drop n (model_items items)
dropped zero items = refl
dropped (suc n) [] = refl
dropped (suc n) (item ∷ rest) = dropped n rest

pub told_from : (k : ℕ) (items : List KeptItem) → VerdictsBehind 0 (model_items items)
    → verdict_on k (moments (model_items (drop k items))) ≡ verdict_on k (moments (model_items items))
told_from k items h =
    ap (λ (its : List Item). verdict_on k (moments its)) (dropped k items) ∙ verdict_from k k 0 (model_items items) (omega arith) h

-- ---- kept items, one after another

pub told_next : (request : ℕ) (items : List KeptItem) (i : ℕ) (item : KeptItem) → i < length items → item ≡ get_or items i item
    → decision_on request (verdict_in (model_content item.content)) ≡ None
    → verdict_on request (moments (model_items (drop (i + 1) items))) ≡ verdict_on request (moments (model_items (drop i items)))
told_next request items i item h at none =
    sym (ap (λ (its : List Item). verdict_on request (moments its)) (item_next items i item h at)
    ∙ ap (λ (o : Option Decision). or_else o (verdict_on request (moments (model_items (drop (i + 1) items))))) none)

pub told_here : (request : ℕ) (items : List KeptItem) (i : ℕ) (item : KeptItem) (decision : Decision) → i < length items → item ≡ get_or items i item
    → decision_on request (verdict_in (model_content item.content)) ≡ Some decision
    → Some decision ≡ verdict_on request (moments (model_items (drop i items)))
told_here request items i item decision h at some =
    sym (ap (λ (its : List Item). verdict_on request (moments its)) (item_next items i item h at)
    ∙ ap (λ (o : Option Decision). or_else o (verdict_on request (moments (model_items (drop (i + 1) items))))) some)

pub told_end : (request : ℕ) (items : List KeptItem) (i : ℕ) → length items ≤ i → None ≡ verdict_on request (moments (model_items (drop i items)))
told_end request items i past = sym (ap (λ (xs : List KeptItem). verdict_on request (moments (model_items xs))) (drop_of_length-le items past))
