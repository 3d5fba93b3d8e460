-- Which requests are withheld.
use Rattle.std.proofs.Common.{◌≡◌, ℕ, zero, suc, Bool, true, false, List, [], ◌∷◌, ◌++◌, Option, Some, filter, refl, sym, ap, ◌∙◌}
use Rattle.std.specs.Prelude.{◌&&◌, not, is_some, option_map}
use Rattle.std.proofs.lemmas.List.Elements.{filter-append}
use Rattle.canton_model.specs.Inbox.{Item, is_kept_from, is_withheld_in, withheld_below}
use Rattle.canton_model.specs.Log.{Params}
use Rattle.canton_model.specs.Reading.{is_some_path, shown_in_offer}
use Rattle.canton_model.specs.declared.outcome.Outcome.{Outcome}
use Rattle.ledger_model.specs.Terms.{Path}
use Rattle.request_track.specs.Pairs.{outcome_at}
use Rattle.inbox_registry.specs.Requests.{is_approved, outcome_received}
use Rattle.inbox_registry.specs.Registry.{Registered}
use Rattle.inbox_registry.proofs.Tracked.{outcome_is}
use Rattle.inbox_registry.proofs.Withheld.{withheld_is_tracked}
use Rattle.node_inbox.specs.Approved.{TellsOutcomes}
use Rattle.node_inbox.specs.Items.{model_items, notice_of}
use Rattle.node_inbox.specs.Kept.{kept_at}
use Rattle.node_inbox.specs.Offers.{is_open, model_offer}
use Rattle.node_inbox.specs.Places.{approved_below, is_kept_from_at, place_if}
use Rattle.node_inbox.specs.declared.kept_item.KeptItem.{KeptItem}
use Rattle.node_inbox.specs.declared.kept_item.KeptRequest.{KeptRequest}
use Rattle.node_inbox.specs.declared.kept_offer.KeptOffer.{KeptOffer}
use Rattle.node_inbox.specs.declared.kept_offer.KeptOffer.TheVariants.{Mismatch, Missing, Open}
use Rattle.node_inbox.proofs.Seen.{kept_notice}

open_is : (offer : KeptOffer) → is_some (shown_in_offer (model_offer offer)) ≡ is_open offer
open_is Mismatch = refl
open_is Missing = refl
open_is (Open tree) = refl

seen_is : (paths : List Path) (empty : Bool) → (empty ≡ true → paths ≡ []) → (paths ≡ [] → empty ≡ true) → is_some_path paths ≡ not empty
seen_is [] true is back = refl
seen_is [] false is back = let no = back refl in absurd cc
seen_is (path ∷ paths) true is back = let no = is refl in absurd cc
seen_is (path ∷ paths) false is back = refl

-- a view is seen, and the envelope isn't complete
pub kept_from : (kept : KeptRequest) (empty : Bool) → (empty ≡ true → kept.seen ≡ []) → (kept.seen ≡ [] → empty ≡ true)
    → (not empty && not (is_open kept.offer)) ≡ is_kept_from (Some (notice_of kept))
kept_from kept empty is back =
    ap (λ (b : Bool). b && not (is_open kept.offer)) (sym (seen_is kept.seen empty is back))
    ∙ ap (λ (b : Bool). is_some_path kept.seen && not b) (sym (open_is kept.offer))

-- as it is kept
pub kept_from_found : (items : List KeptItem) (place : ℕ) (found : Option KeptRequest) → found ≡ kept_at items place
    → is_kept_from (option_map notice_of found) ≡ is_kept_from_at (model_items items) place
kept_from_found items place found at =
    ap (λ (o : Option KeptRequest). is_kept_from (option_map notice_of o)) at ∙ ap is_kept_from (sym (kept_notice items place))

-- by what is told of the request
withheld_told : (params : Params) (items : List Item) (place : ℕ)
    → is_withheld_in items place ≡ (is_approved (outcome_received params items place) && is_kept_from_at items place)
withheld_told params items place =
    withheld_is_tracked params items place
    ∙ ap (λ (o : Option Outcome). is_approved o && is_kept_from_at items place) (outcome_is params items place)

either_order : (a b : Bool) → (a && b) ≡ (b && a)
either_order true true = refl
either_order true false = refl
either_order false true = refl
either_order false false = refl

-- as it is tracked
pub withheld_is : (params : Params) (items : List Item) (stands : Registered) → TellsOutcomes params items stands → (place : ℕ)
    → (is_kept_from_at items place && is_approved (outcome_at (stands.tracking).pairs place)) ≡ is_withheld_in items place
withheld_is params items stands tells place =
    either_order (is_kept_from_at items place) (is_approved (outcome_at (stands.tracking).pairs place))
    ∙ (ap (λ (o : Option Outcome). is_approved o && is_kept_from_at items place) (tells place) ∙ sym (withheld_told params items place))

left_if : (test : ℕ → Bool) (b : Bool) (k : ℕ) → filter test (place_if b k) ≡ place_if (b && test k) k
left_if test true k = refl
left_if test false k = refl

-- the withheld ones are those of the approved ones that the participant is kept from
pub withheld_among : (params : Params) (items : List Item) (n : ℕ) → filter (is_kept_from_at items) (approved_below params items n) ≡ withheld_below items n
withheld_among params items zero = refl
withheld_among params items (suc k) =
    let told = is_approved (outcome_received params items k) in
    filter-append (is_kept_from_at items) (approved_below params items k) (place_if told k)
    ∙ (ap (λ (ks : List ℕ). ks ++ filter (is_kept_from_at items) (place_if told k)) (withheld_among params items k)
    ∙ ap (λ (ks : List ℕ). withheld_below items k ++ ks)
    (left_if (is_kept_from_at items) told k ∙ ap (λ (b : Bool). place_if b k) (sym (withheld_told params items k))))
