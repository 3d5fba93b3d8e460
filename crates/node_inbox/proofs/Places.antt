-- The places of approved requests, and what these requests open.
use Rattle.std.proofs.Common.{◌≡◌, ℕ, zero, suc, ◌+◌, ◌<◌, ◌≤◌, Bool, true, false, List, [], ◌∷◌, ◌++◌, length, Option, Some, None, is_some, refl, sym, ap, ◌∙◌, arith, append_assoc, append-nil}
use Rattle.std.specs.Prelude.{◌&&◌, option_map, slice_get}
use Rattle.std.proofs.lemmas.Bool.{ne_eqb}
use Rattle.ledger_model.specs.Forest.{NoRoots}
use Rattle.ledger_model.specs.Opening.{roots_in}
use Rattle.ledger_model.specs.declared.commit.Commit.{Commit}
use Rattle.canton_model.specs.declared.decision.Decision.{Decision}
use Rattle.canton_model.specs.declared.verdict.Verdict.{Verdict}
use Rattle.canton_model.specs.Inbox.{Item, decision_time_in, moments, outcome_in, opened_at, Notice, notice_at, notice_in, part_if, parts_below, shown_in_notice, verdict_in}
use Rattle.canton_model.specs.Log.{Params}
use Rattle.canton_model.specs.Timeline.{decision_on, is_approval, is_approved_in, is_past, kind_of, outcome_from, verdict_on}
use Rattle.request_track.specs.Pairs.{Pair, outcome_at}
use Rattle.pruned_inbox.specs.Forgotten.{silent_front}
use Rattle.pruned_inbox.specs.Received.{is_received_at}
use Rattle.inbox_registry.specs.Requests.{outcome_received}
use Rattle.inbox_registry.proofs.Grown.{get_before, moments_push, one_longer}
use Rattle.inbox_registry.proofs.Outcomes.{verdict_same}
use Rattle.node_inbox.specs.Approved.{is_approved}
use Rattle.node_inbox.specs.Places.{AreApproved, approved_below, parts_at, place_if, places_below, tracked_below}
use Rattle.node_inbox.specs.declared.approved_places.ApprovedPlaces.{ApprovedPlaces}
use Rattle.node_inbox.proofs.Approved.{by_verdict}
use Rattle.node_inbox.proofs.Seen.{none_learnt}
use Rattle.node_inbox.proofs.Silent.{silent_length, silent_unreceived}

-- the same test below a place
pub places_same : (test test' : ℕ → Bool) (n : ℕ) → ((k : ℕ) → k < n → test k ≡ test' k) → places_below test n ≡ places_below test' n
places_same test test' zero h = refl
places_same test test' (suc k) h =
    ap (λ (ks : List ℕ). ks ++ place_if (test k) k) (places_same test test' k (λ m lt. h m (omega (arith, lt))))
    ∙ ap (λ (b : Bool). places_below test' k ++ place_if b k) (h k (omega arith))

parts_append : (items : List Item) (ks ls : List ℕ) → parts_at items (ks ++ ls) ≡ parts_at items ks ++ parts_at items ls
parts_append items [] ls = refl
parts_append items (k ∷ ks) ls =
    ap (λ (cs : List Commit). part_if true k (opened_at items k) ++ cs) (parts_append items ks ls)
    ∙ sym (append_assoc (part_if true k (opened_at items k)) (parts_at items ks) (parts_at items ls))

no_part : (b : Bool) (k : ℕ) → part_if b k NoRoots ≡ []
no_part true k = refl
no_part false k = refl

-- none below a place below which nothing was received
none_unreceived : (params : Params) (items : List Item) (n : ℕ) → ((k : ℕ) → k < n → is_received_at items k ≡ false) → [] ≡ approved_below params items n
none_unreceived params items zero silent = refl
none_unreceived params items (suc k) silent =
    none_unreceived params items k (λ m lt. silent m (omega (arith, lt)))
    ∙ (sym (append-nil (approved_below params items k))
    ∙ ap (λ (o : Option Notice). approved_below params items k ++ place_if (is_approved (option_map (λ (n : Notice). kind_of (outcome_in params items k)) o)) k)
    (sym (none_learnt (slice_get items k) (silent k (omega arith)))))

pub unreceived_approved : (params : Params) (items : List Item) (base : ℕ) (approved : ApprovedPlaces) → base ≤ length items
    → ((k : ℕ) → k < base → is_received_at items k ≡ false) → approved.below ≡ base → approved.places ≡ [] → AreApproved params items approved
unreceived_approved params items base approved within silent below places = record {
  within = omega (arith, within, below);
  places = places ∙ (none_unreceived params items base silent ∙ ap (approved_below params items) (sym below));
}

pub silent_approved : (params : Params) (b t : ℕ) (approved : ApprovedPlaces) → approved.below ≡ b → approved.places ≡ []
    → AreApproved params (silent_front b t) approved
silent_approved params b t approved =
    unreceived_approved params (silent_front b t) b approved (let many = silent_length b t in omega (arith, many)) (λ k lt. silent_unreceived b t k)

-- the part of the request at a place, where it is told to be approved
told_part : (params : Params) (items : List Item) (k : ℕ)
    → parts_at items (place_if (is_approved (outcome_received params items k)) k) ≡ part_if (is_approved_in k (moments items)) k (opened_at items k)
told_part params items k =
    chosen (is_approved (outcome_received params items k)) ∙ by (verdict_on k (moments items)) (notice_at items k)
  where
    past : Bool
    past = is_past (decision_time_in params items k) (moments items)

    chosen : (b : Bool) → parts_at items (place_if b k) ≡ part_if b k (opened_at items k)
    chosen true = append-nil (part_if true k (opened_at items k))
    chosen false = refl

    by : (d : Option Decision) (notice : Option Notice)
        → part_if (is_approved (option_map (λ (n : Notice). kind_of (outcome_from d past)) notice)) k (roots_in (shown_in_notice notice))
        ≡ part_if (is_approval d) k (roots_in (shown_in_notice notice))
    by d (Some notice) = ap (λ (b : Bool). part_if b k (roots_in (shown_in_notice (Some notice)))) (by_verdict d past)
    by d None = sym (no_part (is_approval d) k)

-- what the approved requests below a place open
pub parts_are : (params : Params) (items : List Item) (n : ℕ) → parts_at items (approved_below params items n) ≡ parts_below items n
parts_are params items zero = refl
parts_are params items (suc k) =
    parts_append items (approved_below params items k) (place_if (is_approved (outcome_received params items k)) k)
    ∙ (ap (λ (cs : List Commit). cs ++ parts_at items (place_if (is_approved (outcome_received params items k)) k)) (parts_are params items k)
    ∙ ap (λ (cs : List Commit). parts_below items k ++ cs) (told_part params items k))

-- what is told of the request at a place tells nothing else of it where an item more is no verdict on it
told_stays : (params : Params) (items : List Item) (x : Item) (k : ℕ) → k < length items → decision_on k (verdict_in x.content) ≡ None
    → is_approved (outcome_received params (items ++ x ∷ []) k) ≡ is_approved (outcome_received params items k)
told_stays params items x k lt none =
    told (verdict_on k (moments (items ++ x ∷ []))) (is_past (decision_time_in params (items ++ x ∷ []) k) (moments (items ++ x ∷ []))) (notice_at (items ++ x ∷ []) k)
    ∙ (ap (λ (o : Option Notice). is_some o && is_approval (verdict_on k (moments (items ++ x ∷ [])))) (ap notice_in (get_before items x k lt))
    ∙ (ap (λ (d : Option Decision). is_some (notice_at items k) && is_approval d)
    (ap (verdict_on k) (moments_push items x) ∙ verdict_same k (moments items) (record { time = x.time; verdict = verdict_in x.content }) none)
    ∙ sym (told (verdict_on k (moments items)) (is_past (decision_time_in params items k) (moments items)) (notice_at items k))))
  where
    told : (d : Option Decision) (past : Bool) (notice : Option Notice)
        → is_approved (option_map (λ (n : Notice). kind_of (outcome_from d past)) notice) ≡ (is_some notice && is_approval d)
    told d past (Some notice) = by_verdict d past
    told d past None = refl

pub places_stay : (params : Params) (items : List Item) (x : Item) (n : ℕ) → n ≤ length items
    → ((k : ℕ) → k < n → decision_on k (verdict_in x.content) ≡ None)
    → approved_below params (items ++ x ∷ []) n ≡ approved_below params items n
places_stay params items x n le none =
    places_same (λ k. is_approved (outcome_received params (items ++ x ∷ []) k)) (λ k. is_approved (outcome_received params items k)) n
    (λ k lt. told_stays params items x k (omega (arith, lt, le)) (none k lt))

-- ---- one item more

-- an item that is no verdict
pub approved_same : (params : Params) (items : List Item) (x : Item) (approved : ApprovedPlaces) → verdict_in x.content ≡ None
    → AreApproved params items approved → AreApproved params (items ++ x ∷ []) approved
approved_same params items x approved none are =
    record {
      within = omega (arith, are.within, one_longer items x);
      places = are.places ∙ sym (places_stay params items x approved.below are.within (λ k lt. ap (decision_on k) none));
    }

-- a verdict on a request that isn't below
pub approved_told : (params : Params) (items : List Item) (x : Item) (approved : ApprovedPlaces) (v : Verdict) → verdict_in x.content ≡ Some v
    → approved.below ≤ v.request → AreApproved params items approved → AreApproved params (items ++ x ∷ []) approved
approved_told params items x approved v some le are =
    record {
      within = omega (arith, are.within, one_longer items x);
      places = are.places ∙ sym (places_stay params items x approved.below are.within
          (λ k lt. ap (decision_on k) some ∙ rw (ne_eqb v.request k (λ e. omega (arith, e, lt, le))) refl));
    }

-- none below the first place
pub none_approved : (params : Params) (items : List Item) (approved : ApprovedPlaces) → approved.below ≡ 0 → approved.places ≡ [] → AreApproved params items approved
none_approved params items approved first none =
    record { within = omega (arith, first); places = none ∙ ap (approved_below params items) (sym first) }

-- those that are tracked are those of the inbox
pub tracked_are : (params : Params) (items : List Item) (pairs : List Pair) (n : ℕ) → ((k : ℕ) → outcome_at pairs k ≡ outcome_received params items k)
    → tracked_below pairs n ≡ approved_below params items n
tracked_are params items pairs n tells =
    places_same (λ k. is_approved (outcome_at pairs k)) (λ k. is_approved (outcome_received params items k)) n (λ k lt. ap is_approved (tells k))

-- those below the place behind
pub passed : (pairs : List Pair) (old new : ApprovedPlaces) (place : ℕ) → old.below ≡ place → old.places ≡ tracked_below pairs old.below
    → new.below ≡ place + 1 → new.places ≡ old.places ++ place_if (is_approved (outcome_at pairs place)) place → new.places ≡ tracked_below pairs new.below
passed pairs old new place at are next more =
    let behind : place + 1 ≡ suc place = omega arith in
    more
    ∙ (ap (λ (ks : List ℕ). ks ++ place_if (is_approved (outcome_at pairs place)) place) (are ∙ ap (tracked_below pairs) at)
    ∙ ap (tracked_below pairs) (sym (next ∙ behind)))
