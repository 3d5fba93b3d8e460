-- The places of the approved requests.
use Rattle.std.specs.Prelude.{◌≡◌, ◌≤◌, ℕ, zero, suc, Bool, true, false, List, [], ◌∷◌, ◌++◌, if◌then◌else◌, length}
use Rattle.ledger_model.specs.declared.commit.Commit.{Commit}
use Rattle.canton_model.specs.Inbox.{Item, is_kept_from, notice_at, opened_at, part_if}
use Rattle.canton_model.specs.Log.{Params}
use Rattle.request_track.specs.Pairs.{Pair, outcome_at}
use Rattle.inbox_registry.specs.Requests.{outcome_received}
use Rattle.node_inbox.specs.Approved.{is_approved}
use Rattle.node_inbox.specs.declared.approved_places.ApprovedPlaces.{ApprovedPlaces}

-- A list of the one place k where the flag is true, and else the empty one.
abbrev pub place_if : Bool → ℕ → List ℕ
place_if wanted k = if wanted then k ∷ [] else []

-- The places below the given one at which the test holds, ascending.
abbrev pub places_below : (ℕ → Bool) → ℕ → List ℕ
places_below test zero = []
places_below test (suc k) = places_below test k ++ place_if (test k) k

-- The places below n at which the tracker has an approved request, ascending.
abbrev pub tracked_below : List Pair → ℕ → List ℕ
tracked_below pairs n = places_below (λ k. is_approved (outcome_at pairs k)) n

-- The places below n of the requests that an inbox received and that are approved by its items, ascending.
abbrev pub approved_below : Params → List Item → ℕ → List ℕ
approved_below params items n = places_below (λ k. is_approved (outcome_received params items k)) n

-- The commits of the requests at these places, as they are opened, approved or not. A request of which nothing is opened makes no commit.
abbrev pub parts_at : List Item → List ℕ → List Commit
parts_at items [] = []
parts_at items (k ∷ ks) = part_if true k (opened_at items k) ++ parts_at items ks

-- Whether the participant sees a view of the request at place k and its envelope isn't complete. So the place is withheld where the request is
-- approved. It is false where no request was received there.
abbrev pub is_kept_from_at : List Item → ℕ → Bool
is_kept_from_at items k = is_kept_from (notice_at items k)

-- What is kept are the places of all approved requests of the inbox below the place `below`, which isn't behind the end of the inbox.
pub record AreApproved (params : Params) (items : List Item) (approved : ApprovedPlaces) : Type 0 where
  pub within : approved.below ≤ length items
  pub places : approved.places ≡ approved_below params items approved.below

-- What becomes of the kept places, `old`, when a verdict is read. Where the flag is true they stay as they were. Else they may lack the verdict's
-- request now, and `new` has the places below the base, of which there are none, so that all are gathered anew.
abbrev pub AreKeptIf : Bool → ℕ → (old new : ApprovedPlaces) → Type 0
AreKeptIf true base old new = new ≡ old
AreKeptIf false base old new = (new.below ≡ base) × (new.places ≡ [])
