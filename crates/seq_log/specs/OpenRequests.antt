-- The requests of a log that are undecided in the whole of it.
use Rattle.std.specs.Prelude.{ℕ, zero, suc, ◌≤◌, Bool, true, false, ◌&&◌, List, [], ◌∷◌, ◌++◌, length, is_some}
use Rattle.canton_model.specs.Log.{Params, request_at}
use Rattle.world_model.specs.Messages.{Entry}
use Rattle.world_model.specs.Settled.{is_undecided}

-- whether a request stands at place k of the list, and is undecided in the whole of it
abbrev pub is_open : Params → List Entry → (k : ℕ) → Bool
is_open params list k = is_some (request_at list k) && is_undecided params list k

-- the list of place k alone where the test holds, else the empty list
abbrev pub place_if : Bool → (k : ℕ) → List ℕ
place_if true k = k ∷ []
place_if false k = []

-- the places below n that pass a test, in rising order
abbrev pub places_below : (ℕ → Bool) → (n : ℕ) → List ℕ
places_below test zero = []
places_below test (suc k) = places_below test k ++ place_if (test k) k

-- the places of the list's open requests, in rising order: those that are undecided in the whole of it
abbrev pub open_requests : Params → List Entry → List ℕ
open_requests params list = places_below (is_open params list) (length list)

-- the places rise strictly, from `low` on and below `high`; of no places, that `low` is at most `high`
abbrev pub RisesBetween : (low : ℕ) → List ℕ → (high : ℕ) → Type 0
RisesBetween low [] high = low ≤ high
RisesBetween low (k ∷ places) high = (low ≤ k) × RisesBetween (suc k) places high

-- whether the first of the places passes the test; false of no places. The sequencer asks so whether its first open request is past its decision time.
abbrev pub begins_with : (ℕ → Bool) → List ℕ → Bool
begins_with test [] = false
begins_with test (k ∷ places) = test k

-- `fewer` where the Bool is true, which says that the first place of the list `kept` passes a test, and else `kept`; for `after_front`
abbrev pub unless_front : Bool → (kept fewer : List ℕ) → List ℕ
unless_front true kept fewer = fewer
unless_front false kept fewer = kept

-- The places without those at the front that pass the test: from the first one on that doesn't pass it. So the sequencer drops the open requests that
-- are past their decision times, which rise with the places.
abbrev pub after_front : (ℕ → Bool) → List ℕ → List ℕ
after_front test [] = []
after_front test (k ∷ places) = unless_front (test k) (k ∷ places) (after_front test places)
