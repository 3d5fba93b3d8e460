-- What a participant tracks of the requests that it received.
use Rattle.std.specs.Prelude.{◌≡◌, ℕ, suc, ◌+◌, ◌-◌, ◌^◌, Bool, true, false, List, [], ◌∷◌, Option, Some, None, option_map, if◌then◌else◌, ◌&&◌, min}
use Rattle.canton_model.specs.Log.{Params}
use Rattle.canton_model.specs.Timeline.{Moment, kind_of, outcome_of}
use Rattle.canton_model.specs.Inbox.{Item, Notice, moments, is_received, notice_at, outcome_in, is_kept_from, is_withheld_in}
use Rattle.canton_model.specs.declared.outcome.Outcome.{Outcome}
use Rattle.canton_model.specs.declared.outcome.Outcome.TheVariants.{Undecided, Approved, Rejected, TimedOut, Expired}
use Rattle.request_track.specs.Pairs.{Pair, outcome_at}
use Rattle.request_track.specs.declared.tracked.Tracked.{Tracked}

-- a time in microseconds as 64 bits have it: the greatest number of 64 bits where it is greater
abbrev pub told_time : ℕ → ℕ
told_time time = min time (2 ^ 64 - 1)

-- the decision time of a request whose entry has this time
abbrev pub decision_after : Params → (time : ℕ) → ℕ
decision_after params time = time + params.response_timeout + params.reaction_timeout

-- what is tracked of the request at a place whose entry has this time: its decision time and what became of it over these moments, which are the
-- inbox's
abbrev pub tracked_of : Params → List Moment → (place time : ℕ) → Tracked
tracked_of params moments place time =
    record { decision = told_time (decision_after params time); outcome = kind_of (outcome_of moments place (decision_after params time)) }

-- what is tracked of the requests among these items, the first of which stands at place k; the moments are those of the whole inbox
abbrev pub pairs_from : Params → List Moment → ℕ → List Item → List Pair
pairs_from params moments k [] = []
pairs_from params moments k (item ∷ rest) =
    if is_received item.content
    then (k, tracked_of params moments k item.time) ∷ pairs_from params moments (suc k) rest
    else pairs_from params moments (suc k) rest

-- the requests of an inbox, each with its place, its decision time and what became of it over the whole inbox
abbrev pub pairs_in : Params → List Item → List Pair
pairs_in params items = pairs_from params (moments items) 0 items

-- what became over the inbox of the request at a place, and None where the participant received none there
abbrev pub outcome_received : Params → List Item → ℕ → Option Outcome
outcome_received params items place = option_map (λ (notice : Notice). kind_of (outcome_in params items place)) (notice_at items place)

-- whether this outcome is Approved; false of None, which says that no request is tracked there
abbrev pub is_approved : Option Outcome → Bool
is_approved None = false
is_approved (Some Undecided) = false
is_approved (Some Approved) = true
is_approved (Some Rejected) = false
is_approved (Some TimedOut) = false
is_approved (Some Expired) = false

-- A place is withheld exactly where the request that is tracked there is approved, the participant sees a view of it, and its envelope isn't complete.
-- It is the law `withheld_is_tracked`.
abbrev pub WithheldIsTracked : Type 0
WithheldIsTracked = (params : Params) (items : List Item) (place : ℕ)
    → is_withheld_in items place ≡ (is_approved (outcome_at (pairs_in params items) place) && is_kept_from (notice_at items place))
