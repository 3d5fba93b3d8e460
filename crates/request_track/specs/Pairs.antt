-- The requests that a participant tracks, and the clean place.
use Rattle.std.specs.Prelude.{◌≡◌, ◌≤◌, ℕ, Bool, true, false, List, [], ◌∷◌, Option}
use Rattle.std.specs.Prelude.{Some, None, option_map, if◌then◌else◌, ◌&&◌, map, min, nat_eq, nat_le, nat_lt}
use Rattle.std.specs.Map.{lookup}
use Rattle.canton_model.specs.declared.outcome.Outcome.{Outcome}
use Rattle.canton_model.specs.declared.outcome.Outcome.TheVariants.{Undecided, Approved, Rejected, TimedOut, Expired}
use Rattle.request_track.specs.declared.tracked.Tracked.{Tracked}

-- a tracked request: its place, with its decision time and what became of it
abbrev pub Pair : Type 0
Pair = ℕ × Tracked

-- whether the outcome is Undecided, that is none yet
abbrev pub is_undecided : Outcome → Bool
is_undecided Undecided = true
is_undecided Approved = false
is_undecided Rejected = false
is_undecided TimedOut = false
is_undecided Expired = false

-- whether a tracked request is undecided
abbrev pub is_open : Pair → Bool
is_open p = is_undecided p.1.outcome

-- the decision time and the outcome of the request at a place, and None where none is tracked there
abbrev pub tracked_at : List Pair → ℕ → Option Tracked
tracked_at pairs place = lookup (λ p. nat_eq place p) pairs

-- what became of the request at a place, and None where none is tracked there
abbrev pub outcome_at : List Pair → ℕ → Option Outcome
outcome_at pairs place = option_map (λ (t : Tracked). t.outcome) (tracked_at pairs place)

-- The tracked requests after the one at this place got this outcome. Nothing changes where none is tracked there.
abbrev pub settled : ℕ → Outcome → List Pair → List Pair
settled place outcome [] = []
settled place outcome (p ∷ ps) =
    if nat_eq place p.0 then (p.0, record p.1 { outcome = outcome }) ∷ ps else p ∷ settled place outcome ps

-- a tracked request after this time has come: expired, where it was undecided and its decision time is before the time, else as it was
abbrev pub expire_one : ℕ → Pair → Pair
expire_one time p = if is_open p && nat_lt p.1.decision time then (p.0, record p.1 { outcome = Expired }) else p

-- all tracked requests after this time has come, at which those that are undecided and late expire
abbrev pub expired : ℕ → List Pair → List Pair
expired time pairs = map (expire_one time) pairs

-- the clean place: the least place of an undecided request; the cursor (second argument) where there is none, or where the cursor is less
abbrev pub clean_of : List Pair → ℕ → ℕ
clean_of [] cursor = cursor
clean_of (p ∷ ps) cursor = if is_open p then min p.0 (clean_of ps cursor) else clean_of ps cursor

-- The places with this one put in front of the first that isn't smaller, and at the end where all are smaller. So a rising list stays rising.
abbrev pub in_place : ℕ → List ℕ → List ℕ
in_place p [] = p ∷ []
in_place p (q ∷ qs) = if nat_le p q then p ∷ q ∷ qs else q ∷ in_place p qs

-- none of the places is smaller than n, which stands before them in a rising list
abbrev pub NotBelow : ℕ → List ℕ → Type 0
NotBelow n [] = Unit {0}
NotBelow n (q ∷ qs) = (n ≤ q) × NotBelow n qs

-- each place is at least the one before it
abbrev pub Rising : List ℕ → Type 0
Rising [] = Unit {0}
Rising (q ∷ qs) = NotBelow q qs × Rising qs

-- the places of the undecided requests, in rising order
abbrev pub undecided_of : List Pair → List ℕ
undecided_of [] = []
undecided_of (p ∷ ps) = if is_open p then in_place p.0 (undecided_of ps) else undecided_of ps

-- the places without the first one that is this place; all of them where none is
abbrev pub without : ℕ → List ℕ → List ℕ
without p [] = []
without p (q ∷ qs) = if nat_eq p q then qs else q ∷ without p qs

-- The first of the places or the cursor (second argument), whichever is less; the cursor where there are no places. Of the rising places of all
-- undecided requests it is the clean place.
abbrev pub first_or : List ℕ → ℕ → ℕ
first_or [] cursor = cursor
first_or (p ∷ ps) cursor = min p cursor

-- the places with this one put in where the test holds, else as they are: how the list of undecided places follows a request that comes or is given an
-- outcome
abbrev pub put_if : Bool → ℕ → List ℕ → List ℕ
put_if b p xs = if b then in_place p xs else xs

-- the places without this one where the test holds, else as they are: how the list of undecided places follows a request that was undecided and is
-- given an outcome
abbrev pub drop_if : Bool → ℕ → List ℕ → List ℕ
drop_if b p xs = if b then without p xs else xs

-- no two tracked requests stand at one place
abbrev pub Apart : List Pair → Type 0
Apart [] = Unit {0}
Apart (p ∷ ps) = (tracked_at ps p.0 ≡ None) × Apart ps

-- whether a request, where one is tracked, is undecided and its decision time is before this time; false of None
abbrev pub late_tracked : ℕ → Option Tracked → Bool
late_tracked time None = false
late_tracked time (Some t) = is_undecided t.outcome && nat_lt t.decision time

-- whether the request at a place is undecided and its decision time is before this time; false where none is tracked there
abbrev pub is_late : ℕ → List Pair → ℕ → Bool
is_late time ps place = late_tracked time (tracked_at ps place)

-- The first of these places, where the request there is late at this time; else None. Places behind it aren't looked at. For `first_late`.
abbrev pub late_first : ℕ → List Pair → List ℕ → Option ℕ
late_first time ps [] = None
late_first time ps (place ∷ places) = if is_late time ps place then Some place else None

-- the least place of an undecided request, where that request is late at this time; None where it isn't, though a later one may be, or none is
-- undecided
abbrev pub first_late : ℕ → List Pair → Option ℕ
first_late time ps = late_first time ps (undecided_of ps)
