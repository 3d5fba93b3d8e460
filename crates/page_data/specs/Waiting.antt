-- For whom the mediator waits.
use Rattle.std.specs.Prelude.{ℕ, zero, suc, ◌+◌, ◌^◌, ◌-◌, Bool, false, List, [], ◌∷◌, ◌++◌, if◌then◌else◌, min, nat_eq, take}
use Rattle.std.specs.List.{list_any}
use Rattle.canton_model.specs.Log.{Params}
use Rattle.canton_model.specs.Mediation.{missing_of}
use Rattle.world_model.specs.Messages.{Entry, Message, Request, RequestMessage, ResponseMessage, Tick, VerdictMessage}
use Rattle.page_data.specs.declared.open_request.OpenRequest.{OpenRequest}

-- Whether a message is a verdict on the request at this place.
abbrev pub is_verdict_on : ℕ → Message → Bool
is_verdict_on place (VerdictMessage verdict) = nat_eq verdict.request place
is_verdict_on place (RequestMessage request) = false
is_verdict_on place (ResponseMessage response) = false
is_verdict_on place Tick = false

-- Whether a verdict on the request at this place stands in the log.
abbrev pub is_answered : ℕ → List Entry → Bool
is_answered place log = list_any (λ (entry : Entry). is_verdict_on place entry.message) log

-- The deadline of a request that was sequenced at this time, in microseconds, or the greatest u64 where it is past that.
abbrev pub deadline_told : Params → (time : ℕ) → ℕ
deadline_told params time = min (time + params.response_timeout) (2 ^ 64 - 1)

-- A list of the one request at a place, with its deadline and who of those it asks hasn't responded in the log. It is empty where a verdict on the
-- request stands in the log. `time` is the request's.
abbrev pub open_at : Params → (log : List Entry) → (place time : ℕ) → Request → List OpenRequest
open_at params log place time request =
    if is_answered place log
    then []
    else record { place = place; deadline = deadline_told params time; missing = missing_of place request.confirming log } ∷ []

-- A list of the one request that the message at a place is, where no verdict on it stands in the log, and else an empty one. `time` is the message's.
abbrev pub open_in : Params → (log : List Entry) → (place time : ℕ) → Message → List OpenRequest
open_in params log place time (RequestMessage request) = open_at params log place time request
open_in params log place time (ResponseMessage response) = []
open_in params log place time (VerdictMessage verdict) = []
open_in params log place time Tick = []

-- The requests without a verdict in the log among these entries of it, the first of which stands at this place.
abbrev pub open_below : Params → (log : List Entry) → (place : ℕ) → List Entry → List OpenRequest
open_below params log place [] = []
open_below params log place (entry ∷ rest) = open_in params log place entry.time entry.message ++ open_below params log (suc place) rest

-- The requests of a log on which no verdict stands in it, in order of place.
abbrev pub open_requests : Params → List Entry → List OpenRequest
open_requests params log = open_below params log 0 log

-- For each place from 0 up to this one, in order, the requests without a verdict when the log ends there. The first list is empty, since nothing
-- stands below place 0.
abbrev pub each_waiting : Params → List Entry → (place : ℕ) → List (List OpenRequest)
each_waiting params log zero = [] ∷ []
each_waiting params log (suc place) = each_waiting params log place ++ open_requests params (take (suc place) log) ∷ []
