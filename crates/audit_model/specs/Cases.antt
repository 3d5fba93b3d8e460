-- The cases in which an entry doesn't fit the log before it.
use Rattle.std.specs.Prelude.{◌≡◌, ◌≢◌, ℕ, suc, ◌<◌, Bool, true, false, List, Some, None, Contains, take}
use Rattle.std.specs.List.{list_any}
use Rattle.canton_model.specs.Log.{Params}
use Rattle.world_model.specs.Messages.{Entry, Message, RequestMessage, ResponseMessage, VerdictMessage, Tick, Request, Response}
use Rattle.canton_model.specs.Log.{FollowsTime, time_at_end, request_at, decision_time_of}
use Rattle.canton_model.specs.Reading.{Reading}
use Rattle.canton_model.specs.Inbox.{inbox}
use Rattle.canton_model.specs.Checks.{verdicts_owed}
use Rattle.canton_model.specs.Mediation.{scan}
use Rattle.world_model.specs.Sequencing.{is_same}
use Rattle.audit_model.specs.Standard.{Standard}
use Rattle.audit_model.specs.Rules.{is_wrong_trigger}
use Rattle.audit_model.specs.declared.why.Why.{Why}
use Rattle.audit_model.specs.declared.why.Why.TheVariants.{Time, Unframed, Repeated, NoRequest, TooLate, WrongCheck, WrongDecision, WrongTrigger}

-- The entry's time doesn't follow that of the last entry of the log `before`, 0 where that is empty: a Tick has to be later, and any other entry
-- exactly one microsecond later.
abbrev pub IsMistimed : (before : List Entry) → Entry → Type 0
IsMistimed before entry = ¬ FollowsTime entry.message (time_at_end before) entry.time

-- the message is a request that isn't framed
abbrev pub IsUnframed : Reading → Message → Type 0
IsUnframed reading (RequestMessage request) = reading.is_framed request ≡ false
IsUnframed reading (ResponseMessage response) = ⊥
IsUnframed reading (VerdictMessage verdict) = ⊥
IsUnframed reading Tick = ⊥

-- whether the message repeats, after the log `before`, a sender and command, a participant's response to a request, or a verdict on one
abbrev pub is_repeated : (before : List Entry) → Message → Bool
is_repeated before message = list_any (λ (entry : Entry). is_same message entry.message) before

-- the response is to a request of the log `before` that asks the response's sender
abbrev pub IsAsked : (before : List Entry) → Response → Type 0
IsAsked before response = (request : Request) × (request_at before response.request ≡ Some request) × Contains request.confirming response.from

-- The message is a response to a place without a request, or of a participant that isn't asked there; or a verdict on a place without a request.
-- `before` is the log before it.
abbrev pub AnswersNothing : (before : List Entry) → Message → Type 0
AnswersNothing before (ResponseMessage response) = ¬ IsAsked before response
AnswersNothing before (VerdictMessage verdict) = request_at before verdict.request ≡ None
AnswersNothing before (RequestMessage request) = ⊥
AnswersNothing before Tick = ⊥

-- The message is a response or a verdict, with a time later than the decision time of its request in the log `before`. A place without an entry counts
-- as one of the time 0.
abbrev pub IsTooLate : Params → (before : List Entry) → Message → (time : ℕ) → Type 0
IsTooLate params before (ResponseMessage response) time = decision_time_of params before response.request < time
IsTooLate params before (VerdictMessage verdict) time = decision_time_of params before verdict.request < time
IsTooLate params before (RequestMessage request) time = ⊥
IsTooLate params before Tick time = ⊥

-- the message is a response with other verdicts than those that its sender owes to the request by what it had read of the log `before` up to the
-- request's entry
abbrev pub IsOtherCheck : Reading → Params → (before : List Entry) → Message → Type 0
IsOtherCheck reading params before (ResponseMessage response) =
    response.verdicts ≢ verdicts_owed reading params response.from (inbox reading response.from (take (suc response.request) before)) response.request
IsOtherCheck reading params before (VerdictMessage verdict) = ⊥
IsOtherCheck reading params before (RequestMessage request) = ⊥
IsOtherCheck reading params before Tick = ⊥

-- the message is a verdict with another decision than the mediator's over the log `before`, or the mediator makes none over that log
abbrev pub IsOtherDecision : Params → (before : List Entry) → Message → Type 0
IsOtherDecision params before (VerdictMessage verdict) = scan params before verdict.request ≢ Some verdict.decision
IsOtherDecision params before (ResponseMessage response) = ⊥
IsOtherDecision params before (RequestMessage request) = ⊥
IsOtherDecision params before Tick = ⊥

-- the entry shows this case of not fitting, after the log `before`
abbrev pub Shows : Standard → (before : List Entry) → Entry → Why → Type 0
Shows s before entry Time = IsMistimed before entry
Shows s before entry Unframed = IsUnframed s.reading entry.message
Shows s before entry Repeated = is_repeated before entry.message ≡ true
Shows s before entry NoRequest = AnswersNothing before entry.message
Shows s before entry TooLate = IsTooLate s.params before entry.message entry.time
Shows s before entry WrongCheck = IsOtherCheck s.reading s.params before entry.message
Shows s before entry WrongDecision = IsOtherDecision s.params before entry.message
Shows s before entry WrongTrigger = is_wrong_trigger s before entry.message ≡ true

-- the entry shows no case after the log `before`, so that it fits it
abbrev pub ShowsNone : Standard → (before : List Entry) → Entry → Type 0
ShowsNone s before entry = (why : Why) → ¬ Shows s before entry why

-- the number of a case, from 1, in the order in which the cases are tried: an entry is judged by the first that it shows
abbrev pub number_of : Why → ℕ
number_of Time = 1
number_of Unframed = 2
number_of Repeated = 3
number_of NoRequest = 4
number_of TooLate = 5
number_of WrongCheck = 6
number_of WrongDecision = 7
number_of WrongTrigger = 8

-- the entry shows no case that is tried before this one
abbrev pub NoneBefore : Standard → (before : List Entry) → Entry → Why → Type 0
NoneBefore s before entry why = (other : Why) → number_of other < number_of why → ¬ Shows s before entry other

-- this case is the first that the entry shows, after the log `before`
pub record ShowsFirst (s : Standard) (before : List Entry) (entry : Entry) (why : Why) : Type 0 where
  pub shows : Shows s before entry why
  pub first : NoneBefore s before entry why
