-- What a run says of its results, of its rounds and of its log, with any number of workers.
use Rattle.std.specs.Prelude.{◌≡◌, ℕ, ◌+◌, ◌<◌, ◌≤◌, Bool, true, false, List, [], ◌∷◌, ◌++◌, Option, Some, None, length, take, map, nat_eq, Contains, ◌⊎◌}
use Rattle.std.specs.Prelude.{if◌then◌else◌}
use Rattle.std.specs.List.{list_any}
use Rattle.ledger_terms.specs.declared.submission.Submission.{Submission}
use Rattle.ledger_model.specs.Terms.{ParticipantId}
use Rattle.canton_model.specs.Log.{request_at}
use Rattle.world_model.specs.Messages.{Entry, Message, RequestMessage, ResponseMessage, VerdictMessage, Tick, Request}
use Rattle.canton_model.specs.Inbox.{Item, inbox}
use Rattle.canton_model.specs.Genuine.{is_request_of}
use Rattle.world_model.specs.Machine.{Machine, GenuineLog}
use Rattle.world_model.specs.Places.{has_place}
use Rattle.world_model.specs.Sequencing.{sequenced, reserved}
use Rattle.world_model.specs.Settled.{Settled}

-- a round of a script, as far as it tells on the log
pub record Round : Type 0 where
  -- by how many microseconds time moves on at its beginning; with 0 it has no Tick
  pub advance : ℕ
  -- the participants that are paused in it
  pub paused : List ParticipantId
  -- whether the mediator holds its verdicts in it
  pub holds_verdicts : Bool
  pub raws : List Request  -- that clients hand in, whoever made them
  -- what clients submit, in order
  pub submits : List Submission

-- Why a submission isn't sent: its participant is paused; it wants no request, with whatever F is said of such a submission; a request of its sender
-- and command stands at a place; or its need, with what is reserved, is above the capacity.
pub data SubmitFault (F : Type 0) : Type 0 where
  Paused : SubmitFault F
  Unwanted : F → SubmitFault F
  Duplicate : (place : ℕ) → SubmitFault F
  LogFull : (reserved need : ℕ) → SubmitFault F

-- What a submission is answered: its request stands at a place, or why it isn't sent. `read_to` tells how many entries its participant had read.
pub data SubmitResult (F : Type 0) : Type 0 where
  Sent : (place read_to : ℕ) → SubmitResult F
  Refused : SubmitFault F → (read_to : ℕ) → SubmitResult F

-- how many entries the participant had read when it answered so
abbrev pub read_of : {F : Type 0} → SubmitResult F → ℕ
read_of (Sent place read_to) = read_to
read_of (Refused fault read_to) = read_to

-- submissions with their results, in the order in which they were answered
abbrev pub Results : Type 0 → Type 0
Results F = List (Submission × SubmitResult F)

-- A function that tells why a submission wants no request: from the submission, its participant's inbox and the time it gives the fault, an F.
abbrev pub Why : Type 0 → Type 0
Why F = Submission → List Item → (now : ℕ) → F

-- the inbox of the submission's participant when it has read the first n entries of the log
abbrev pub read_at : Machine → List Entry → Submission → ℕ → List Item
read_at m log what n = inbox m.reading what.participant (take n log)

-- the request that the submission wants when its participant has read the first n entries of the log; None where it wants none
abbrev pub wanted_at : Machine → (now : ℕ) → List Entry → Submission → ℕ → Option Request
wanted_at m now log what n = m.prepare what (read_at m log what n) now

-- The log after a round's Tick, which has the time `now` after the round's advance; the log as it was where time doesn't move on in the round.
abbrev pub ticked : Machine → (now : ℕ) → Round → List Entry → List Entry
ticked m now round log = if nat_eq round.advance 0 then log else sequenced m now log Tick

-- the log after these requests were handed in, one after another; those that are refused leave no trace; `now` has no effect, since no Tick is among
-- them
abbrev pub handed_in : Machine → (now : ℕ) → List Entry → List Request → List Entry
handed_in m now log [] = log
handed_in m now log (request ∷ rest) = handed_in m now (sequenced m now log (RequestMessage request)) rest

-- the log after a round's Tick and its raw requests, where its submissions begin; `now` is the round's time
abbrev pub begun : Machine → (now : ℕ) → Round → List Entry → List Entry
begun m now round log = handed_in m now (ticked m now round log) round.raws

-- The result Sent of a submission is right: at the place stands the request that it wants over the first `read_to` entries, behind these, and before
-- `end`, the end of the part.
pub record SentHolds (m : Machine) (now : ℕ) (log : List Entry) (end : ℕ) (what : Submission) (place read_to : ℕ) : Type 0 where
  pub request : Request
  pub there : request_at log place ≡ Some request
  pub wanted : wanted_at m now log what read_to ≡ Some request
  pub read_before : read_to ≤ place
  pub in_part : place < end

-- The result Duplicate of a submission is right: at the place stands a request with the sender and command of the one that it wants, and that is the
-- request of one of the `earlier` Sent results, or one of `raws`, the raw requests of this round and those before.
pub record DuplicateHolds {F : Type 0} (m : Machine) (now : ℕ) (log : List Entry) (raws : List Request) (earlier : Results F) (what : Submission)
    (place read_to : ℕ) : Type 0 where
  pub request : Request
  pub wanted : wanted_at m now log what read_to ≡ Some request
  pub first : Request
  pub there : request_at log place ≡ Some first
  pub known : ((before : Submission) × (n : ℕ) × Contains earlier (before, Sent place n)) ⊎ Contains raws first
  pub sender : first.sender ≡ request.sender
  pub command : first.command ≡ request.command

-- The result LogFull of a submission is right: the `need` of the request that it wants, and the `amount` that the first `some` entries reserve, are
-- together above the capacity. No request of its sender and command stands in these entries.
pub record FullHolds (m : Machine) (now : ℕ) (log : List Entry) (end : ℕ) (what : Submission) (amount need read_to : ℕ) : Type 0 where
  pub request : Request
  pub wanted : wanted_at m now log what read_to ≡ Some request
  pub needs : need ≡ 2 + length request.confirming
  pub some : ℕ  -- the entries over which the needs were summed
  pub at_least : read_to ≤ some
  pub at_most : some ≤ end
  pub amount_is : amount ≡ reserved (take some log)
  pub full : m.capacity < amount + need
  pub fresh : list_any (λ (entry : Entry). is_request_of request.sender request.command entry.message) (take some log) ≡ false

-- A refusal of a submission is right, by its cause: Paused where the round pauses its participant, Unwanted where it wants no request and `why` gives
-- this fault, Duplicate and LogFull by `DuplicateHolds` and `FullHolds`. `end` is where the part ends, `earlier` are the results before this one.
abbrev pub RefusalHolds : {F : Type 0} → Machine → Why F → (now : ℕ) → Round → (raws : List Request) → List Entry → (end : ℕ)
    → (earlier : Results F) → Submission → SubmitFault F → (read_to : ℕ) → Type 0
RefusalHolds m why now round raws log end earlier what Paused n = has_place round.paused what.participant ≡ true
RefusalHolds m why now round raws log end earlier what (Unwanted fault) n = (wanted_at m now log what n ≡ None) × (why what (read_at m log what n) now ≡ fault)
RefusalHolds m why now round raws log end earlier what (Duplicate place) n = DuplicateHolds m now log raws earlier what place n
RefusalHolds m why now round raws log end earlier what (LogFull amount need) n = FullHolds m now log end what amount need n

-- The result of a submission is right: by `SentHolds` where it was sent, by `RefusalHolds` where it was refused. `end` is where the part ends, `raws`
-- are the raw requests up to this round, and `earlier` the results before this one.
abbrev pub AnswerHolds : {F : Type 0} → Machine → Why F → (now : ℕ) → Round → (raws : List Request) → List Entry → (end : ℕ)
    → (earlier : Results F) → Submission → SubmitResult F → Type 0
AnswerHolds m why now round raws log end earlier what (Sent place read_to) = SentHolds m now log end what place read_to
AnswerHolds m why now round raws log end earlier what (Refused fault read_to) = RefusalHolds m why now round raws log end earlier what fault read_to

-- A submission's participant had read n entries, and so past the Tick and the raw requests of the part, whose submissions begin at `start`, and past
-- the places of its own earlier Sent results.
pub record ReadHolds {F : Type 0} (start n : ℕ) (earlier : Results F) (what : Submission) : Type 0 where
  pub after_start : start ≤ n
  pub after_sent : (before : Submission) (place read_to : ℕ) → Contains earlier (before, Sent place read_to) → before.participant ≡ what.participant
      → place < n

-- One result of a part is right: the answer is (`AnswerHolds`); a participant that isn't paused had read as far as it has to (`ReadHolds`), and a
-- paused one answers Paused. The log goes up to the part's end, `end`, and the submissions begin at `start`; `raws` are the raw requests up to this
-- round, `earlier` the results before.
pub record ResultHolds {F : Type 0} (m : Machine) (why : Why F) (now : ℕ) (round : Round) (raws : List Request) (log : List Entry) (start end : ℕ)
    (earlier : Results F) (what : Submission) (result : SubmitResult F) : Type 0 where
  pub answer : AnswerHolds m why now round raws log end earlier what result
  pub within : read_of result ≤ end
  -- of a participant that isn't paused
  pub read : has_place round.paused what.participant ≡ false → ReadHolds start (read_of result) earlier what
  pub paused : has_place round.paused what.participant ≡ true → (n : ℕ) × (result ≡ Refused Paused n)

-- Each of these results of a part is right (`ResultHolds`), against the results before it, which are `earlier` for the first. The part's submissions
-- begin at `start`, and it ends at `end`.
abbrev pub ResultsHold : {F : Type 0} → Machine → Why F → (now : ℕ) → Round → (raws : List Request) → List Entry → (start end : ℕ)
    → (earlier : Results F) → Results F → Type 0
ResultsHold m why now round raws log start end earlier [] = Unit {0}
ResultsHold m why now round raws log start end earlier (x ∷ rest) =
    ResultHolds m why now round raws log start end earlier x.0 x.1 × ResultsHold m why now round raws log start end (earlier ++ x ∷ []) rest

-- whether the message is a Tick
abbrev pub is_tick : Message → Bool
is_tick Tick = true
is_tick (RequestMessage request) = false
is_tick (ResponseMessage response) = false
is_tick (VerdictMessage verdict) = false

-- One part of a log is right: `before` is the log where it begins and `after` where it ends. After its Tick, where it has one, and its raw requests,
-- it has no other Tick, its requests are those of the Sent results, and its end is settled.
pub record PartHolds {F : Type 0} (m : Machine) (now : ℕ) (round : Round) (results : Results F) (before after : List Entry) : Type 0 where
  -- what the part has behind its Tick and its raw requests
  pub rest : List Entry
  pub is_begun : after ≡ begun m now round before ++ rest
  pub no_tick : (e : Entry) → Contains rest e → is_tick e.message ≡ false
  pub of_results : (k : ℕ) (q : Request) → length (begun m now round before) ≤ k → request_at after k ≡ Some q
      → (what : Submission) × (read_to : ℕ) × Contains results (what, Sent k read_to)
  pub in_rest : (what : Submission) (k read_to : ℕ) → Contains results (what, Sent k read_to) → length (begun m now round before) ≤ k
  pub settled : Settled m round.paused round.holds_verdicts after

-- A round is right, over the log `before` where it begins and `after` where it ends: its part is (`PartHolds`), its results are of its submissions in
-- order, and each result is right. `raws` are the raw requests up to this round, `earlier` the results before it.
pub record RoundHolds {F : Type 0} (m : Machine) (why : Why F) (now : ℕ) (round : Round) (raws : List Request) (earlier results : Results F)
    (before after : List Entry) : Type 0 where
  pub part : PartHolds m now round results before after
  pub submits : map (λ (x : Submission × SubmitResult F). x.0) results ≡ round.submits
  pub each : ResultsHold m why now round raws after (length (begun m now round before)) (length after) earlier results

-- a round that was played: with its results, and the length of the log at its end
pub record RoundAnswers (F : Type 0) : Type 0 where
  pub round : Round
  pub results : Results F
  pub end : ℕ

-- The rounds of a run are right, over the whole log that is cut at their ends: the first begins at `start`, `now` is the time of the round before
-- it, and `raws` and `earlier` are the raw requests and the results of all rounds before it.
abbrev pub RoundsHold : {F : Type 0} → Machine → Why F → (now : ℕ) → (log : List Entry) → (start : ℕ) → (raws : List Request)
    → (earlier : Results F) → List (RoundAnswers F) → Type 0
RoundsHold m why now log start raws earlier [] = start ≡ length log
RoundsHold m why now log start raws earlier (x ∷ rest) =
    (start ≤ x.end) × RoundHolds m why (now + x.round.advance) x.round (raws ++ x.round.raws) earlier x.results (take start log) (take x.end log)
    × RoundsHold m why (now + x.round.advance) log x.end (raws ++ x.round.raws) (earlier ++ x.results) rest

-- A run is right, with any number of workers: its log is genuine and within the capacity, and consists of the parts of its rounds, which are right. In
-- a run with rules each of a round's two parts counts as a round here.
pub record RunHolds {F : Type 0} (m : Machine) (why : Why F) (log : List Entry) (rounds : List (RoundAnswers F)) : Type 0 where
  pub genuine : GenuineLog m log
  pub within_capacity : reserved log ≤ m.capacity
  pub cut : RoundsHold m why 0 log 0 [] [] rounds
