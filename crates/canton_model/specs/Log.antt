-- The sequencer's log: its messages and their times.
use Rattle.std.specs.Prelude.{◌≡◌, ℕ, ◌+◌, ◌<◌, List, [], ◌∷◌, Option, Some, None, slice_get}
pub use Rattle.ledger_terms.specs.declared.params.Params.{Params}
pub use Rattle.canton_model.specs.declared.envelope.Envelope.{Envelope}
pub use Rattle.canton_model.specs.declared.request.Request.{Request}
pub use Rattle.canton_model.specs.declared.reason.Reason.{Reason}
pub use Rattle.canton_model.specs.declared.reason.Reason.TheVariants.{IdMismatch, NotVetted, TimeSkew, Locked, Inactive, NotFresh}
pub use Rattle.canton_model.specs.declared.reason.Reason.TheVariants.{Unordered, NotConformant, NotAuthorised}
pub use Rattle.canton_model.specs.declared.reason.Reason.TheVariants.{RootMismatch, ViewMissing, WrongSender, WrongCommon}
pub use Rattle.canton_model.specs.declared.local_verdict.LocalVerdict.{LocalVerdict}
pub use Rattle.canton_model.specs.declared.local_verdict.LocalVerdict.TheVariants.{Approve, Reject}
pub use Rattle.canton_model.specs.declared.view_verdict.ViewVerdict.{ViewVerdict}
pub use Rattle.canton_model.specs.declared.response.Response.{Response}
pub use Rattle.canton_model.specs.declared.decision.Decision.{Decision}
pub use Rattle.canton_model.specs.declared.decision.Decision.TheVariants.{Approved, Rejected, TimedOut}
pub use Rattle.canton_model.specs.declared.verdict.Verdict.{Verdict}
pub use Rattle.canton_model.specs.declared.message.Message.{Message}
pub use Rattle.canton_model.specs.declared.message.Message.TheVariants.{Request as RequestMessage, Response as ResponseMessage}
pub use Rattle.canton_model.specs.declared.message.Message.TheVariants.{Verdict as VerdictMessage, Tick}
pub use Rattle.canton_model.specs.declared.entry.Entry.{Entry}

-- the request that a message is, None of any other message
abbrev pub request_of : Message → Option Request
request_of (RequestMessage request) = Some request
request_of (ResponseMessage response) = None
request_of (VerdictMessage verdict) = None
request_of Tick = None

-- the verdict that a message is, None of any other message
abbrev pub verdict_of : Message → Option Verdict
verdict_of (RequestMessage request) = None
verdict_of (ResponseMessage response) = None
verdict_of (VerdictMessage verdict) = Some verdict
verdict_of Tick = None

-- the time of an entry, and 0 where there is none, as beyond the end of a log
abbrev pub time_of : Option Entry → ℕ
time_of None = 0
time_of (Some entry) = entry.time

-- the request that an entry brings, None where there is no entry or it brings another message
abbrev pub request_in : Option Entry → Option Request
request_in None = None
request_in (Some entry) = request_of entry.message

-- the request at place k of the log, None where the log ends before k or another message stands there
abbrev pub request_at : List Entry → ℕ → Option Request
request_at log k = request_in (slice_get log k)

-- How the time of an entry with this message goes on from `before`, the time of the entry before it: a Tick comes later, and any
-- other message one microsecond after it.
abbrev pub FollowsTime : Message → (before time : ℕ) → Type 0
FollowsTime Tick before time = before < time
FollowsTime (RequestMessage request) before time = time ≡ before + 1
FollowsTime (ResponseMessage response) before time = time ≡ before + 1
FollowsTime (VerdictMessage verdict) before time = time ≡ before + 1

-- the time of a log's last entry, and 0 of the empty log
abbrev pub time_at_end : List Entry → ℕ
time_at_end [] = 0
time_at_end (entry ∷ []) = entry.time
time_at_end (entry ∷ next ∷ rest) = time_at_end (next ∷ rest)

-- The times of all these entries follow one another as `FollowsTime` has it. The first argument is the time of the entry before the
-- first of them, 0 for a whole log.
abbrev pub TimesFrom : ℕ → List Entry → Type 0
TimesFrom before [] = Unit {0}
TimesFrom before (entry ∷ rest) = FollowsTime entry.message before entry.time × TimesFrom entry.time rest

-- until when responses to the request at place j of the log count: the time of its entry and the response timeout; the timeout alone where the log has
-- no entry there
abbrev pub deadline_of : Params → List Entry → ℕ → ℕ
deadline_of params log j = time_of (slice_get log j) + params.response_timeout

-- until when a verdict on the request at place j of the log may come: its deadline (`deadline_of`) and the reaction timeout
abbrev pub decision_time_of : Params → List Entry → ℕ → ℕ
decision_time_of params log j = deadline_of params log j + params.reaction_timeout
