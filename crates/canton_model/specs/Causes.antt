-- What each rejection says, as a fact in which no participant's status occurs.
use Rattle.std.specs.Prelude.{◌≡◌, ◌⊎◌, ℕ, suc, ◌<◌, Bool, true, false, List, Some, None, Contains, take, filter, not, nat_lt, ◌&&◌, ◌||◌}
use Rattle.std.specs.List.{list_any}
use Rattle.ledger_model.specs.Terms.{Hash, Act, id_of, is_create, creates, consumes, ParticipantId, Path}
use Rattle.ledger_model.specs.Forest.{acts}
use Rattle.ledger_model.specs.Status.{is_active, is_unknown}
use Rattle.canton_model.specs.Log.{Params, Entry, Request, Reason, IdMismatch, NotVetted, TimeSkew, Locked, Inactive, NotFresh, Unordered}
use Rattle.canton_model.specs.Log.{NotConformant, NotAuthorised, RootMismatch, ViewMissing, WrongSender, WrongCommon}
use Rattle.canton_model.specs.Log.{Reject, Approved, Rejected, TimedOut, request_at, deadline_of, decision_time_of}
use Rattle.canton_model.specs.Timeline.{Outcome, Decided, Expired, Undecided, timeline_of, verdict_on, is_past, is_decided_at}
use Rattle.canton_model.specs.Mediation.{is_response_of}
use Rattle.ledger_model.specs.Opening.{OpenedView, Shown}
use Rattle.canton_model.specs.Reading.{Reading, shown_to, paths_confirmed}
use Rattle.canton_model.specs.Inbox.{inbox}
use Rattle.canton_model.specs.Ledger.{opened_to, status_in, is_withheld}
use Rattle.canton_model.specs.Checks.{verdict_on_offer}

-- Contract c is locked at place k of the log: a request below k that isn't decided at k creates or consumes it, by an authentic action that a
-- complete envelope opens to some participant.
pub record IsLockedIn (reading : Reading) (params : Params) (log : List Entry) (k : ℕ) (c : Hash) : Type 0 where
  -- where the request stands that locks the contract
  pub place : ℕ
  pub below : place < k
  pub undecided : is_decided_at (timeline_of log) place (decision_time_of params log place) k ≡ false
  -- to whom a complete envelope opens the action
  pub participant : ParticipantId
  pub act : Act
  pub is_opened : Contains (acts (opened_to reading participant (request_at log place))) act
  pub authentic : reading.is_authentic act ≡ true
  pub changes : (creates c act || consumes c act) ≡ true

-- Some action of the core of the view with this path, as a complete envelope of the request opens it to participant p, has the property P. P is told
-- all that p is shown, and the action with its number in it.
pub record SomeCore (reading : Reading) (p : ParticipantId) (request : Request) (path : Path) (P : Shown → ℕ × Act → Type 0) : Type 0 where
  pub shown : Shown
  pub is_shown : shown_to reading p request ≡ Some shown
  pub view : OpenedView
  pub is_opened : Contains shown.views view
  pub has_path : view.path ≡ path
  pub action : ℕ × Act
  pub in_core : Contains view.core action
  pub holds : P shown action

-- Whether an authentic action that is opened before this one, in the same request, creates its contract. The action is given with its number among all
-- that is shown.
abbrev pub is_created_before : Reading → Shown → ℕ × Act → Bool
is_created_before reading shown a =
    list_any (λ (b : Act). reading.is_authentic b && creates (id_of (a.1).action) b) (take a.0 (acts shown.roots))

-- some place below j of the log is withheld from participant p; such a participant may reject as Inactive what the ledger has as active
abbrev pub IsWithheldBelow : Reading → List Entry → ParticipantId → ℕ → Type 0
IsWithheldBelow reading log p j = (m : ℕ) × (m < j) × (is_withheld reading log p m ≡ true)

-- What participant p's rejection for this reason says, whether hashes collide or not, of the view with this path of the request at place j: for
-- Locked, that an action of the core is on a contract that is locked there; for any other reason nothing.
abbrev pub LocalReasonHolds : Reading → Params → List Entry → (j : ℕ) → ParticipantId → Request → Path → Reason → Type 0
LocalReasonHolds reading params log j p request path Locked =
    SomeCore reading p request path (λ shown a. IsLockedIn reading params log j (id_of (a.1).action))
LocalReasonHolds reading params log j p request path RootMismatch = Unit {0}
LocalReasonHolds reading params log j p request path ViewMissing = Unit {0}
LocalReasonHolds reading params log j p request path WrongSender = Unit {0}
LocalReasonHolds reading params log j p request path WrongCommon = Unit {0}
LocalReasonHolds reading params log j p request path IdMismatch = Unit {0}
LocalReasonHolds reading params log j p request path NotVetted = Unit {0}
LocalReasonHolds reading params log j p request path TimeSkew = Unit {0}
LocalReasonHolds reading params log j p request path Inactive = Unit {0}
LocalReasonHolds reading params log j p request path NotFresh = Unit {0}
LocalReasonHolds reading params log j p request path Unordered = Unit {0}
LocalReasonHolds reading params log j p request path NotConformant = Unit {0}
LocalReasonHolds reading params log j p request path NotAuthorised = Unit {0}

-- What participant p's rejection for this reason of the view with this path says of the ledger, where no hashes collide. For Inactive: an action of the
-- core uses a contract that no authentic action before it creates, and that isn't active by the ledger, or something below j is withheld from p. For
-- NotFresh: one creates a contract that isn't unknown by the ledger. For any other reason nothing.
abbrev pub LedgerReasonHolds : Reading → List Entry → (j : ℕ) → ParticipantId → Request → Path → Reason → Type 0
LedgerReasonHolds reading log j p request path Inactive =
    SomeCore reading p request path (λ shown a.
    (is_create (a.1).action ≡ false)
    × (is_created_before reading shown a ≡ false)
    × ((is_active (status_in reading log j (id_of (a.1).action)) ≡ false) ⊎ IsWithheldBelow reading log p j))
LedgerReasonHolds reading log j p request path NotFresh =
    SomeCore reading p request path (λ shown a. (is_create (a.1).action ≡ true) × (is_unknown (status_in reading log j (id_of (a.1).action)) ≡ false))
LedgerReasonHolds reading log j p request path RootMismatch = Unit {0}
LedgerReasonHolds reading log j p request path ViewMissing = Unit {0}
LedgerReasonHolds reading log j p request path WrongSender = Unit {0}
LedgerReasonHolds reading log j p request path WrongCommon = Unit {0}
LedgerReasonHolds reading log j p request path IdMismatch = Unit {0}
LedgerReasonHolds reading log j p request path NotVetted = Unit {0}
LedgerReasonHolds reading log j p request path TimeSkew = Unit {0}
LedgerReasonHolds reading log j p request path Locked = Unit {0}
LedgerReasonHolds reading log j p request path Unordered = Unit {0}
LedgerReasonHolds reading log j p request path NotConformant = Unit {0}
LedgerReasonHolds reading log j p request path NotAuthorised = Unit {0}

-- Participant p confirms the view with this path of the request at place j, and its check of the view there gives the reason.
pub record RejectionStands (reading : Reading) (params : Params) (log : List Entry) (j : ℕ) (p : ParticipantId) (path : Path) (reason : Reason) : Type 0 where
  pub request : Request
  -- the request stands at place j
  pub there : request_at log j ≡ Some request
  -- p has to confirm the view
  pub is_confirmed : Contains (paths_confirmed reading p request) path
  -- the place in the core of the action that shows the reason
  pub action : ℕ
  pub check : verdict_on_offer reading params p (inbox reading p (take (suc j) log)) j request.sender path (reading.offered p request)
      ≡ Reject reason action

-- Participant p's rejection of the view with this path of the request at place j is right, whether hashes collide or not: p's check gives the reason
-- (`RejectionStands`), and what the reason says is so (`LocalReasonHolds`).
pub record LocalRejectionHolds (reading : Reading) (params : Params) (log : List Entry) (j : ℕ) (p : ParticipantId) (path : Path) (reason : Reason)
    : Type 0 where
  pub stands : RejectionStands reading params log j p path reason
  pub holds : LocalReasonHolds reading params log j p stands.request path reason

-- Participant p's rejection of the view with this path of the request at place j is right as `LocalRejectionHolds` has it, and what its reason says of
-- the ledger is so too (`LedgerReasonHolds`).
pub record RejectionHolds (reading : Reading) (params : Params) (log : List Entry) (j : ℕ) (p : ParticipantId) (path : Path) (reason : Reason) : Type 0 where
  pub locally : LocalRejectionHolds reading params log j p path reason
  pub holds : LedgerReasonHolds reading log j p (locally.stands).request path reason

-- whether participant p has a response to the request at place j in an entry that isn't later than this time
abbrev pub has_responded_by : List Entry → (j time : ℕ) → ParticipantId → Bool
has_responded_by log j time p = list_any (λ (entry : Entry). not (nat_lt time entry.time) && is_response_of p j entry.message) log

-- A timeout of the request at place j is right: some entry is past the deadline, and the participants named as missing are exactly those that the
-- request asks without a response by the deadline, in the request's order.
pub record TimeoutHolds (params : Params) (log : List Entry) (j : ℕ) (missing : List ParticipantId) : Type 0 where
  pub request : Request
  pub there : request_at log j ≡ Some request
  pub past : is_past (deadline_of params log j) (timeline_of log) ≡ true
  pub exact : missing ≡ filter (λ p. not (has_responded_by log j (deadline_of params log j) p)) request.confirming

-- The request at place j has expired: some entry is past its decision time, and no verdict on it stands in the log.
pub record ExpiryHolds (params : Params) (log : List Entry) (j : ℕ) : Type 0 where
  pub past : is_past (decision_time_of params log j) (timeline_of log) ≡ true
  pub unanswered : verdict_on j (timeline_of log) ≡ None

-- What this outcome of the request at place j says, whether hashes collide or not. Of an approved or an undecided request it is nothing.
abbrev pub LocalCauseOf : Reading → Params → List Entry → (j : ℕ) → Outcome → Type 0
LocalCauseOf reading params log j (Decided Approved) = Unit {0}
LocalCauseOf reading params log j (Decided (Rejected from view reason)) = LocalRejectionHolds reading params log j from view reason
LocalCauseOf reading params log j (Decided (TimedOut missing)) = TimeoutHolds params log j missing
LocalCauseOf reading params log j Expired = ExpiryHolds params log j
LocalCauseOf reading params log j Undecided = Unit {0}

-- What this outcome of the request at place j says where no hashes collide: what `LocalCauseOf` has, and of a rejection as Inactive or NotFresh also
-- what it says of the contract's status by the ledger.
abbrev pub CauseOf : Reading → Params → List Entry → (j : ℕ) → Outcome → Type 0
CauseOf reading params log j (Decided Approved) = Unit {0}
CauseOf reading params log j (Decided (Rejected from view reason)) = RejectionHolds reading params log j from view reason
CauseOf reading params log j (Decided (TimedOut missing)) = TimeoutHolds params log j missing
CauseOf reading params log j Expired = ExpiryHolds params log j
CauseOf reading params log j Undecided = Unit {0}
