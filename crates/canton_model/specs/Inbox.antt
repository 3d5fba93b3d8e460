-- What one participant learns of a log, and what it concludes from that.
use Rattle.std.specs.Prelude.{◌≡◌, ℕ, zero, suc, ◌+◌, ◌<◌, ◌≤◌, Bool, true, false, List, [], ◌∷◌, ◌++◌, Option, Some, None, length, map}
use Rattle.std.specs.Prelude.{filter, flat_map, take, slice_get, not, is_some, if◌then◌else◌, ◌&&◌}
use Rattle.std.specs.List.{list_any}
use Rattle.std.specs.Str.{bytes_eq}
use Rattle.ledger_model.specs.Terms.{Hash, Act, ActiveRow, Instance, id_of, instance_of, is_create, consumes, ParticipantId, Path}
use Rattle.ledger_model.specs.Forest.{Forest, NoRoots, Root, Commit, acts, ledger_acts, project}
use Rattle.ledger_model.specs.Status.{status_after, is_locked_by}
use Rattle.ledger_model.specs.declared.status.Status.{Status}
use Rattle.canton_model.specs.Evidence.{gather}
use Rattle.canton_model.specs.Log.{Params, Entry, Message, RequestMessage, ResponseMessage, VerdictMessage, Tick, Request, Verdict, request_at}
use Rattle.canton_model.specs.Timeline.{Moment, Outcome, is_decided_at, is_approved_in, outcome_of}
use Rattle.ledger_model.specs.Opening.{Transaction, Shown, roots_in}
use Rattle.canton_model.specs.Reading.{Reading, Offer, is_recipient, paths_seen, paths_confirmed, is_some_path, shown_in_offer}
use Rattle.ledger_model.specs.Language.{informees_of}
pub use Rattle.ledger_model.specs.declared.commit.Commit.{Commit as CommitRoots}

-- what a recipient learns of a request by its entry
pub record Notice : Type 0 where
  pub sender : ParticipantId
  pub seen : List Path  -- the views that it sees
  pub confirmed : List Path  -- those that it confirms
  -- what the envelope to it gives
  pub offer : Offer

-- What an entry brings a participant: a request of which it is a recipient; a verdict on such a request; or nothing, as of every other entry.
pub data Content : Type 0 where
  Received : Notice → Content
  Told : Verdict → Content
  Nothing : Content

-- what a participant learns of one entry of the log: the time, which everybody is told, and the content
pub record Item : Type 0 where
  pub time : ℕ
  pub content : Content

-- what participant p learns of a request; that p is a recipient isn't tried here
abbrev pub notice_of : Reading → ParticipantId → Request → Notice
notice_of reading p request =
    record {
      sender = request.sender;
      seen = paths_seen reading p request;
      confirmed = paths_confirmed reading p request;
      offer = reading.offered p request;
    }

-- what the entry of a request brings participant p: the notice of it where p is a recipient, else nothing
abbrev pub received : Reading → ParticipantId → Request → Content
received reading p request = if is_recipient reading p request then Received (notice_of reading p request) else Nothing

-- What the entry of a verdict brings participant p, where the last argument is the request that the verdict is on: the verdict where p is a
-- recipient of that request. Nothing where it isn't, or there is no such request.
abbrev pub verdict_content : Reading → ParticipantId → Verdict → Option Request → Content
verdict_content reading p verdict None = Nothing
verdict_content reading p verdict (Some request) = if is_recipient reading p request then Told verdict else Nothing

-- what a message brings participant p, where `log` are the entries before the message's
abbrev pub content_of : Reading → ParticipantId → List Entry → Message → Content
content_of reading p log (RequestMessage request) = received reading p request
content_of reading p log (VerdictMessage verdict) = verdict_content reading p verdict (request_at log verdict.request)
content_of reading p log (ResponseMessage response) = Nothing
content_of reading p log Tick = Nothing

-- what participant p learns of an entry that comes after the entries `before`
abbrev pub item_after : Reading → ParticipantId → (before : List Entry) → Entry → Item
item_after reading p before entry = record { time = entry.time; content = content_of reading p before entry.message }

-- what participant p learns of each of the entries in the last argument, which come after the entries `before`; one item for each
abbrev pub items_after : Reading → ParticipantId → (before : List Entry) → List Entry → List Item
items_after reading p before [] = []
items_after reading p before (entry ∷ rest) = item_after reading p before entry ∷ items_after reading p (before ++ entry ∷ []) rest

-- all that participant p learns of a log: one item for each entry, so that places are the same in both
abbrev pub inbox : Reading → ParticipantId → List Entry → List Item
inbox reading p log = items_after reading p [] log

-- the verdict that an item's content tells, None of a request and of nothing
abbrev pub verdict_in : Content → Option Verdict
verdict_in (Received notice) = None
verdict_in (Told verdict) = Some verdict
verdict_in Nothing = None

-- the moments that a participant knows by its items: all times, and the verdicts that it was told
abbrev pub moments : List Item → List Moment
moments items = map (λ (item : Item). record { time = item.time; verdict = verdict_in item.content }) items

-- the notice of a request that an item's content is, None of a verdict and of nothing
abbrev pub notice_by : Content → Option Notice
notice_by (Received notice) = Some notice
notice_by (Told verdict) = None
notice_by Nothing = None

-- the notice of the request that an item brings, None where there is no item or it brings no request
abbrev pub notice_in : Option Item → Option Notice
notice_in None = None
notice_in (Some item) = notice_by item.content

-- what a notice's envelope shows, None where there is no notice or the envelope isn't complete
abbrev pub shown_in_notice : Option Notice → Option Shown
shown_in_notice None = None
shown_in_notice (Some notice) = shown_in_offer notice.offer

-- what a complete envelope shows of the request that an item brings, None where there is no item, no request or no complete envelope
abbrev pub shown_in : Option Item → Option Shown
shown_in item = shown_in_notice (notice_in item)

-- an item's time, and 0 where there is none, as beyond the end of an inbox
abbrev pub item_time : Option Item → ℕ
item_time None = 0
item_time (Some item) = item.time

-- the time of the last item, and 0 of the empty inbox
abbrev pub last_time : List Item → ℕ
last_time [] = 0
last_time (item ∷ []) = item.time
last_time (item ∷ next ∷ rest) = last_time (next ∷ rest)

-- the notice of the request at place m of an inbox, None where the participant received no request there
abbrev pub notice_at : List Item → ℕ → Option Notice
notice_at items m = notice_in (slice_get items m)

-- what a complete envelope shows of the request at place m, None where none was received there or the envelope isn't complete
abbrev pub shown_at : List Item → ℕ → Option Shown
shown_at items m = shown_in (slice_get items m)

-- the actions that a complete envelope opens of the request at place m, with all below them; the empty forest where `shown_at` is None
abbrev pub opened_at : List Item → ℕ → Forest Act
opened_at items m = roots_in (shown_at items m)

-- the decision time of the request at place m of an inbox: the item's time and both timeouts
abbrev pub decision_time_in : Params → List Item → ℕ → ℕ
decision_time_in params items m = item_time (slice_get items m) + params.response_timeout + params.reaction_timeout

-- the request at the place `request` is decided at `place`, by what these items tell
abbrev pub is_decided_in : Params → List Item → (request place : ℕ) → Bool
is_decided_in params items m k = is_decided_at (moments items) m (decision_time_in params items m) k

-- The outcome, over all these items, of the request at place m: the decision of its first verdict, or without one Expired or Undecided. At a place
-- where no request was received it says nothing; `outcome_received` is None there.
abbrev pub outcome_in : Params → List Item → ℕ → Outcome
outcome_in params items m = outcome_of (moments items) m (decision_time_in params items m)

-- The actions that count for the status of contracts at place k: the authentic ones that complete envelopes opened to the participant, of requests
-- below k whose first verdict before k is Approved, in order.
abbrev pub past_in : Reading → List Item → ℕ → List Act
past_in reading items k =
    gather (λ m. is_approved_in m (take k (moments items))) (λ m. filter reading.is_authentic (acts (opened_at items m))) k

-- The actions by which contracts count as locked at place k: the authentic ones that complete envelopes opened to the participant, of requests below
-- k that aren't decided at k, in order.
abbrev pub pending_in : Reading → Params → List Item → ℕ → List Act
pending_in reading params items k =
    gather (λ m. not (is_decided_in params items m k)) (λ m. filter reading.is_authentic (acts (opened_at items m))) k

-- the status of contract c at place k, as a participant with these items knows it
abbrev pub status_in_inbox : Reading → List Item → ℕ → Hash → Status
status_in_inbox reading items k c = status_after (past_in reading items k) c

-- whether contract c is locked at place k, as a participant with these items knows it
abbrev pub is_locked_in_inbox : Reading → Params → List Item → ℕ → Hash → Bool
is_locked_in_inbox reading params items k c = is_locked_by (pending_in reading params items k) c

-- whether an item's content is a request that the participant received
abbrev pub is_received : Content → Bool
is_received (Received notice) = true
is_received (Told verdict) = false
is_received Nothing = false

-- How many items of the last argument stand before the first received request that isn't decided over the whole inbox `items`; all of them where there
-- is none. The last argument is the rest of `items` from place k on.
abbrev pub clean_from : Params → List Item → ℕ → List Item → ℕ
clean_from params items k [] = 0
clean_from params items k (item ∷ rest) =
    if is_received item.content && not (is_decided_in params items k (length items))
    then 0
    else suc (clean_from params items (suc k) rest)

-- The clean place of an inbox: the greatest, of those at most the number of items, such that every request received below it is decided over all of
-- them (law `clean_is_greatest`).
abbrev pub clean : Params → List Item → ℕ
clean params items = clean_from params items 0 items

-- The commit of these actions at a place, as a list of one. The empty list where the truth value is false, or there are no actions.
abbrev pub part_if : Bool → ℕ → Forest Act → List CommitRoots
part_if false place roots = []
part_if true place NoRoots = []
part_if true place (Root act consequences others) = record { place = place; roots = Root act consequences others } ∷ []

-- The requests below a place of an inbox that are approved over all its items, as opened to the participant, in order, without those of which nothing
-- was opened.
abbrev pub parts_below : List Item → ℕ → List CommitRoots
parts_below items zero = []
parts_below items (suc k) = parts_below items k ++ part_if (is_approved_in k (moments items)) k (opened_at items k)

-- n is at most the number of items, and every request received below n is decided over all of them
pub record IsClean (params : Params) (items : List Item) (n : ℕ) : Type 0 where
  pub within : n ≤ length items
  pub decided : (m : ℕ) (item : Item) → m < n → slice_get items m ≡ Some item → is_received item.content ≡ true
      → is_decided_in params items m (length items) ≡ true

-- the clean time: the time of the item before the clean place, 0 where that is the first place
abbrev pub clean_time : Params → List Item → ℕ
clean_time params items = last_time (take (clean params items) items)

-- The participant sees a view of the request that the notice is of, and its envelope isn't complete. False where there is no notice.
abbrev pub is_kept_from : Option Notice → Bool
is_kept_from None = false
is_kept_from (Some notice) = is_some_path notice.seen && not (is_some (shown_in_offer notice.offer))

-- Place m is withheld, by what these items tell: its request is approved, the participant sees a view of it, and the envelope to it isn't complete.
abbrev pub is_withheld_in : List Item → ℕ → Bool
is_withheld_in items m = is_approved_in m (moments items) && is_kept_from (notice_at items m)

-- the places below the given one that are withheld, by what these items tell, in order
abbrev pub withheld_below : List Item → ℕ → List ℕ
withheld_below items zero = []
withheld_below items (suc k) = withheld_below items k ++ (if is_withheld_in items k then k ∷ [] else [])

-- the places that a participant keeps as withheld: those below its clean place
abbrev pub withheld : Params → List Item → List ℕ
withheld params items = withheld_below items (clean params items)

-- A participant's log: the approved requests below its clean place, as opened to it, without those of which nothing was opened.
abbrev pub node_log : Params → List Item → List CommitRoots
node_log params items = parts_below items (clean params items)

-- The contract that a Create makes, with the place of its request. The salt is the Create's seed.
abbrev pub active_row : ℕ → Act → ActiveRow
active_row place act =
    record { created_at = place; known = record { id = id_of act.action; salt = act.seed; instance = instance_of act.action } }

-- the authentic actions that complete envelopes opened to the participant, of the requests below place n that these items approve, in order
abbrev pub authentic_below : Reading → List Item → ℕ → List Act
authentic_below reading items n =
    gather (λ m. is_approved_in m (moments items)) (λ m. filter reading.is_authentic (acts (opened_at items m))) n

-- participant p confirms a signatory of the contract that the action is on
abbrev pub confirms_signatory : Reading → ParticipantId → Act → Bool
confirms_signatory reading p act = list_any (reading.confirms p) ((reading.language).signatories (instance_of act.action))

-- participant p hosts a signatory or an observer of the contract with this instance
abbrev pub is_stakeholder_hosted : Reading → ParticipantId → Instance → Bool
is_stakeholder_hosted reading p instance = list_any (reading.hosts p) ((reading.language).signatories instance ++ (reading.language).observers instance)

-- participant p hosts a signatory or an observer of the contract that the action is on
abbrev pub has_hosted_stakeholder : Reading → ParticipantId → Act → Bool
has_hosted_stakeholder reading p act = is_stakeholder_hosted reading p (instance_of act.action)

-- the rows of the contracts that these actions create, in order, where the actions are those of the request at this place
abbrev pub created_at_place : (place : ℕ) → List Act → List ActiveRow
created_at_place place actions = map (active_row place) (filter (λ (act : Act). is_create act.action) actions)

-- the rows of all contracts that the approved requests below a place create, by authentic actions opened to the participant, in order
abbrev pub created_below : Reading → List Item → ℕ → List ActiveRow
created_below reading items zero = []
created_below reading items (suc k) =
    created_below reading items k
    ++ created_at_place k (if is_approved_in k (moments items) then filter reading.is_authentic (acts (opened_at items k)) else [])

-- the first row of each contract, in order, where several rows have one id
abbrev pub first_of_each : List ActiveRow → List ActiveRow
first_of_each [] = []
first_of_each (row ∷ rows) = row ∷ filter (λ (later : ActiveRow). not (bytes_eq later.known.id row.known.id)) (first_of_each rows)

-- Whether the row's contract has a stakeholder that participant p hosts, and none of the actions `all` consumes it.
abbrev pub is_active_row : Reading → ParticipantId → (all : List Act) → ActiveRow → Bool
is_active_row reading p all row = is_stakeholder_hosted reading p row.known.instance && not (list_any (consumes row.known.id) all)

-- A participant's active contracts at place n: those with a stakeholder that participant p hosts that approved requests below n create and none
-- consumes, in order of creation, each with the row of its first Create.
abbrev pub node_active : Reading → ParticipantId → List Item → ℕ → List ActiveRow
node_active reading p items n =
    filter (is_active_row reading p (authentic_below reading items n)) (first_of_each (created_below reading items n))

-- the rows of all Creates of these commits, in order, authentic or not; a contract that is created twice has two rows
abbrev pub created_by : List Commit → List ActiveRow
created_by commits = flat_map (λ (commit : Commit). created_at_place commit.place (acts commit.roots)) commits

-- The contracts with a stakeholder that participant p hosts that these commits, whole and not projected, create and don't consume, in order of
-- creation. The law `active_sets_are_exact` compares `node_active` with it.
abbrev pub active_of : Reading → ParticipantId → List Commit → List ActiveRow
active_of reading p commits = filter (is_active_row reading p (ledger_acts commits)) (first_of_each (created_by commits))

-- participant p hosts an informee of the action
abbrev pub is_informed : Reading → ParticipantId → Act → Bool
is_informed reading p act = list_any (reading.hosts p) (informees_of reading.language act.action)

-- The projection of a request's transaction to what participant p is informed of; the empty forest where there is no transaction. Proofs compare with
-- it what a complete envelope opens.
abbrev pub project_whole : Reading → ParticipantId → Option Transaction → Forest Act
project_whole reading p None = NoRoots
project_whole reading p (Some transaction) = project (is_informed reading p) transaction.roots

-- The commits of a ledger, each projected to the actions that the test `keeps` and all below them, without those of which nothing is left.
abbrev pub project_ledger : (Act → Bool) → List Commit → List CommitRoots
project_ledger keeps [] = []
project_ledger keeps (commit ∷ rest) = part_if true commit.place (project keeps commit.roots) ++ project_ledger keeps rest

-- the commits of a ledger without those at the places that the test `is_withheld` names
abbrev pub without_places : (ℕ → Bool) → List Commit → List Commit
without_places is_withheld commits = filter (λ (commit : Commit). not (is_withheld commit.place)) commits
