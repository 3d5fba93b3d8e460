-- What a participant keeps of the requests below its base, and what it concludes from that and the items after.
use Rattle.std.specs.Prelude.{◌≡◌, ℕ, Bool, List, [], ◌++◌, Option, Some, None, filter, map, slice_get, not, ◌&&◌, ◌||◌, if◌then◌else◌}
use Rattle.std.specs.List.{list_any}
use Rattle.std.specs.Str.{bytes_eq}
use Rattle.ledger_terms.specs.Parties.{IsRising}
use Rattle.ledger_terms.specs.declared.active_row.ActiveRow.{ActiveRow}
use Rattle.ledger_terms.specs.declared.params.Params.{Params}
use Rattle.ledger_model.specs.Opening.{Shown, OpenedView}
use Rattle.ledger_model.specs.Terms.{Hash, ParticipantId, Path, creates, consumes}
use Rattle.ledger_terms.specs.declared.act.Act.{Act}
use Rattle.ledger_model.specs.declared.status.Status.{Status}
use Rattle.ledger_model.specs.declared.status.Status.TheVariants.{Unknown, Active, Consumed}
use Rattle.canton_model.specs.declared.local_verdict.LocalVerdict.{LocalVerdict}
use Rattle.canton_model.specs.declared.local_verdict.LocalVerdict.TheVariants.{Reject}
use Rattle.canton_model.specs.declared.reason.Reason.TheVariants.{RootMismatch, ViewMissing}
use Rattle.canton_model.specs.declared.view_verdict.ViewVerdict.{ViewVerdict}
use Rattle.canton_model.specs.Reading.{Reading, Offer, Mismatch, Missing, Open}
use Rattle.canton_model.specs.Inbox.{Item, Notice, item_time, notice_at, past_in, is_locked_in_inbox, authentic_below, created_below}
use Rattle.canton_model.specs.Inbox.{first_of_each, is_active_row}
use Rattle.canton_model.specs.Checks.{verdict_by, view_at}

-- What an inbox leaves at its base: the contracts that requests below it left active, in order of creation, and the ids of the others that they
-- create or consume, in ascending order.
pub record Start : Type 0 where
  -- with a hosted stakeholder or without one
  pub active : List ActiveRow
  pub gone : List Hash

-- the start of a participant that has forgotten nothing: no contracts and no ids
abbrev pub no_start : Start
no_start = record { active = []; gone = [] }

-- whether the row is of the contract with the id c
abbrev pub is_row_of : Hash → ActiveRow → Bool
is_row_of c row = bytes_eq row.known.id c

-- whether these rows have one of the contract with the id c
abbrev pub has_row : List ActiveRow → Hash → Bool
has_row rows c = list_any (is_row_of c) rows

-- whether the contract with the id c is among those that are gone: requests below the base were on it, and left it not active
abbrev pub is_gone : Start → Hash → Bool
is_gone start c = list_any (λ (id : Hash). bytes_eq id c) start.gone

-- whether none of these actions consumes the row's contract
abbrev pub is_left_by : List Act → ActiveRow → Bool
is_left_by all row = not (list_any (consumes row.known.id) all)

-- the action creates or consumes the contract with the id c
abbrev pub touches : Hash → Act → Bool
touches c a = creates c a || consumes c a

-- The rows of the contracts that approved requests below a place create and none consumes, with a hosted stakeholder or without one.
abbrev pub left_below : Reading → List Item → ℕ → List ActiveRow
left_below reading items b = filter (is_left_by (authentic_below reading items b)) (first_of_each (created_below reading items b))

-- `start` is what this inbox leaves at the base b.
pub record IsStart (reading : Reading) (items : List Item) (b : ℕ) (start : Start) : Type 0 where
  pub active : start.active ≡ left_below reading items b
  pub gone : (c : Hash) → is_gone start c ≡ (list_any (touches c) (authentic_below reading items b) && not (has_row start.active c))
  pub ascend : IsRising start.gone

-- The status of the contract with the id c after these actions behind the base: consumed where it is gone or one consumes it, else active where the
-- start has it or one creates it, else unknown.
abbrev pub status_since : Start → List Act → Hash → Status
status_since start since c =
    if is_gone start c || list_any (consumes c) since then Consumed
    else if has_row start.active c || list_any (creates c) since then Active
    else Unknown

-- The status of the contract with the id c at place k, from the start and the items that are kept. From the base on it is that of the whole inbox
-- (`AnswersAlike`).
abbrev pub status_kept : Reading → Start → List Item → ℕ → Hash → Status
status_kept reading start kept k c = status_since start (past_in reading kept k) c

-- The local verdict on a view that was found by its path, ViewMissing where none was (None). The two functions give what participant p knows of a
-- contract's status and whether it is locked; `time` is that of the request's entry.
abbrev pub verdict_if_found : Reading → Params → ParticipantId → (sender : ParticipantId) → (time : ℕ) → (Hash → Status) → (Hash → Bool)
    → Shown → Option OpenedView → LocalVerdict
verdict_if_found reading params p sender time status locked shown None = Reject ViewMissing 0
verdict_if_found reading params p sender time status locked shown (Some view) = verdict_by reading params p sender time shown view status locked

-- The local verdict of participant p on the view with this path, by what the envelope gives: a Mismatch is RootMismatch, and Missing is ViewMissing.
-- The two functions give p's status of a contract and whether it is locked; `time` is that of the request's entry.
abbrev pub verdict_in_offer : Reading → Params → ParticipantId → (sender : ParticipantId) → (time : ℕ) → (Hash → Status) → (Hash → Bool)
    → Path → Offer → LocalVerdict
verdict_in_offer reading params p sender time status locked path Mismatch = Reject RootMismatch 0
verdict_in_offer reading params p sender time status locked path Missing = Reject ViewMissing 0
verdict_in_offer reading params p sender time status locked path (Open shown) =
    verdict_if_found reading params p sender time status locked shown (view_at path shown.views)

-- The verdicts on the views of a request that participant p confirms, in order of path; none where there is no notice of the request. The two functions
-- give p's status of a contract and whether it is locked; `time` is that of the request's entry.
abbrev pub verdicts_by : Reading → Params → ParticipantId → (time : ℕ) → (Hash → Status) → (Hash → Bool) → Option Notice → List ViewVerdict
verdicts_by reading params p time status locked None = []
verdicts_by reading params p time status locked (Some notice) =
    map (λ (path : Path). record { view = path; verdict = verdict_in_offer reading params p notice.sender time status locked path notice.offer })
    notice.confirmed

-- The verdicts that participant p owes at place k, from the start and the items that are kept; none where no request was received there. From the base
-- on they are those of the whole inbox (`AnswersAlike`).
abbrev pub verdicts_kept : Reading → Params → ParticipantId → Start → List Item → ℕ → List ViewVerdict
verdicts_kept reading params p start kept k =
    verdicts_by reading params p (item_time (slice_get kept k)) (status_kept reading start kept k) (is_locked_in_inbox reading params kept k)
    (notice_at kept k)

-- whether the row's contract isn't gone, and none of the actions `since` consumes it
abbrev pub is_left_since : Start → (since : List Act) → ActiveRow → Bool
is_left_since start since row = not (is_gone start row.known.id) && is_left_by since row

-- whether the row's contract has a stakeholder that participant p hosts, isn't gone, and none of the actions `since` consumes it
abbrev pub is_active_since : Reading → ParticipantId → Start → (since : List Act) → ActiveRow → Bool
is_active_since reading p start since row = not (is_gone start row.known.id) && is_active_row reading p since row

-- the rows of the contracts that were active at the start and of those that were created below place n since, the first row of each contract
abbrev pub rows_since : Reading → Start → List Item → ℕ → List ActiveRow
rows_since reading start kept n = first_of_each (start.active ++ created_below reading kept n)

-- The active contracts of participant p at place n, from the start and the items that are kept. From the base on they are those of the whole inbox
-- (`AnswersAlike`).
abbrev pub active_kept : Reading → ParticipantId → Start → List Item → ℕ → List ActiveRow
active_kept reading p start kept n =
    filter (is_active_since reading p start (authentic_below reading kept n)) (rows_since reading start kept n)

-- the rows of the contracts that aren't gone, were active at the start or were created below place n since, and that no action kept below n consumes,
-- with a hosted stakeholder or without one
abbrev pub left_kept : Reading → Start → List Item → ℕ → List ActiveRow
left_kept reading start kept n = filter (is_left_since start (authentic_below reading kept n)) (rows_since reading start kept n)

-- `next` is what a start and the items `kept` behind it leave to start with at the later base n; so an inbox that is pruned may be pruned again.
pub record GoesOn (reading : Reading) (kept : List Item) (n : ℕ) (start next : Start) : Type 0 where
  pub active : next.active ≡ left_kept reading start kept n
  pub gone : (c : Hash) → is_gone next c
      ≡ ((is_gone start c || (has_row start.active c || list_any (touches c) (authentic_below reading kept n))) && not (has_row next.active c))
  pub ascend : IsRising next.gone
