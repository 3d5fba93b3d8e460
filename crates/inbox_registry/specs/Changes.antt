-- What an inbox's requests do to contracts: the changes of those that are approved, and of those that aren't decided.
use Rattle.std.specs.Prelude.{◌≡◌, ℕ, zero, suc, ◌<◌, Bool, true, false, All, List, [], ◌∷◌, ◌++◌, Option, Some, None, if◌then◌else◌, ◌&&◌, not}
use Rattle.std.specs.Prelude.{is_some, map, filter, length}
use Rattle.std.specs.List.{list_any}
use Rattle.ledger_terms.specs.declared.act.Act.{Act}
use Rattle.ledger_terms.specs.declared.action.Action.TheVariants.{Create}
use Rattle.ledger_terms.specs.declared.active_row.ActiveRow.{ActiveRow}
use Rattle.ledger_model.specs.Terms.{Hash, creates}
use Rattle.ledger_model.specs.Forest.{acts}
use Rattle.canton_model.specs.Log.{Params}
use Rattle.canton_model.specs.declared.verdict.Verdict.{Verdict}
use Rattle.canton_model.specs.Reading.{Reading}
use Rattle.canton_model.specs.Timeline.{is_approval, verdict_on}
use Rattle.canton_model.specs.Inbox.{Item, moments, opened_at, verdict_in, is_decided_in}
use Rattle.contract_store.specs.Below.{at_place}
use Rattle.contract_store.specs.ActiveLaw.{InOrder}
use Rattle.contract_store.specs.Written.{Placed, acts_of}
use Rattle.pruned_inbox.specs.Received.{is_received_at}
use Rattle.pruned_inbox.specs.Start.{Start, is_gone}

-- the authentic actions that the envelope of the request at place m of the inbox opened; none where no request stands there
abbrev pub authentic_at : Reading → List Item → ℕ → List Act
authentic_at reading items m = filter reading.is_authentic (acts (opened_at items m))

-- whether a verdict approves its request and is the first on it: no verdict on that request stands among the items before it
abbrev pub approves_first : List Item → Verdict → Bool
approves_first before verdict = not (is_some (verdict_on verdict.request (moments before))) && is_approval (Some verdict.decision)

-- The actions that count because this verdict is read after these items, each with its request's place: the authentic opened ones of its request, if it
-- is the first verdict on that and approves; else, and where there is no verdict, none.
abbrev pub changes_of_verdict : Reading → List Item → Option Verdict → List Placed
changes_of_verdict reading before None = []
changes_of_verdict reading before (Some verdict) =
    if approves_first before verdict then map (at_place verdict.request) (authentic_at reading before verdict.request) else []

-- the authentic actions of the request that this verdict is on, where it is read after these items, is the first on it and approves; else none
abbrev pub acts_of_verdict : Reading → List Item → Verdict → List Act
acts_of_verdict reading items verdict = if approves_first items verdict then authentic_at reading items verdict.request else []

-- the authentic opened actions of the requests that are approved by verdicts in these items (third argument), which are read after those before them,
-- in the order of the verdicts
abbrev pub changes_after : Reading → (before : List Item) → List Item → List Placed
changes_after reading before [] = []
changes_after reading before (item ∷ rest) =
    changes_of_verdict reading before (verdict_in item.content) ++ changes_after reading (before ++ item ∷ []) rest

-- the authentic opened actions of the approved requests of an inbox, in the order in which their verdicts were read
abbrev pub changes_in : Reading → List Item → List Placed
changes_in reading items = changes_after reading [] items

-- the Create that made the contract of a row, with the place of its request
abbrev pub creation_of : ActiveRow → Placed
creation_of row = record { place = row.created_at; act = record { seed = row.known.salt; action = Create row.known.id row.known.instance } }

-- the Creates of the contracts that a start left active, and behind them the authentic opened actions of the requests that these items of the inbox
-- approve; a store that follows the inbox was written with them, in this order
abbrev pub changes_since : Reading → Start → List Item → List Placed
changes_since reading start items = map creation_of start.active ++ changes_in reading items

-- The contracts of a start are listed by rising places of creation, which may repeat, these places are below the base b, and the inbox has no request
-- below b.
pub record StandsBelow (b : ℕ) (start : Start) (items : List Item) : Type 0 where
  pub order : InOrder (map creation_of start.active)
  pub below : All (λ (row : ActiveRow). row.created_at < b) start.active
  pub silent : (m : ℕ) → m < b → is_received_at items m ≡ false

-- none of these actions creates a contract that is gone by the start
abbrev pub NoneGone : Start → List Placed → Type 0
NoneGone start ps = (c : Hash) → is_gone start c ≡ true → list_any (creates c) (acts_of ps) ≡ false

-- the actions `f k` of the requests at those places k below a place (third argument) that the test keeps, in order, each with its request's place
abbrev pub placed_below : (ℕ → Bool) → (ℕ → List Act) → ℕ → List Placed
placed_below keeps f zero = []
placed_below keeps f (suc k) = placed_below keeps f k ++ (if keeps k then map (at_place k) (f k) else [])

-- The authentic opened actions of the requests that aren't decided over the whole inbox, in order of place. The holds of a store that follows the inbox
-- are those of the Creates and consuming Exercises among them.
abbrev pub pending_changes : Reading → Params → List Item → List Placed
pending_changes reading params items =
    placed_below (λ m. not (is_decided_in params items m (length items))) (authentic_at reading items) (length items)
