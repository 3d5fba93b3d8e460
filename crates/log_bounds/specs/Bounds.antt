-- Bounds by bytes, and contracts that were ever active at a participant.
use Rattle.std.specs.Prelude.{◌≡◌, ℕ, List, Contains, take}
use Rattle.ledger_terms.specs.declared.active_row.ActiveRow.{ActiveRow}
use Rattle.ledger_model.specs.Terms.{Hash, ParticipantId}
use Rattle.canton_model.specs.Inbox.{inbox, node_active}
use Rattle.canton_model.specs.Reading.{Reading}
use Rattle.canton_model.specs.declared.entry.Entry.{Entry}

-- how many bytes an action at least takes in an envelope: those of its seed
abbrev pub LEAST_ACTION_BYTES : ℕ
LEAST_ACTION_BYTES = 32

-- How many bytes a view at least takes in what the mediator is told: its tag, a hash with its tag for each of two leaves, and a count. So bytes of a
-- bounded length tell of few views.
abbrev pub LEAST_VIEW_BYTES : ℕ
LEAST_VIEW_BYTES = 69

-- how many actions an envelope opens at most: its most bytes, 4,194,304, in parts of 32
abbrev pub MOST_OPENED_ACTIONS : ℕ
MOST_OPENED_ACTIONS = 131072

-- The contract with this id was active at participant p at some time: below some place, by the inbox of some first entries of the log.
pub record WasActive (reading : Reading) (p : ParticipantId) (log : List Entry) (id : Hash) : Type 0 where
  -- how many entries had been read
  pub read : ℕ
  -- the place at which the contract is active
  pub below : ℕ
  pub row : ActiveRow
  pub active : Contains (node_active reading p (inbox reading p (take read log)) below) row
  pub is : row.known.id ≡ id
