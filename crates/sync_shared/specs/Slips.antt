-- The last slip that somebody has read.
use Rattle.std.specs.Prelude.{◌≡◌, ℕ, ◌+◌, ◌<◌, ◌^◌, List, [], ◌∷◌, ◌++◌, Option, Some, None, IfSome, length}
use Rattle.world_model.specs.Messages.{Entry, Tick}
use Rattle.world_model.specs.Machine.{Machine, GenuineLog}
use Rattle.world_model.specs.Sequencing.{entry_after}
use Rattle.log_row.specs.LogPrefix.{LogPrefix, RowName}

-- the entries that somebody's last slip ties, its own and all before it: those that were read; none where there is no slip
abbrev pub read_to : Option LogPrefix → List Entry
read_to None = []
read_to (Some slip) = slip.list

-- the slip is of this history, or there is none
abbrev pub InRow : RowName → Option LogPrefix → Type 0
InRow row last = IfSome last (λ slip. slip.row ≡ row)

-- The slip is that of the next entry for somebody who has read `list` of this history: it is of the same history, ties one entry more than `list` has,
-- and what it ties is a genuine log. That `list` begins this isn't asked, since of two slips of one history one always begins the other. The length of
-- `list` has room in 64 bits.
pub record IsNextIn (row : RowName) (m : Machine) (list : List Entry) (slip : LogPrefix) : Type 0 where
  pub in_row : slip.row ≡ row
  pub next : length slip.list ≡ length list + 1
  pub counted : length list < 2 ^ 64
  pub genuine : GenuineLog m slip.list

-- The log `after` is what was `known` of it, then maybe more, and as its last entry a Tick, of the time `now` or of the microsecond after the entry
-- before it where that is later. So this Tick wasn't known before.
pub record IsTicked (now : ℕ) (known after : List Entry) : Type 0 where
  pub more : List Entry
  pub is : after ≡ (known ++ more) ++ entry_after now (known ++ more) Tick ∷ []
