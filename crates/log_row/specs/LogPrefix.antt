-- What contracts see of a pen and a slip.
use Rattle.std.specs.Prelude.{◌≡◌, ℕ, ◌+◌, ◌⊎◌, List, [], ◌∷◌, ◌++◌, length, Some, slice_get}
use mathlib.Core.List.{IsPrefix}
use Rattle.atomic_table.specs.Seated.{TableId}
use Rattle.canton_model.specs.declared.entry.Entry.{Entry}

-- the name of one history, by which values behind different locks are known to be of the same log; nothing of it is there when the program runs
abbrev pub RowName : Type 0
RowName = TableId

-- A name that no history has: a history's table has one word, and this none. `Brand` has it as its `history`; a call that is generic in the name puts
-- the name of its own log in its place.
abbrev pub no_row : RowName
no_row = record { words = 0; slots = 0; views_name = 0; atom = 0; block = 0; offset = 0; slot_names = [] }

-- what contracts see of a pen or a slip: which history it is of, and the entries of that as far as it knows them
pub record LogPrefix : Type 0 where
  pub row : RowName
  pub list : List Entry

-- a history with one more entry at its end
abbrev pub extended : LogPrefix → Entry → LogPrefix
extended t entry = record { row = t.row; list = t.list ++ entry ∷ [] }

-- one of the two lists begins the other, as the lists of two slips of one history do
abbrev pub Agree : List Entry → List Entry → Type 0
Agree xs ys = IsPrefix xs ys ⊎ IsPrefix ys xs

-- the entry is the last of the list, and stands there at this place, counted from 0
abbrev pub EndsAt : List Entry → ℕ → Entry → Type 0
EndsAt list place entry = (length list ≡ place + 1) × (slice_get list place ≡ Some entry)
