-- What the seats of a row know, the rule of its table, and what each kind of step tells. A row's pen has a seat, and each slip.
use Rattle.std.specs.Prelude.{◌≡◌, ℕ, List, [], ◌∷◌, ◌++◌, length, true, false, if◌then◌else◌}
use mathlib.Core.Option.{some}
use mathlib.Core.List.{IsPrefix}
use lib.ListN.{get_elem?}
use Rattle.atomic_table.specs.Table.{State, Step, Me}
use Rattle.canton_model.specs.declared.entry.Entry.{Entry}
use Rattle.log_row.specs.declared.seat.View.{View}
use Rattle.log_row.specs.Lists.{AllBegin, longer}

-- what the writer's seat knows, where these are all entries of the log
abbrev pub writer : List Entry → View
writer list = record { writes = true; list = list; joined = [] }

-- what another seat knows, where these are the entries that it knows of, from the first on
abbrev pub reader : List Entry → View
reader list = record { writes = false; list = list; joined = [] }

-- What the rule says of what seat number `by` knows (last argument), where seat number `seat` is the writer's and `log` all entries: if it says that
-- it is the writer's it is, and knows them all; and its list, and each list joined into it, begins `log`.
abbrev pub Fits : ℕ → List Entry → ℕ → View → Type 0
Fits seat log by v = (v.writes ≡ true → (by ≡ seat) × (v.list ≡ log)) × IsPrefix v.list log × AllBegin v.joined log

-- The rule of a row's table, which every step keeps: the table's word is the length of the writer's list, and what each seat knows fits that list.
abbrev pub Kept : State (Unit {0}) View → Type 0
Kept s =
    (seat : ℕ) × (log : List Entry) × (s.words ≡ length log ∷ [])
    × ((by : ℕ) (v : View) → get_elem? s.views by ≡ some v → Fits seat log by v)

-- what a new seat knows that is split off another: the same list, and that it isn't the writer
abbrev pub copied : View → View
copied v = reader v.list

-- What a seat knows into which another (second argument) was joined: the writer keeps its list, and any other seat has the longer of the two. Both
-- lists are noted.
abbrev pub joined : View → View → View
joined v w = record { writes = v.writes; list = if v.writes then v.list else longer v.list w.list; joined = v.list ∷ w.list ∷ v.joined }

-- The writer's list grows by these entries, and no joined lists are left. The arguments behind the entries are the step, what the seat has before it
-- (what it knows, and the slots that it has taken, which stay), the word that was found, and what it has after it. Step and word don't matter.
abbrev pub Appends : List Entry → Step (Unit {0}) → Me (Unit {0}) View → ℕ → Me (Unit {0}) View → Type 0
Appends entries s v found w = w ≡ (writer (v.0.list ++ entries), v.1)

-- A seat learns that each list joined into it begins its own list, which stays; the joined lists are then forgotten. The arguments are the step, what
-- the seat has before it (what it knows, and the slots that it has taken, which stay), the word found, and what it has after it. Step and word don't
-- matter.
abbrev pub Learns : Step (Unit {0}) → Me (Unit {0}) View → ℕ → Me (Unit {0}) View → Type 0
Learns s v found w = (w ≡ (record { writes = v.0.writes; list = v.0.list; joined = [] }, v.1)) × AllBegin v.0.joined v.0.list
