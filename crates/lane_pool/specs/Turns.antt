-- The turns of lanes, each by its lane's number and its own, from 0.
use Rattle.std.specs.Prelude.{ℕ, ◌<◌, ◌≤◌}

-- each turn with a number below `turns`, of each lane from `from` to before `end`, has the property P, of the lane's number and the turn's
abbrev pub EachTurn : (from end turns : ℕ) → ((lane turn : ℕ) → Type 0) → Type 0
EachTurn from end turns P = (lane turn : ℕ) → from ≤ lane → lane < end → turn < turns → P lane turn

-- there is a turn with a number below `turns`, of a lane from `from` to before `end`, that has the property P, of the lane's number and the turn's
abbrev pub SomeTurn : (from end turns : ℕ) → ((lane turn : ℕ) → Type 0) → Type 0
SomeTurn from end turns P = (lane : ℕ) × (turn : ℕ) × (from ≤ lane) × (lane < end) × (turn < turns) × P lane turn

-- what contracts see of a turn: the number of its lane, and its own number among the turns of that lane, both from 0
pub record OneTurn : Type 0 where
  pub lane : ℕ
  pub number : ℕ

-- what contracts see of turns that are left: of each of the lanes from `from` to before `end` the turns from `next` to before `turns`
pub record TurnsLeft : Type 0 where
  pub from : ℕ
  pub end : ℕ
  pub next : ℕ
  pub turns : ℕ
