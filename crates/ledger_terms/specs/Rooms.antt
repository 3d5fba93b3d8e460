-- Lists with room that was made ahead.
use Rattle.std.specs.Prelude.{ℕ, List}

-- A list that has made room ahead (`RoomyList`): its items, and how many more can be put behind them without asking for memory.
pub record Room (A : Type 0) : Type 0 where
  pub items : List A
  pub spare : ℕ
