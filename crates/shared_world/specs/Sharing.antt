-- What contracts see of a shared synchroniser.
use Rattle.std.specs.Prelude.{ℕ, List}
use Rattle.world_model.specs.Messages.{Entry}
use Rattle.sync_shared.specs.declared.round_rules.RoundRules.{RoundRules}

-- What contracts see of a `Synchroniser`: how many clients aren't retired (`out`); how many entries came from outside, as requests of retired clients
-- and as Ticks of rounds (`counted`); time, pauses and held verdicts of the round (`round`); and the log up to the last Tick of a round, or up to where
-- the sharing began (`known`).
pub record Sharing : Type 0 where
  pub out : ℕ
  pub counted : ℕ
  pub round : RoundRules
  pub known : List Entry
