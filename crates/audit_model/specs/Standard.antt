-- What a log is judged by.
use Rattle.std.specs.Prelude.{Bool, List}
use Rattle.ledger_model.specs.Terms.{Name, ParticipantId}
use Rattle.canton_model.specs.Log.{Params}
use Rattle.canton_model.specs.Reading.{Reading}

-- a rule by which a participant submits for a party, as far as a judgement needs it
pub record Rule : Type 0 where
  pub participant : ParticipantId
  pub party : Name
  -- whether the command is one of those that are kept for the rule
  pub has_command : Name → Bool

-- what a log is judged by: how requests are read, the times, and the rules of the participants
pub record Standard : Type 0 where
  pub reading : Reading
  pub params : Params
  pub rules : List Rule
