-- What a job was given, and how far it is.
use Rattle.std.specs.Prelude.{ℕ, List}
use Rattle.ledger_model.specs.Terms.{Path}
use Rattle.confirm_reply.specs.declared.check_input.CheckInput.{CheckInput}

-- what a job is given: what the participant checks the request by, the request's place, and the paths of the views that are to be checked
pub record Assignment : Type 0 where
  pub input : CheckInput
  pub place : ℕ
  pub views : List Path

-- what contracts see of a job: what it was given, and how many of its views are left to check
pub record Job : Type 0 where
  pub given : Assignment
  pub left : ℕ
