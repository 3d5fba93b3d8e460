-- What an auditor knows of a log.
use Rattle.std.specs.Prelude.{◌≡◌, List, None}
use Rattle.ledger_terms.specs.declared.params.Params.{Params}
use Rattle.canton_model.specs.Reading.{Reading}
use Rattle.world_model.specs.Messages.{Entry}
use Rattle.world_model.specs.Machine.{Machine}
use Rattle.mediator.specs.KeptCases.{Knows}
use Rattle.audit_model.specs.Standard.{Rule, Standard}
use Rattle.log_judge.specs.RuleUses.{AreUsed, rules_of}
use Rattle.log_judge.specs.declared.auditor.Auditor.{Auditor}

-- A machine with this reading and these times. The mediator's laws ask for one, and look at these two alone, so that all else is left empty.
abbrev pub machine_for : Reading → Params → Machine
machine_for reading params = record { reading = reading; params = params; capacity = 0; hosts = 0; prepare = λ what items now. None }

-- What a log is judged by: how requests are read, the times, and the rules of participants.
abbrev pub standard_for : Reading → Params → List Rule → Standard
standard_for reading params rules = record { reading = reading; params = params; rules = rules }

-- What an auditor judges by: this reading and these times, which are its participants', and the rules that it keeps.
abbrev pub standard_of : {P : Type 0} → Reading → Params → Auditor P → Standard
standard_of reading params auditor = standard_for reading params (rules_of auditor.rules)

-- The auditor has these times and knows this log: its entries are the log's, its participants (by `have_read`) and its mediator have read it, and it
-- has noted what rules' requests in it exercise.
pub record KnowsLog {P : Type 0} (reading : Reading) (params : Params) (have_read : List Entry → Type 0) (auditor : Auditor P)
    (log : List Entry) : Type 0 where
  pub same : auditor.params ≡ params
  pub list : auditor.log.list ≡ log
  pub participants : have_read log
  pub knows : Knows (machine_for reading params) log auditor.mediator
  pub used : AreUsed reading log auditor.rules
