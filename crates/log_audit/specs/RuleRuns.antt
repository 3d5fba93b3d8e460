-- Runs with rules, as an audit of their logs sees them.
use Rattle.std.specs.Prelude.{◌≡◌, ℕ, false, List, Some, Contains, slice_get, take}
use Rattle.ledger_terms.specs.declared.known.Known.{Known}
use Rattle.ledger_terms.specs.declared.submission.Submission.{Submission}
use Rattle.canton_model.specs.Log.{request_at}
use Rattle.framed_form.specs.FramedReading.{framed_reading}
use Rattle.world_model.specs.Messages.{Entry, Request}
use Rattle.world_model.specs.Rounds.{Sent}
use Rattle.audit_model.specs.Rules.{is_wrong_trigger}
use Rattle.prepare_request.specs.Causes.{IsRequestOf}
use Rattle.prepare_request.specs.Prepared.{tx_for, whole_for}
use Rattle.script_read.specs.declared.script.Script.{Script}
use Rattle.trigger_model.specs.TwoParts.{RoundParts}
use Rattle.log_audit.specs.Scripts.{standard_of}

-- Each request of the log with a command of a rule of its sender is what that rule may cause after the log before it.
abbrev pub UsesRulesRightly : Script → List Entry → Type 0
UsesRulesRightly script log =
    (k : ℕ) (entry : Entry) → slice_get log k ≡ Some entry → is_wrong_trigger (standard_of script) (take k log) entry.message ≡ false

-- The request is of the transaction that the submission wants at the time `now`, in microseconds, over some contracts, and is read back as that transaction.
pub record IsPreparedFor (script : Script) (now : ℕ) (what : Submission) (request : Request) : Type 0 where
  -- the contracts that its participant offered to it
  pub known : List Known
  pub wanted : IsRequestOf script.topology script.checked what.participant known what now request
  pub whole : (framed_reading script.topology script.checked).whole request
      ≡ Some (whole_for script.topology what.participant (tx_for script.topology what.participant what now wanted.roots)).transaction

-- Each request that was sent of a submission that a rule caused in these rounds was prepared for that submission, and so is read back as
-- what the rule caused.
abbrev pub AreOpened : {F : Type 0} → Script → List Entry → List (RoundParts F) → Type 0
AreOpened {F} script log rounds =
    (x : RoundParts F) (what : Submission) (place read_to : ℕ) → Contains rounds x → Contains x.caused_results (what, Sent place read_to)
    → (now : ℕ) × (request : Request) × (request_at log place ≡ Some request) × IsPreparedFor script now what request
