-- Where the verdicts of a job are those that a participant owes to a request.
use Rattle.std.specs.Prelude.{◌≡◌, Bool, false, None, Contains}
use Rattle.ledger_terms.specs.Forest.{NoRoots}
use Rattle.ledger_model.specs.Terms.{Hash, Path}
use Rattle.ledger_model.specs.declared.status.Status.{Status}
use Rattle.canton_model.specs.Inbox.{Notice}
use Rattle.canton_model.specs.Reading.{Reading, Missing}
use Rattle.confirm_reply.specs.Verdict.{IsGivenKnown, reading_of}
use Rattle.confirm_reply.specs.declared.check_input.CheckInput.{CheckInput}

-- A reading without what requests show: nothing is told, offered or framed. On what is left, whom participants host and what packages say, verdicts
-- on opened views hang.
abbrev pub without_requests : Reading → Reading
without_requests reading =
    record {
      outline = λ request. NoRoots;
      offered = λ p request. Missing;
      whole = λ request. None;
      is_framed = λ request. false;
      is_authentic = reading.is_authentic;
      language = reading.language;
      conforms = reading.conforms;
      is_named = reading.is_named;
      hosts = reading.hosts;
      confirms = reading.confirms;
      has_vetted = reading.has_vetted;
    }

-- The check input is that of a request of which the participant has this notice: topology and packages say what the reading says, the sender is the
-- notice's, and for each view that the participant confirms the input has what the envelope gives and, as facts, the statuses `known` and the locks
-- `held`.
pub record IsInputOf (reading : Reading) (known : Hash → Status) (held : Hash → Bool) (notice : Notice) (input : CheckInput) : Type 0 where
  pub rules : without_requests reading ≡ reading_of input
  pub sender : input.sender ≡ notice.sender
  pub places : (path : Path) → Contains notice.confirmed path → IsGivenKnown input known held path notice.offer
