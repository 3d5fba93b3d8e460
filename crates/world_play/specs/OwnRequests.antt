-- The requests that participants of the synchroniser prepared.
use Rattle.std.specs.Prelude.{◌≡◌, ℕ, ◌≤◌, List, Some, Contains}
use Rattle.ledger_terms.specs.declared.submission.Submission.{Submission}
use Rattle.ledger_terms.specs.declared.topology.Topology.{Topology}
use Rattle.lang_eval.specs.Found.{Packages}
use Rattle.framed_form.specs.FramedReading.{framed_reading}
pub use Rattle.prepare_request.specs.Opens.{OpensByRules}
use Rattle.prepare_request.specs.Prepared.{tx_for, whole_for}
use Rattle.world_model.specs.Messages.{Entry, Request}
use Rattle.world_model.specs.World as w
use Rattle.world_play.specs.ActiveAt.{Wants}

-- The request is of the transaction that the submission `what` wants at the time `now`, whose participant had read `read_to` entries of the log. Its
-- whole is that transaction, and its envelopes open to each participant what it sees of it, and nothing else.
pub record IsOwnRequest (topology : Topology) (packages : Packages) (now : ℕ) (log : List Entry) (what : Submission) (read_to : ℕ) (request : Request)
    : Type 0 where
  pub wanted : Wants topology packages now log what read_to request
  pub whole : (framed_reading topology packages).whole request
      ≡ Some (whole_for topology what.participant (tx_for topology what.participant what now wanted.roots)).transaction
  pub opens : OpensByRules topology packages request

-- The request at place k is of a submission among the events, over what the submission's participant had read by then.
pub record IsSubmitted (topology : Topology) (packages : Packages) (events : List w.Event) (log : List Entry) (k : ℕ) (request : Request) : Type 0 where
  pub what : Submission
  pub among : Contains events (w.Submit what)
  pub read_to : ℕ
  pub read_before : read_to ≤ k
  pub now : ℕ
  pub own : IsOwnRequest topology packages now log what read_to request
