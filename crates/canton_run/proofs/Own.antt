-- The requests of a run's Sent results are of what their submissions want.
use Rattle.std.proofs.Common.{◌≡◌, ℕ, List, length, Some, Contains}
use Rattle.ledger_terms.specs.declared.submission.Submission.{Submission}
use Rattle.ledger_terms.specs.declared.topology.Topology.{Topology}
use Rattle.ledger_model.proofs.Lists.{in_from_Contains}
use Rattle.canton_model.specs.Log.{request_at}
use Rattle.canton_model.specs.declared.entry.Entry.{Entry}
use Rattle.canton_model.specs.declared.request.Request.{Request}
use Rattle.lang_eval.specs.Found.{Packages}
use Rattle.node_core.specs.Machines.{machine_of}
use Rattle.prepare_request.specs.declared.submit_fault.SubmitFault.{SubmitFault}
use Rattle.run_model.proofs.Sent.{was_wanted}
use Rattle.script_read.specs.declared.script.Script.{Script}
use Rattle.world_model.specs.Rounds.{RoundAnswers, RunHolds, Sent, SentHolds}
use Rattle.world_model.proofs.Grown.{request_within}
use Rattle.world_play.specs.OwnRequests.{IsOwnRequest}
use Rattle.canton_run.specs.Run.{machine_for, why_for}

-- what the law of Sent results says
abbrev pub SentLaw : Type 0
SentLaw =
    (topology : Topology) (packages : Packages) (capacity now : ℕ) (log : List Entry) (end : ℕ) (what : Submission) (place read_to : ℕ)
    → SentHolds (machine_of topology packages capacity) now log end what place read_to
    → (request : Request) × (request_at log place ≡ Some request) × IsOwnRequest topology packages now log what read_to request

pub sent_is_own : SentLaw → (script : Script) (capacity : ℕ) (log : List Entry) (rounds : List (RoundAnswers SubmitFault))
    → RunHolds (machine_for script capacity) (why_for script) log rounds
    → (round : RoundAnswers SubmitFault) (what : Submission) (place read_to : ℕ) → Contains rounds round → Contains round.results (what, Sent place read_to)
    → (now : ℕ) × (request : Request) × (request_at log place ≡ Some request)
    × IsOwnRequest script.topology script.checked now log what read_to request
sent_is_own law script capacity log rounds cut round what place read_to among sent =
    let s =
    was_wanted (machine_for script capacity) (why_for script) log rounds cut round (in_from_Contains rounds round among) what place read_to
    (in_from_Contains round.results (what, Sent place read_to) sent) in
    let own =
    law script.topology script.checked capacity s.now log (length log) what place read_to
    (record {
      request = s.request;
      there = s.there;
      wanted = s.wanted;
      read_before = s.read_before;
      in_part = request_within log place s.request s.there;
    }) in
    (s.now, own.0, own.1, own.2)
