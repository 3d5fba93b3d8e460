-- The rounds of a script with the results of their submissions, in the words of the world model.
use Rattle.std.specs.Prelude.{ℕ, List, [], ◌∷◌, drop, length, map, take}
use Rattle.ledger_terms.specs.declared.raw_envelope.RawEnvelope.{RawEnvelope}
use Rattle.ledger_terms.specs.declared.raw_request.RawRequest.{RawRequest}
use Rattle.canton_model.specs.declared.envelope.Envelope.{Envelope}
use Rattle.canton_model.specs.declared.request.Request.{Request}
use Rattle.node_core.specs.declared.submit_result.SubmitResult.{SubmitResult}
use Rattle.prepare_request.specs.declared.submit_fault.SubmitFault.{SubmitFault}
use Rattle.script_read.specs.declared.round.Round.{Round}
use Rattle.world_model.specs.Rounds as w
use Rattle.world_play.specs.Results.{results_of}

-- an envelope of a raw request, as the sequencer takes it
abbrev pub envelope_of : RawEnvelope → Envelope
envelope_of raw = record { to = raw.to; bytes = raw.bytes }

-- a raw request as the sequencer takes it
abbrev pub request_of : RawRequest → Request
request_of raw =
    record {
      sender = raw.participant;
      command = raw.command;
      confirming = raw.confirming;
      mediator = raw.mediator;
      envelopes = map envelope_of raw.envelopes;
    }

-- raw requests as the sequencer takes them, in their order
abbrev pub requests_of : List RawRequest → List Request
requests_of raws = map request_of raws

-- a script's round in the words of the world model, which don't say who restarts
abbrev pub round_of : Round → w.Round
round_of round =
    record {
      advance = round.advance;
      paused = round.paused;
      holds_verdicts = round.hold_verdicts;
      raws = requests_of round.raws;
      submits = round.submits;
    }

-- a script's round with the results of its submissions and the length of the log at its end, in the words of the world model
abbrev pub answered_round : Round → List SubmitResult → (end : ℕ) → w.RoundAnswers SubmitFault
answered_round round results end = record { round = round_of round; results = results_of round.submits results; end = end }

-- Each round with its own results and the length of the log at its end, in the words of the world model. `results` are those of all rounds, in script
-- order, and rounds for which `ends` has no end are left out.
abbrev pub answered : List Round → List SubmitResult → (ends : List ℕ) → List (w.RoundAnswers SubmitFault)
answered [] results ends = []
answered (round ∷ rounds) results [] = []
answered (round ∷ rounds) results (end ∷ ends) =
    answered_round round (take (length round.submits) results) end ∷ answered rounds (drop (length round.submits) results) ends
