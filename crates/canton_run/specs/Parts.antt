-- The two parts of each round of a script: its own submissions, and what rules caused in it.
use Rattle.std.specs.Prelude.{ℕ, ◌+◌, List, [], ◌∷◌, drop, length, map, take}
use Rattle.ledger_terms.specs.declared.submission.Submission.{Submission}
use Rattle.node_core.specs.declared.submit_result.SubmitResult.{SubmitResult}
use Rattle.prepare_request.specs.declared.submit_fault.SubmitFault.{SubmitFault}
use Rattle.report_text.specs.Results.{of_round}
use Rattle.script_read.specs.declared.round.Round.{Round}
use Rattle.trigger_model.specs.TwoParts.{RoundParts}
use Rattle.trigger_rules.specs.declared.caused.Caused.{Caused}
use Rattle.world_play.specs.Results.{results_of}
use Rattle.canton_run.specs.Answered.{round_of}

-- the submissions that rules caused in the round with this number, in order, among all that they caused
abbrev pub caused_submits : (number : ℕ) → List Caused → List Submission
caused_submits number caused = map (λ (one : Caused). one.submission) (of_round number caused)

-- The second part of a round, as a round of these submissions that rules caused: nobody restarts, no time passes, and no raw request comes. Who is paused
-- and whether verdicts are held is as in the round.
abbrev pub second_of : Round → List Submission → Round
second_of round caused = record { advance = 0; paused = round.paused; hold_verdicts = round.hold_verdicts; submits = caused; raws = []; restarts = [] }

-- the first and then the second part of each of the rounds, as rounds; `number` is that of the first of them
abbrev pub parts_in : (number : ℕ) → List Round → List Caused → List Round
parts_in number [] caused = []
parts_in number (round ∷ rounds) caused = round ∷ second_of round (caused_submits number caused) ∷ parts_in (number + 1) rounds caused

-- The rounds with the results and ends of their parts; `number` is that of the first of them. The results stand in script order, those of a second part
-- behind those of the first. Each round has two ends, and from the first that lacks them on the rounds are left out.
abbrev pub round_parts : (number : ℕ) → List Round → List Caused → List SubmitResult → (ends : List ℕ) → List (RoundParts SubmitFault)
round_parts number [] caused results ends = []
round_parts number (round ∷ rounds) caused results [] = []
round_parts number (round ∷ rounds) caused results (end ∷ []) = []
round_parts number (round ∷ rounds) caused results (end ∷ second_end ∷ ends) =
    let own = caused_submits number caused in
    let rest = drop (length round.submits) results in
    record {
      round = round_of round;
      results = results_of round.submits (take (length round.submits) results);
      end = end;
      caused = own;
      caused_results = results_of own (take (length own) rest);
      caused_end = second_end;
    }
    ∷ round_parts (number + 1) rounds caused (drop (length own) rest) ends
