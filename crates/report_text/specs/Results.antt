-- The lines of the submissions' results.
use Rattle.std.specs.Prelude.{ℕ, ◌+◌, List, [], ◌∷◌, ◌++◌, codes, decimal, filter, map, nat_eq}
use Rattle.std.specs.List.{flat_map, zip}
use Rattle.ledger_terms.specs.declared.host.Host.{Host}
use Rattle.ledger_terms.specs.declared.submission.Submission.{Submission}
use Rattle.script_read.specs.declared.round.Round.{Round}
use Rattle.prepare_request.specs.declared.submit_fault.SubmitFault.{SubmitFault}
use Rattle.prepare_request.specs.declared.submit_fault.SubmitFault.TheVariants.{Paused, NotHosted, Command, Split, Duplicate, LogFull, Memory}
use Rattle.node_core.specs.declared.submit_result.SubmitResult.{SubmitResult}
use Rattle.node_core.specs.declared.submit_result.SubmitResult.TheVariants.{Sent, Refused}
use Rattle.trigger_rules.specs.declared.caused.Caused.{Caused}
use Rattle.report_text.specs.FaultNames.{command_fault_name, split_fault_name}
use Rattle.report_text.specs.Entries.{host_text}

-- why a submission was refused: the fault's word, with the party, the place or the numbers of places that it names; want of memory has no word, since no
-- result of a run is it
abbrev pub fault_text : SubmitFault → List ℕ
fault_text Paused = codes "Paused"
fault_text (NotHosted party) = codes "NotHosted " ++ party
fault_text (Command fault) = command_fault_name fault
fault_text (Split fault) = split_fault_name fault
fault_text (Duplicate place) = codes "Duplicate " ++ decimal place
fault_text (LogFull reserved need) = codes "LogFull " ++ decimal reserved ++ codes " " ++ decimal need
fault_text Memory = []

-- the result of a submission: `sent` with the place of its request, or `refused` with the fault
abbrev pub answer_text : SubmitResult → List ℕ
answer_text (Sent place read_to) = codes "sent " ++ decimal place
answer_text (Refused fault read_to) = codes "refused " ++ fault_text fault

-- a submission with the number of its round, from 0
pub record Submitted : Type 0 where
  pub round : ℕ
  pub submission : Submission

-- the submissions of the round with this number, each with that number
abbrev pub submitted_in : ℕ → List Submission → List Submitted
submitted_in round submissions = map (λ submission. record { round = round; submission = submission }) submissions

-- of all that rules caused, what they caused in the round with this number, in order
abbrev pub of_round : ℕ → List Caused → List Caused
of_round number caused = filter (λ (one : Caused). nat_eq one.round number) caused

-- the submissions that rules caused in the round with this number, each with that number
abbrev pub caused_in : ℕ → List Caused → List Submitted
caused_in number caused = submitted_in number (map (λ (one : Caused). one.submission) (of_round number caused))

-- All submissions of the rounds in script order, each with the number of its round; `number` is that of the first round. Behind a round's own stand those
-- that rules caused in it.
abbrev pub submitted_from : ℕ → List Round → List Caused → List Submitted
submitted_from number [] caused = []
submitted_from number (round ∷ rounds) caused =
    submitted_in number round.submits ++ (caused_in number caused ++ submitted_from (number + 1) rounds caused)

-- the line of a submission: its round, its participant, its command and its result
abbrev pub result_line : List Host → Submitted × SubmitResult → List ℕ
result_line hosts (submitted, answer) =
    codes "result " ++ decimal submitted.round ++ codes " " ++ host_text hosts submitted.submission.participant ++ codes " "
    ++ submitted.submission.command ++ codes " " ++ answer_text answer ++ codes "\n"

-- A line for each submission with its result. Both are in script order, and behind a round's own stand those that rules caused in it. Where there are
-- fewer results than submissions, the last submissions have no line.
abbrev pub result_lines : List Host → List Round → List Caused → List SubmitResult → List ℕ
result_lines hosts rounds caused results = flat_map (result_line hosts) (zip (submitted_from 0 rounds caused) results)
