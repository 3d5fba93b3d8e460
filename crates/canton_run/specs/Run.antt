-- What a run of a script is.
use Rattle.std.specs.Prelude.{◌≡◌, ℕ, ◌+◌, ◌*◌, true, List, [], ◌∷◌, All, Contains, Some, length, sum_by, take}
use Rattle.canton_model.specs.Log.{Params, request_at}
use Rattle.canton_model.specs.Reading.{Reading}
use Rattle.canton_model.specs.declared.entry.Entry.{Entry}
use Rattle.canton_model.specs.declared.request.Request.{Request}
use Rattle.confirm_reply.specs.declared.setup.Setup.{Setup}
use Rattle.ledger_terms.specs.declared.submission.Submission.{Submission}
use Rattle.node_core.specs.declared.submit_result.SubmitResult.{SubmitResult}
use Rattle.prepare_request.specs.declared.submit_fault.SubmitFault.{SubmitFault}
use Rattle.run_model.specs.Approving.{AllRoundsApprove}
use Rattle.script_read.specs.declared.round.Round.{Round}
use Rattle.script_read.specs.declared.script.Script.{Script}
use Rattle.framed_form.specs.Collisions.{Collides}
use Rattle.framed_form.specs.FramedReading.{framed_reading}
use Rattle.world_model.specs.Headline.{Headline, OneLedger}
use Rattle.world_model.specs.Machine.{Machine}
use Rattle.world_model.specs.Plain.{PlainPart, PlainRounds}
use Rattle.world_model.specs.Rounds.{RoundAnswers, Sent, Why}
use Rattle.node_core.specs.Machines.{machine_of, why_of}
use Rattle.world_play.specs.OwnRequests.{IsOwnRequest}
use Rattle.world_play.specs.Results.{IsPlainResult}
use Rattle.trigger_model.specs.CausedRequests.{AreRounds}
use Rattle.trigger_model.specs.CausedRun.{CausedHolds, FiredRound, all_caused}
use Rattle.trigger_model.specs.TwoParts.{RoundParts, RunInParts, parts_of, second_round}
use Rattle.trigger_rules.specs.Answers.{Answers}
use Rattle.trigger_rules.specs.Ids.{is_rule_command}
use Rattle.trigger_rules.specs.declared.caused.Caused.{Caused}
use Rattle.trigger_rules.specs.declared.rule.Rule.{Rule}
use Rattle.canton_run.specs.Parts.{round_parts}

-- the script with the topology and packages of a setup, these rules and these rounds
abbrev pub script_with : Setup → List Rule → List Round → Script
script_with setup rules rounds = record { topology = setup.topology; checked = setup.checked; triggers = rules; rounds = rounds }

-- how requests are read at the script's topology and packages
abbrev pub reading_for : Script → Reading
reading_for script = framed_reading script.topology script.checked

-- the times of a script, its skew and its two timeouts, in microseconds
abbrev pub params_of : Script → Params
params_of script = (script.topology).params

-- the machine of the script's synchroniser, whose requests may need `capacity` places of the log in all
abbrev pub machine_for : Script → (capacity : ℕ) → Machine
machine_for script capacity = machine_of script.topology script.checked capacity

-- why a participant of the script refuses a submission that wants no request: a fault for the submission, the participant's inbox and the time
abbrev pub why_for : Script → Why SubmitFault
why_for script = why_of script.topology script.checked

-- how many submissions the rounds have in all
abbrev pub submissions_in : List Round → ℕ
submissions_in rounds = sum_by (λ (round : Round). length round.submits) rounds

-- the rounds of a run of the script in their two parts, with their results, ends and what rules caused in them
abbrev pub parts_of_run : Script → List SubmitResult → (ends : List ℕ) → List Caused → List (RoundParts SubmitFault)
parts_of_run script results ends caused = round_parts 0 script.rounds caused results ends

-- The second part of each round is one thread's: the requests of what rules caused, in order, and passes until one appends nothing. `now` is the time
-- of the world before the first of these rounds, the log is that of the whole run, and the `Why` says why a submission is refused.
abbrev pub SecondPartsArePlain : {F : Type 0} → Machine → Why F → (now : ℕ) → List Entry → List (RoundParts F) → Type 0
SecondPartsArePlain m why now log [] = Unit {0}
SecondPartsArePlain m why now log (x ∷ rest) =
    PlainPart m why (now + (x.round).advance) (second_round x.round x.caused) x.caused_results (take x.end log) (take x.caused_end log)
    × SecondPartsArePlain m why (now + (x.round).advance) log rest

-- The log, the results of the submissions, the ends of the parts of rounds and what rules caused are those of a run of the script by so many workers, 0
-- where one thread does all the work, whose requests may need `capacity` places of the log. What its rules are answered about contracts is what `may`
-- allows.
pub record IsRun (may : Answers) (script : Script) (capacity workers : ℕ) (log : List Entry) (results : List SubmitResult) (ends : List ℕ)
    (caused : List Caused) : Type 0 where
  -- what the log has to do with the script: it is genuine, within its capacity and cut at the ends, each part and each result is as its
  -- round says, and what was caused in a round stands first in its second part
  pub cut : RunInParts (machine_for script capacity) (why_for script) log (parts_of_run script results ends caused)
  -- without workers each first part is its Tick, the raw requests, the submissions in script order, and passes until one appends nothing
  pub alone : workers ≡ 0
      → PlainRounds (machine_for script capacity) (why_for script) 0 [] (parts_of (parts_of_run script results ends caused)) log
  -- each second part is one thread's: its requests in order, and passes until one appends nothing
  pub second : SecondPartsArePlain (machine_for script capacity) (why_for script) 0 log (parts_of_run script results ends caused)
  -- each submission has a result, and each that rules caused; each round has two ends; and no result is a refusal for want of memory
  pub each_result : length results ≡ submissions_in script.rounds + length caused
  pub each_end : length ends ≡ 2 * length script.rounds
  pub plain : All IsPlainResult results
  -- a request, a submitted or a raw one, that nobody rejects, whose participants aren't paused and whose verdict isn't held, is approved
  pub approved : AllRoundsApprove (machine_for script capacity) log 0 (parts_of (parts_of_run script results ends caused))
  -- the request of each Sent result is of the transaction that its submission wants, and opens it by the rules
  pub own : (round : RoundAnswers SubmitFault) (what : Submission) (place read_to : ℕ)
      → Contains (parts_of (parts_of_run script results ends caused)) round → Contains round.results (what, Sent place read_to)
      → (now : ℕ) × (request : Request) × (request_at log place ≡ Some request)
      × IsOwnRequest script.topology script.checked now log what read_to request
  -- what the script's rules caused, round after round: `fired` has these rounds with what was caused in each
  pub fired : List FiredRound
  pub same : AreRounds 0 0 (parts_of_run script results ends caused) fired
  pub whole : caused ≡ all_caused fired
  -- no rule fired twice on a contract, each firing had its contract and its command, and on each contract that was active at the end of a
  -- first part, for a participant that wasn't paused, a rule of that has fired, or none may be answered
  pub causes : CausedHolds may script.triggers (reading_for script) (params_of script) log fired
  -- each request with a command id that is reserved for a rule of its sender is the request of a submission that a rule caused
  pub rules : (k : ℕ) (request : Request) → request_at log k ≡ Some request
      → is_rule_command script.triggers request.sender request.command ≡ true
      → (one : Caused) × Contains caused one × (x : RoundParts SubmitFault) × Contains (parts_of_run script results ends caused) x
      × (read_to : ℕ) × Contains x.caused_results (one.submission, Sent k read_to)
  -- what holds of every genuine log
  pub headline : Headline (reading_for script) (params_of script) log
  -- what holds where no two different strings that are hashed in the log have one hash
  pub one_ledger : (Collides script.topology log → ⊥) → OneLedger (reading_for script) (params_of script) log
