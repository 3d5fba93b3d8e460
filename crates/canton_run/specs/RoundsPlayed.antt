-- What holds between two rounds of a run, once both parts of each were played and rules were asked in each.
use Rattle.std.specs.Prelude.{◌≡◌, ℕ, ◌+◌, ◌<◌, ◌++◌, List, [], Contains, Some, length, slice_get, take}
use Rattle.node_core.specs.declared.submit_result.SubmitResult.{SubmitResult}
use Rattle.prepare_request.specs.declared.submit_fault.SubmitFault.{SubmitFault}
use Rattle.script_read.specs.declared.script.Script.{Script}
use Rattle.trigger_model.specs.CausedRequests.{AreRounds}
use Rattle.trigger_model.specs.CausedRun.{FiredRound, RoundsFire, all_caused, fired_on}
use Rattle.trigger_model.specs.TwoParts.{CausedStandFirst, RoundParts}
use Rattle.trigger_rules.specs.Answers.{Answers}
use Rattle.trigger_rules.specs.declared.caused.Caused.{Caused}
use Rattle.trigger_rules.specs.declared.rule.Rule.{Rule}
use Rattle.world_model.specs.Messages.{Entry}
use Rattle.world_play.specs.declared.world.World.{World}
use Rattle.canton_run.specs.Between.{ArePlayed}
use Rattle.canton_run.specs.Parts.{parts_in, round_parts}
use Rattle.canton_run.specs.Run.{SecondPartsArePlain, machine_for, params_of, reading_for, submissions_in, why_for}

-- the first `count` rounds of the script in their two parts, with the results of their submissions, the ends of their parts and what rules caused in them
abbrev pub first_rounds : Script → (count : ℕ) → List SubmitResult → (ends : List ℕ) → List Caused → List (RoundParts SubmitFault)
first_rounds script count results ends caused = round_parts 0 (take count script.rounds) caused results ends

-- The first `count` rounds of the script were played, both parts of each, by so many workers, and made this world, with these results and ends, and its
-- rules caused `caused`. What is said of the log holds of every log that goes on with it. `may` is what rules may be answered about a contract, and
-- `fired_by` tells on which contracts the rule at an index of the script's rules has fired.
pub record RoundsArePlayed (may : Answers) (script : Script) (capacity workers count : ℕ) (world : World) (fired_by : ℕ → List (List ℕ))
    (results : List SubmitResult) (ends : List ℕ) (caused : List Caused) : Type 0 where
  -- the parts were played one after another, with these results and ends
  pub parts : ArePlayed script capacity workers (parts_in 0 (take count script.rounds) caused) world results ends
  -- each submission has a result, and each that rules caused
  pub each_result : length results ≡ submissions_in (take count script.rounds) + length caused
  -- what rules caused was caused in one of these rounds
  pub before : (one : Caused) → Contains caused one → one.round < count
  -- the same rounds as the rules saw them, with what was caused in each, which is `caused` in all
  pub fired : List FiredRound
  pub same : AreRounds 0 0 (first_rounds script count results ends caused) fired
  pub whole : caused ≡ all_caused fired
  -- what was caused in a round stands first in its second part
  pub first : CausedStandFirst (first_rounds script count results ends caused)
  -- each second part is one thread's: its requests in order, and passes until one appends nothing
  pub second : (more : List Entry)
      → SecondPartsArePlain (machine_for script capacity) (why_for script) 0 ((world.sequencer).list ++ more)
      (first_rounds script count results ends caused)
  -- in each round the rules fired on what was active and hadn't been fired on, as `may` allows
  pub fires : (more : List Entry)
      → RoundsFire may (reading_for script) (params_of script) ((world.sequencer).list ++ more) script.triggers [] fired
  -- each rule counts as fired on exactly the contracts of what it caused
  pub noted : (k : ℕ) (rule : Rule) → slice_get script.triggers k ≡ Some rule → fired_by k ≡ fired_on rule.name caused
