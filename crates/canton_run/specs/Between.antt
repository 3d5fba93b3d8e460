-- What holds between two rounds of a run.
use Rattle.std.specs.Prelude.{◌≡◌, ℕ, ◌<◌, ◌≤◌, ◌^◌, List, [], ◌∷◌, ◌++◌, Some, All, length, slice_get, sum_by}
use Rattle.confirm_reply.specs.declared.setup.Setup.{Setup}
use Rattle.ledger_terms.specs.Topologies.{IsValid}
use Rattle.ledger_terms.specs.declared.submission.Submission.{Submission}
use Rattle.lang_eval.specs.Named.{AreKnown, parties_in_packages}
use Rattle.node_core.specs.declared.submit_result.SubmitResult.{SubmitResult}
use Rattle.script_read.specs.Kept.{IsAccepted}
use Rattle.script_read.specs.declared.round.Round.{Round}
use Rattle.script_read.specs.declared.script.Script.{Script}
use Rattle.sealed_form.specs.Within.{is_hosted}
use Rattle.run_model.specs.Workers.{PartBy, RoundsBy}
use Rattle.world_model.specs.Lawful.{Lawful}
use Rattle.world_model.specs.Machine.{GenuineLog, IsMachine}
use Rattle.world_model.specs.Mediator.{MediatorState}
use Rattle.world_model.specs.Messages.{Entry}
use Rattle.world_model.specs.Rounds.{begun}
use Rattle.world_model.specs.Sequencing.{reserved}
use Rattle.world_model.specs.Settled.{left, passes}
use Rattle.world_play.specs.Flags.{ArePaused}
use Rattle.world_play.specs.Results.{IsPlainResult, results_of}
use Rattle.world_play.specs.Submitting.{AreSetUp, CanSubmit}
use Rattle.world_play.specs.WorldOf.{IsWorldOf, world_of}
use Rattle.world_play.specs.declared.world.World.{World}
use Rattle.canton_run.specs.Answered.{answered, round_of}
use Rattle.canton_run.specs.Run.{machine_for, script_with, submissions_in, why_for}

-- by how many microseconds the rounds move time in all
abbrev pub time_in : List Round → ℕ
time_in rounds = sum_by (λ (round : Round). round.advance) rounds

-- the script is accepted, and the round is the one with the number `count` among its rounds, counted from 0
pub record IsRoundOf (script : Script) (count : ℕ) (round : Round) : Type 0 where
  pub accepted : IsAccepted script
  pub there : slice_get script.rounds count ≡ Some round

-- The script is accepted, and the part may be one of a run of it: its submissions are of participants that there are and name only parties of
-- the topology.
pub record IsPartOf (script : Script) (part : Round) : Type 0 where
  pub accepted : IsAccepted script
  pub within : All (CanSubmit script.topology script.checked) part.submits
  pub there : All (λ (what : Submission). what.participant < length (script.topology).hosts) part.submits

-- the setup has the topology and the packages of the script
abbrev pub IsSetupOf : Script → Setup → Type 0
IsSetupOf script setup = script ≡ script_with setup script.triggers script.rounds

-- What has to hold before the submissions of a round are answered: the world is the script's synchroniser, lawful and with a time in range, just the
-- round's paused participants are paused in it, the topology is valid, the packages name only parties of it, and the submissions do so too and are of
-- participants that there are.
pub record CanBeAnswered (script : Script) (capacity : ℕ) (round : Round) (world : World) : Type 0 where
  pub machine : IsMachine (machine_for script capacity)
  pub state : MediatorState
  pub is : IsWorldOf (machine_for script capacity) state world
  pub lawful : Lawful (machine_for script capacity) (world_of state world)
  pub set_up : AreSetUp script.topology script.checked (world.nodes).items
  pub now : world.now ≤ 10 ^ 16
  pub paused : ArePaused round.paused (world.nodes).items
  pub valid : IsValid script.topology
  pub named : AreKnown (is_hosted script.topology) (parties_in_packages script.checked)
  pub within : All (CanSubmit script.topology script.checked) round.submits
  pub there : All (λ (what : Submission). what.participant < length (script.topology).hosts) round.submits

-- The world is `before` when the round has begun and `after` when its submissions were answered with `results`. Once `after` has settled, the round
-- with these results is a part of the run, played by so many workers, whatever log (`first`) the round began on.
abbrev pub SettlesAsPart : Script → (capacity workers : ℕ) → Round → (before after : World) → List SubmitResult → Type 0
SettlesAsPart script capacity workers round before after results =
    (first settled : List Entry) → GenuineLog (machine_for script capacity) first × (reserved first ≤ (machine_for script capacity).capacity)
    → (before.sequencer).list ≡ begun (machine_for script capacity) before.now (round_of round) first
    → settled ≡ passes (machine_for script capacity) before.now round.paused round.hold_verdicts
    (left (machine_for script capacity).hosts (after.sequencer).list) (after.sequencer).list
    → PartBy workers (machine_for script capacity) (why_for script) before.now (round_of round) (results_of round.submits results) first settled

-- All submissions of the round were answered with these results, in their order, by so many workers, and that made the world `after` of the world
-- `before`. The world hasn't settled yet.
pub record IsAnsweredRound (script : Script) (capacity workers : ℕ) (round : Round) (before after : World) (results : List SubmitResult)
    : Type 0 where
  pub state : MediatorState
  pub is : IsWorldOf (machine_for script capacity) state after
  pub lawful : Lawful (machine_for script capacity) (world_of state after)
  pub set_up : AreSetUp script.topology script.checked (after.nodes).items
  pub now : after.now ≡ before.now
  pub each_result : length results ≡ length round.submits
  pub plain : All IsPlainResult results
  pub part : SettlesAsPart script capacity workers round before after results

-- These parts of rounds, as rounds, were played on the script's new synchroniser, one after another, by so many workers. `results` are those of all their
-- submissions, in order, and `ends` the lengths of the log at the end of each part.
pub record ArePlayed (script : Script) (capacity workers : ℕ) (parts : List Round) (world : World) (results : List SubmitResult) (ends : List ℕ)
    : Type 0 where
  pub machine : IsMachine (machine_for script capacity)
  pub state : MediatorState
  pub is : IsWorldOf (machine_for script capacity) state world
  pub lawful : Lawful (machine_for script capacity) (world_of state world)
  pub set_up : AreSetUp script.topology script.checked (world.nodes).items
  pub now : world.now ≡ time_in parts
  pub each_result : length results ≡ submissions_in parts
  pub each_end : length ends ≡ length parts
  pub plain : All IsPlainResult results
  pub played : RoundsBy workers (machine_for script capacity) (why_for script) 0 [] (answered parts results ends) (world.sequencer).list

-- The part was played behind the earlier parts, `parts`, and made the world `after` of the world `before`. The log goes on, results' is `results` with
-- the part's own behind them, and ends' is `ends` with the part's end behind them.
pub record IsPlayedOn (script : Script) (capacity workers : ℕ) (parts : List Round) (part : Round) (before after : World)
    (results results' : List SubmitResult) (ends ends' : List ℕ) : Type 0 where
  pub own : List SubmitResult
  pub results_are : results' ≡ results ++ own
  pub many : length own ≡ length part.submits
  pub ends_are : ends' ≡ ends ++ length (after.sequencer).list ∷ []
  pub more : List Entry
  pub is_more : (after.sequencer).list ≡ (before.sequencer).list ++ more
  pub played : ArePlayed script capacity workers (parts ++ part ∷ []) after results' ends'
