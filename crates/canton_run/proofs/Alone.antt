-- One thread's answers to the submissions of a round.
use Rattle.std.proofs.Common.{◌≡◌, ℕ, ◌<◌, List, length, sym, subst, arith}
use Rattle.std.specs.Prelude.{All, Result, Ok, Err, IfOk}
use Rattle.std.specs.declared.alloc.AllocError.{AllocError}
use Rattle.confirm_reply.specs.declared.setup.Setup.{Setup}
use Rattle.ledger_terms.specs.declared.submission.Submission.{Submission}
use Rattle.node_core.specs.declared.submit_result.SubmitResult.{SubmitResult}
use Rattle.script_read.specs.declared.round.Round.{Round}
use Rattle.script_read.specs.declared.script.Script.{Script}
use Rattle.shared_rounds.specs.declared.submitting.Answered.{Answered}
use Rattle.world_model.specs.Lawful.{Lawful}
use Rattle.world_model.specs.Machine.{Machine}
use Rattle.world_model.specs.Messages.{Entry}
use Rattle.world_model.specs.Plain.{Submitted}
use Rattle.world_play.specs.Results.{IsPlainResult, results_of}
use Rattle.world_play.specs.Submitting.{AreSetUp}
use Rattle.world_play.specs.WorldOf.{IsWorldOf, world_of}
use Rattle.world_play.specs.declared.world.World.{World}
use Rattle.canton_run.specs.Answered.{round_of}
use Rattle.canton_run.specs.Between.{CanBeAnswered, IsAnsweredRound, IsSetupOf, SettlesAsPart}
use Rattle.canton_run.specs.Run.{machine_for, why_for}

module _ (script : Script) (capacity : ℕ) (round : Round) (world : World) (can : CanBeAnswered script capacity round world) where
  abbrev m : Machine
  m = machine_for script capacity

  pub there_each : All (λ (what : Submission). what.participant < length (world.nodes).items) round.submits
  there_each k d lt = let inside = can.there k d lt in let many = can.set_up.many in omega (arith, inside, many)

  -- they are its part once the synchroniser has settled
  part_alone : (after : World) (answers : List SubmitResult)
      → Submitted m (why_for script) world.now (round_of round) (world.sequencer).list (results_of round.submits answers) (after.sequencer).list
      → SettlesAsPart script capacity 0 round world after answers
  part_alone after answers submitted first settled good begins settles = (
    (after.sequencer).list,
    subst
        (λ (xs : List Entry). Submitted m (why_for script) world.now (round_of round) xs (results_of round.submits answers) (after.sequencer).list)
        begins submitted,
    settles,
  )

  pub answered_alone : (after : World) (results answers : List SubmitResult) → results ≡ answers → after.now ≡ world.now
      → IsWorldOf m can.state after × Lawful m (world_of can.state after) → AreSetUp script.topology script.checked (after.nodes).items
      → length answers ≡ length round.submits → All IsPlainResult answers
      → Submitted m (why_for script) world.now (round_of round) (world.sequencer).list (results_of round.submits answers) (after.sequencer).list
      → IsAnsweredRound script capacity 0 round world after results
  answered_alone after results answers same now is set_up many plain submitted =
      subst (IsAnsweredRound script capacity 0 round world after) (sym same)
      (record {
        state = can.state;
        is = is.0;
        lawful = is.1;
        set_up = set_up;
        now = now;
        each_result = many;
        plain = plain;
        part = part_alone after answers submitted;
      })

-- what `submit_alone` answers is that of no workers
pub answered_by_none : (workers : ℕ) → workers ≡ 0 → (setup : Setup) (round : Round) (world : World) (r : Result Answered AllocError)
    → IfOk r (λ a. (script : Script) (capacity : ℕ) → CanBeAnswered script capacity round world
    → IsAnsweredRound script capacity 0 round world a.world a.results)
    → IfOk r (λ a. (script : Script) (capacity : ℕ) → IsSetupOf script setup → CanBeAnswered script capacity round world
    → IsAnsweredRound script capacity workers round world a.world a.results)
answered_by_none workers none setup round world (Err lack) alone = tt
answered_by_none workers none setup round world (Ok a) alone =
    λ script capacity same can.
    subst (λ (n : ℕ). IsAnsweredRound script capacity n round world a.world a.results) (sym none) (alone script capacity can)
