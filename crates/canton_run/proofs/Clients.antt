-- What clients beside lanes answer to the submissions of a round.
use Rattle.std.proofs.Common.{◌≡◌, ℕ, List, length, refl, sym, ap, subst}
use Rattle.std.specs.Prelude.{All, Result, Ok, Err, IfOk}
use Rattle.std.specs.declared.alloc.AllocError.{AllocError}
use Rattle.confirm_reply.specs.declared.setup.Setup.{Setup}
use Rattle.node_core.specs.declared.submit_result.SubmitResult.{SubmitResult}
use Rattle.script_read.specs.declared.round.Round.{Round}
use Rattle.script_read.specs.declared.script.Script.{Script}
use Rattle.shared_rounds.specs.Machine.{machine_in}
use Rattle.shared_rounds.specs.declared.submitting.Answered.{Answered}
use Rattle.threads_model.specs.Shared.{Joined}
use Rattle.trigger_rules.specs.declared.rule.Rule.{Rule}
use Rattle.run_model.proofs.Workers.{part_by_some}
use Rattle.world_model.specs.Lawful.{Lawful}
use Rattle.world_model.specs.Machine.{Machine}
use Rattle.world_model.specs.Mediator.{MediatorState}
use Rattle.world_model.specs.Messages.{Entry}
use Rattle.world_model.specs.Rounds as w
use Rattle.node_core.specs.Machines.{machine_of, why_of}
use Rattle.world_play.specs.Results.{IsPlainResult, results_of}
use Rattle.world_play.specs.Submitting.{AreSetUp}
use Rattle.world_play.specs.WorldOf.{IsWorldOf, world_of}
use Rattle.world_play.specs.declared.world.World.{World}
use Rattle.canton_run.specs.Answered.{round_of}
use Rattle.canton_run.specs.Between.{CanBeAnswered, IsAnsweredRound, IsSetupOf}
use Rattle.canton_run.specs.Run.{machine_for, script_with, why_for}

module _ (setup : Setup) (rules : List Rule) (rounds : List Round) (capacity : ℕ) (round : Round) (world : World)
    (can : CanBeAnswered (script_with setup rules rounds) capacity round world) where
  abbrev own : Machine
  own = machine_of setup.topology setup.checked capacity

  same_machine : own ≡ machine_in setup world
  same_machine = ap (machine_of setup.topology setup.checked) ((can.is).nodes).is_for.capacity

  pub for_world : (state : MediatorState) × IsWorldOf (machine_in setup world) state world × Lawful (machine_in setup world) (world_of state world)
  for_world =
      subst (λ (m : Machine). (state : MediatorState) × IsWorldOf m state world × Lawful m (world_of state world)) same_machine
      (can.state, can.is, can.lawful)

  pub answered_shared : (workers : ℕ) → (workers ≡ 0 → ⊥) → (after : World) (results : List SubmitResult) → after.now ≡ world.now
      → ((state : MediatorState) × IsWorldOf (machine_in setup world) state after × Lawful (machine_in setup world) (world_of state after))
      → AreSetUp setup.topology setup.checked (after.nodes).items → length results ≡ length round.submits → All IsPlainResult results
      → ((r : w.Round) → r.paused ≡ round.paused → r.submits ≡ round.submits
      → Joined (machine_in setup world) (why_for (script_with setup rules rounds)) world.now r (world.sequencer).list (after.sequencer).list
      (results_of round.submits results))
      → IsAnsweredRound (script_with setup rules rounds) capacity workers round world after results
  answered_shared workers some after results now is set_up many plain joined =
      let m = machine_for (script_with setup rules rounds) capacity in
      let why = why_for (script_with setup rules rounds) in
      let s = subst (λ (m : Machine). (state : MediatorState) × IsWorldOf m state after × Lawful m (world_of state after)) (sym same_machine) is in
      record {
        state = s.0;
        is = s.1;
        lawful = s.2;
        set_up = set_up;
        now = now;
        each_result = many;
        plain = plain;
        part = λ first settled good begins settles.
            part_by_some m why workers some world.now (round_of round) (results_of round.submits results) first settled (
              (after.sequencer).list,
              subst
                  (λ (xs : List Entry). Joined m why world.now (round_of round) xs (after.sequencer).list (results_of round.submits results)) begins
                  (subst
                  (λ (n : Machine). Joined n why world.now (round_of round) (world.sequencer).list (after.sequencer).list (results_of round.submits results))
                  (sym same_machine) (joined (round_of round) refl refl)),
              settles,
            );
      }

-- what `submit_shared` answers is that of any script of the setup
pub answered_by_clients : (workers : ℕ) → (workers ≡ 0 → ⊥) → (setup : Setup) (round : Round) (world : World) (r : Result Answered AllocError)
    → IfOk r (λ a. a.world.now ≡ world.now)
    → IfOk r (λ a. AreSetUp setup.topology setup.checked (a.world.nodes).items)
    → IfOk r (λ a. (state : MediatorState) × IsWorldOf (machine_in setup world) state a.world × Lawful (machine_in setup world) (world_of state a.world))
    → IfOk r (λ a. length a.results ≡ length round.submits) → IfOk r (λ a. All IsPlainResult a.results)
    → IfOk r (λ a. (q : w.Round) → q.paused ≡ round.paused → q.submits ≡ round.submits
    → Joined (machine_in setup world) (why_of setup.topology setup.checked) world.now q (world.sequencer).list (a.world.sequencer).list
    (results_of round.submits a.results))
    → IfOk r (λ a. (script : Script) (capacity : ℕ) → IsSetupOf script setup → CanBeAnswered script capacity round world
    → IsAnsweredRound script capacity workers round world a.world a.results)
answered_by_clients workers some setup round world (Err lack) now set_up is many plain joined = tt
answered_by_clients workers some setup round world (Ok a) now set_up is many plain joined =
    λ script capacity same can.
    subst (λ (s : Script). IsAnsweredRound s capacity workers round world a.world a.results) (sym same)
    (answered_shared setup script.triggers script.rounds capacity round world (subst (λ (s : Script). CanBeAnswered s capacity round world) same can) workers some
    a.world a.results now is set_up many plain joined)
