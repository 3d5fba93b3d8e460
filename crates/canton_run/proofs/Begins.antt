-- A round begins: its Tick, and then its raw requests.
use Rattle.std.proofs.Common.{◌≡◌, ℕ, ◌+◌, List, ap, ◌∙◌}
use Rattle.script_read.specs.declared.round.Round.{Round}
use Rattle.script_read.specs.declared.script.Script.{Script}
use Rattle.world_model.specs.Machine.{Machine}
use Rattle.world_model.specs.Mediator.{MediatorState}
use Rattle.world_model.specs.Messages.{Entry}
use Rattle.world_model.specs.Lawful.{Lawful}
use Rattle.world_model.specs.Rounds.{begun, handed_in, ticked}
use Rattle.world_play.specs.Flags.{ArePaused}
use Rattle.world_play.specs.Submitting.{AreSetUp}
use Rattle.world_play.specs.WorldOf.{IsWorldOf, world_of}
use Rattle.world_play.specs.declared.world.World.{World}
use Rattle.canton_run.specs.Answered.{requests_of, round_of}
use Rattle.canton_run.specs.Run.{machine_for}

module _ (script : Script) (capacity : ℕ) (round : Round) (state : MediatorState) (world : World) where
  abbrev m : Machine
  m = machine_for script capacity

  abbrev time : ℕ
  time = world.now + round.advance

  -- the round has begun in this world
  pub record HasBegun (w1 : World) : Type 0 where
    pub now : w1.now ≡ time
    pub is : IsWorldOf m state w1 × Lawful m (world_of state w1)
    pub set_up : AreSetUp script.topology script.checked (w1.nodes).items
    pub paused : ArePaused round.paused (w1.nodes).items
    pub begins : (w1.sequencer).list ≡ begun m time (round_of round) (world.sequencer).list

  -- once time has moved on in the first of these worlds, and the raw requests were handed in in the second
  pub has_begun : (w0 w1 : World) → w0.now ≡ time → IsWorldOf m state w0 × Lawful m (world_of state w0)
      → AreSetUp script.topology script.checked (w0.nodes).items → ArePaused round.paused (w0.nodes).items
      → (w0.sequencer).list ≡ ticked m time (round_of round) (world.sequencer).list
      → w1.now ≡ w0.now → w1.nodes ≡ w0.nodes
      → (IsWorldOf m state w0 → Lawful m (world_of state w0) → IsWorldOf m state w1 × Lawful m (world_of state w1))
      → (w1.sequencer).list ≡ handed_in m time (w0.sequencer).list (requests_of round.raws) → HasBegun w1
  has_begun w0 w1 now0 is0 set_up paused ticks now1 same is1 hands =
      record {
        now = now1 ∙ now0;
        is = is1 is0.0 is0.1;
        set_up = rw same set_up;
        paused = rw same paused;
        begins = hands ∙ ap (λ (xs : List Entry). handed_in m time xs (requests_of round.raws)) ticks;
      }
