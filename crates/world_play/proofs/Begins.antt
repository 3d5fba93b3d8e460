-- Time moves on.
use Rattle.std.proofs.Common.{◌≡◌, ℕ, ◌+◌, ◌≤◌, Bool, true, false, if◌then◌else◌, List, map, refl, sym, ap, ◌∙◌, subst}
use Rattle.std.specs.Prelude.{nat_eq}
use Rattle.canton_model.specs.Genuine.{Genuine}
use Rattle.world_model.specs.Messages.{Entry, Tick}
use Rattle.world_model.specs.Machine.{Machine}
use Rattle.world_model.specs.Mediator.{MediatorState}
use Rattle.world_model.specs.Node.{NodeState}
use Rattle.world_model.specs.World as w
use Rattle.world_model.specs.Sequencing.{reserved, sequenced}
use Rattle.world_model.specs.Locks.{SequencerBehind}
use Rattle.world_model.specs.Lawful.{Lawful}
use Rattle.world_model.specs.Rounds.{Round, ticked}
use Rattle.world_model.proofs.Steps.{lawful_grown}
use Rattle.seq_log.specs.Sequenced.{Sequenced}
use Rattle.node_core.specs.OverLog.{state_over}
use Rattle.node_core.specs.Participant.{Participant as NodeValue}
use Rattle.world_play.specs.Parts.{GoesOn}
use Rattle.world_play.specs.Worlds.{world_with, AreNodesOf}
use Rattle.world_play.proofs.LogMore.{states_more}

-- the log of a world goes on, and its time may
pub lawful_on : (m : Machine) (now later : ℕ) (state : MediatorState) (nodes : List NodeValue) (s s' : Sequenced) → GoesOn s s'
    → SequencerBehind m s'.list → AreNodesOf m nodes s → Lawful m (world_with now state nodes s) → Lawful m (world_with later state nodes s')
lawful_on m now later state nodes s s' on behind a l =
    subst (λ (states : List NodeState). Lawful m (record { log = s'.list; now = later; mediator = state; nodes = states }))
    (sym (states_more s s' on nodes a.inbox))
    (subst (λ (xs : List Entry). Lawful m (record { log = xs; now = later; mediator = state; nodes = map (state_over s.list) nodes })) (sym on.is_more)
    (lawful_grown m (world_with now state nodes s) on.more later l (subst (λ (xs : List Entry). Genuine m.reading m.params xs) on.is_more behind.genuine)
    (subst (λ (xs : List Entry). reserved xs ≤ m.capacity) on.is_more behind.within_capacity)))

-- the log after an advance is that after a round's Tick
pub advanced_log : (m : Machine) (world : w.World) (by : ℕ) (round : Round) → round.advance ≡ by
    → (w.happens m world (w.Advance by)).log ≡ ticked m (world.now + by) round world.log
advanced_log m world by round e =
    by_test (nat_eq by 0) ∙ ap (λ (n : ℕ). if nat_eq n 0 then world.log else sequenced m (world.now + by) world.log Tick) (sym e)
  where
    by_test : (b : Bool) → (if b then world else w.advance m world by).log ≡ (if b then world.log else sequenced m (world.now + by) world.log Tick)
    by_test true = refl
    by_test false = refl
