-- A synchroniser that is shared once more, and what is submitted to it.
use Rattle.std.specs.Prelude.{◌≡◌, ◌≤◌, ◌^◌, ℕ, List, Some, slice_get}
use Rattle.ledger_terms.specs.Topologies.{IsValid}
use Rattle.ledger_terms.specs.declared.submission.Submission.{Submission}
use Rattle.ledger_terms.specs.declared.topology.Topology.{Topology}
use Rattle.lang_eval.specs.Found.{Packages}
use Rattle.lang_eval.specs.Named.{AreKnown, parties_in_packages}
use Rattle.sealed_form.specs.Within.{is_hosted}
use Rattle.world_model.specs.Lawful.{Lawful}
use Rattle.world_model.specs.Machine.{Machine}
use Rattle.world_model.specs.Mediator.{MediatorState}
use Rattle.prepare_request.specs.Within.{parties_in_what}
use Rattle.confirm_reply.specs.declared.setup.Setup.{Setup}
use Rattle.node_core.specs.Bases.{AreBases}
use Rattle.script_read.specs.declared.round.Round.{Round}
use Rattle.world_play.specs.Submitting.{AreSetUp}
use Rattle.world_play.specs.WorldOf.{IsWorldOf, world_of}
use Rattle.world_play.specs.declared.world.World.{World}

-- What the cases of `sharing` keep of a synchroniser between two sharings: a lawful world of the machine m, over this topology and these packages,
-- whose participants have forgotten nothing, and whose time is at most 10^16 microseconds.
pub record CanBeShared (topology : Topology) (packages : Packages) (m : Machine) (world : World) : Type 0 where
  -- each participant was made for this topology and these packages
  pub nodes : AreSetUp topology packages (world.nodes).items
  -- the base of each participant is 0
  pub bases : AreBases (λ p. 0) (world.nodes).items
  -- what the mediator has read and decided, as the world model has it
  pub state : MediatorState
  -- the synchroniser stands for a world of the machine with this state of the mediator
  pub is : IsWorldOf m state world
  pub lawful : Lawful m (world_of state world)
  pub now : world.now ≤ 10 ^ 16

-- What holds of an accepted script: the topology is valid, and the packages and all that the rounds submit name only parties of it.
pub record NameHosted (setup : Setup) (rounds : List Round) : Type 0 where
  pub valid : IsValid (setup.topology)
  pub packages : AreKnown (is_hosted setup.topology) (parties_in_packages setup.checked)
  pub submits : (j k : ℕ) (round : Round) (what : Submission) → slice_get rounds j ≡ Some round → slice_get round.submits k ≡ Some what
      → AreKnown (is_hosted setup.topology) (parties_in_what what.what)
