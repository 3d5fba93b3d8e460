use Rattle.std.proofs.Common.{◌≡◌, sym, ap, ◌∙◌, subst}
use Rattle.ledger_terms.specs.declared.topology.Topology.{Topology}
use Rattle.lang_eval.specs.Found.{Packages}
use Rattle.world_model.specs.Machine.{Machine}
use Rattle.world_model.specs.Mediator.{new_mediator}
use Rattle.world_model.specs.Lawful.{Lawful}
use Rattle.world_model.proofs.Steps.{new_lawful}
use Rattle.node_core.specs.Machines.{machine_of}
use Rattle.world_play.specs.WorldOf.{IsWorldOf, world_of}
use Rattle.shared_world.proofs.synchroniser.Synchroniser.new.Goals as goal

pub of-requires-clause-world : goal.of-requires-clause-world
of-requires-clause-world g c =
    let world = c.in_ok-world.world in
    let first = machine_of c.args.setup.now.topology c.args.setup.now.checked c.args.capacity in
    let is : first ≡ g.S.Session.machine =
    ap (λ (t : Topology). machine_of t c.args.setup.now.checked c.args.capacity) c.requires.topology.0
    ∙ (ap (λ (k : Packages). machine_of g.S.Session.topology k c.args.capacity) c.requires.topology.1 ∙ sym c.requires.machine) in (
      new_mediator,
      subst (λ (m : Machine). IsWorldOf m new_mediator world) is c.in_ok-world.ensures.is,
      subst (λ (m : Machine). Lawful m (world_of new_mediator world)) is
          (subst (Lawful first) (sym c.in_ok-world.ensures.new) (new_lawful first)),
    )

pub of-requires-clause-bases : goal.of-requires-clause-bases
of-requires-clause-bases g c = λ p node at. c.in_ok-world.ensures.bases p node at ∙ sym (c.requires.bases p)
