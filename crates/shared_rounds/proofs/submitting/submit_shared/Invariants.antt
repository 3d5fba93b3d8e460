use Rattle.shared_rounds.proofs.submitting.submit_shared.Given as goal
use Rattle.shared_rounds.specs.Machine.{machine_in}
use Rattle.node_core.specs.Bases.{bases_of}
use Rattle.node_core.specs.Machines.{why_of}

abbrev pub ghosts-gather-S-Row : goal.ghosts-gather-S-Row
ghosts-gather-S-Row g a = record { history = a.world.sequencer.row }

abbrev pub ghosts-gather-S-Ledger : goal.ghosts-gather-S-Ledger
ghosts-gather-S-Ledger g a = record { name = a.blank.name; parts = a.blank.parts }

abbrev pub ghosts-gather-S-Session : goal.ghosts-gather-S-Session
ghosts-gather-S-Session g a =
    record {
      topology = a.setup.now.topology;
      packages = a.setup.now.checked;
      machine = machine_in a.setup.now a.world;
      why = why_of a.setup.now.topology a.setup.now.checked;
      bases = bases_of a.world.nodes.items;
      start = a.world.sequencer.list;
    }
