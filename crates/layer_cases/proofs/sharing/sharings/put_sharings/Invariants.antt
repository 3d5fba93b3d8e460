use Rattle.node_core.specs.Machines.{machine_of, why_of}
use Rattle.layer_cases.proofs.sharing.sharings.put_sharings.Given as goal

abbrev pub ghosts-share-S-Row : goal.ghosts-share-S-Row
ghosts-share-S-Row g a = record { history = a.last.world.value.sequencer.row }

abbrev pub ghosts-share-S-Ledger : goal.ghosts-share-S-Ledger
ghosts-share-S-Ledger g a = record { name = a.blank.name; parts = a.blank.parts }

abbrev pub ghosts-share-S-Session : goal.ghosts-share-S-Session
ghosts-share-S-Session g a =
    record {
      topology = a.setup.now.topology;
      packages = a.setup.now.checked;
      machine = machine_of a.setup.now.topology a.setup.now.checked 20;
      why = why_of a.setup.now.topology a.setup.now.checked;
      bases = λ p. 0;
      start = a.last.world.value.sequencer.list;
    }
