use Rattle.canton_model.proofs.FromGenuine.{consistent_of_log}
use Rattle.framed_form.specs.FramedReading.{framed_reading}
use Rattle.framed_form.proofs.Lawful.{are_framed, lawful}
use Rattle.framed_form.proofs.NoCollision.{no_collision}
use Rattle.framed_form.proofs.laws.framed_logs_are_one_ledger.Goals as goal

pub returns-clause-framed : goal.returns-clause-framed
returns-clause-framed c = are_framed

pub returns-clause-ledger : goal.returns-clause-ledger
returns-clause-ledger c topology packages log genuine apart =
    consistent_of_log (framed_reading topology packages) topology.params log (lawful topology packages) genuine
    (no_collision topology packages log (are_framed topology packages log genuine) apart)
