use Rattle.canton_model.proofs.Approved.{conforms_and_authorised}
use Rattle.canton_model.proofs.FromGenuine.{consistent_of_log}
use Rattle.framed_form.specs.FramedReading.{framed_reading}
use Rattle.framed_form.proofs.Lawful.{are_framed, lawful}
use Rattle.framed_form.proofs.NoCollision.{no_collision}
use Rattle.log_audit.proofs.laws.logs_that_are_judged_yes_are_ledgers.Goals as goal

pub returns-clause-consistent : goal.returns-clause-consistent
returns-clause-consistent c bytes spelled apart =
    let topology = (spelled.script).topology in
    let packages = (spelled.script).checked in
    let genuine = (spelled.proper).genuine in
    consistent_of_log (framed_reading topology packages) topology.params spelled.log (lawful topology packages) genuine
    (no_collision topology packages spelled.log (are_framed topology packages spelled.log genuine) apart)

pub returns-clause-lawful : goal.returns-clause-lawful
returns-clause-lawful c bytes spelled k commit apart approved whole =
    let topology = (spelled.script).topology in
    let packages = (spelled.script).checked in
    let genuine = (spelled.proper).genuine in
    conforms_and_authorised (framed_reading topology packages) topology.params spelled.log (lawful topology packages) genuine
    (no_collision topology packages spelled.log (are_framed topology packages spelled.log genuine) apart) k commit approved whole
