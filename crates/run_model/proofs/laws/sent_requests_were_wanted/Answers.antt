use Rattle.ledger_model.proofs.Lists.{in_from_Contains}
use Rattle.world_model.specs.Rounds.{Sent}
use Rattle.run_model.proofs.Sent.{was_wanted}
use Rattle.run_model.proofs.laws.sent_requests_were_wanted.Goals as goal

pub returns : goal.returns
returns g c = λ m why log rounds x what place read_to holds inside sent.
    let w =
    was_wanted m why log rounds holds x (in_from_Contains rounds x inside) what place read_to (in_from_Contains x.results (what, Sent place read_to) sent) in
    (w.request, w.now, w.there, w.wanted)
