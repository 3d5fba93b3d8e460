use Rattle.prepare_request.proofs.PlainFaults.{plain_answer}
use Rattle.prepare_request.proofs.preparing.fill_drafts.Goals as goal

pub returns-clause-plain : goal.returns-clause-plain
returns-clause-plain g c =
    plain_answer (g.K.KnownContracts.rows c.args.known.now) c.args.seed.now c.args.drafts.now c.fill.result c.fill.ensures.stops
