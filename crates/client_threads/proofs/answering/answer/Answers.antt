use Rattle.client_threads.proofs.OneAnswer.{refused_answers}
use Rattle.client_threads.proofs.answering.answer.Goals as goal

pub returns-in-Err-clause-answers : goal.returns-in-Err-clause-answers
returns-in-Err-clause-answers g c =
    let round = c.args.shared.now.round in
    refused_answers g.S.Session.machine g.S.Session.why round.time round.paused c.args.what.now _ _ _ c.refused.result c.in-Err.ensures.step
    c.refused.ensures.refused
