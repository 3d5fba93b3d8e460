use Rattle.std.proofs.Common.{rules, ◌≡◌}
use Rattle.client_threads.proofs.OwnResults.{served_more}
use Rattle.client_threads.proofs.serving.serve_one.Goals as goal

pub returns-in_ok-push : goal.returns-in_ok-push
returns-in_ok-push g c = λ first submits p served.
    let own : (c.args.what.now).participant ≡ (c.args.client.now).me = search rules in
    served_more g.S.Session.machine g.S.Session.why c.args.shared.now.round.time c.args.shared.now.round.paused first submits p c.args.client.now
    c.args.results.now served c.args.what.now c.answer.new.client c.push.new.self c.in_ok-given.given own c.answer.ensures.me
    c.in_ok-given.ensures.plain c.in_ok-given.ensures.answers c.in_ok-given.ensures.tickets c.in_ok-push.ensures.ok
