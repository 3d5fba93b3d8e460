use Rattle.std.proofs.Common.{sym, ◌∙◌}
use Rattle.world_play.proofs.Happened.{inbox_sent, lose_none, lose_some}
use Rattle.world_play.proofs.moving.lose_reply.Goals as goal

pub returns-in-Some-clause-ok : goal.returns-in-Some-clause-ok
returns-in-Some-clause-ok c = λ m p log given.
    lose_some m p c.args.node.now log given.is given.inbox c.in-Some.response (sym c.in_ok-response.ensures ∙ c.in-Some.is) c.sent.new.self c.sent.ensures

pub returns-in-Some-clause-inbox : goal.returns-in-Some-clause-inbox
returns-in-Some-clause-inbox c = λ m p log given.
    inbox_sent m p c.args.node.now log given.is given.inbox (c.in-Some.response).request c.sent.new.self c.sent.ensures

pub returns-in_default-clause-ok : goal.returns-in_default-clause-ok
returns-in_default-clause-ok c = λ m p log given.
    lose_none m p c.args.node.now log given.is given.inbox (sym c.in_ok-response.ensures ∙ c.in_default.is)

pub returns-in_default-clause-inbox : goal.returns-in_default-clause-inbox
returns-in_default-clause-inbox c = λ m p log given. given.inbox
