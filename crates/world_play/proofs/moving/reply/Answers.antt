use Rattle.std.proofs.Common.{sym, ◌∙◌}
use Rattle.world_play.proofs.Happened.{inbox_sent, reply_none, reply_some}
use Rattle.world_play.proofs.LogMore.{has_inbox_more}
use Rattle.world_play.proofs.moving.reply.Goals as goal

pub returns-in_ok-hand_in_response-clause-ok : goal.returns-in_ok-hand_in_response-clause-ok
returns-in_ok-hand_in_response-clause-ok c = λ m p given.
    reply_some m p c.args.node.now c.args.sequencer.now given.is given.inbox c.in-Some.response (sym c.in_ok-response.ensures ∙ c.in-Some.is)
    c.sent.new.self c.hand_in_response.new.sequencer c.hand_in_response.ensures.on c.sent.ensures
    (λ now. c.in_ok-hand_in_response.ensures.ok m now given.is_for)

pub returns-in_ok-hand_in_response-clause-inbox : goal.returns-in_ok-hand_in_response-clause-inbox
returns-in_ok-hand_in_response-clause-inbox c = λ m p given.
    has_inbox_more c.args.sequencer.now c.hand_in_response.new.sequencer c.hand_in_response.ensures.on c.sent.new.self
    (inbox_sent m p c.args.node.now c.args.sequencer.now given.is given.inbox (c.in-Some.response).request c.sent.new.self c.sent.ensures)

pub returns-in_default-clause-ok : goal.returns-in_default-clause-ok
returns-in_default-clause-ok c = λ m p given.
    reply_none m p c.args.node.now c.args.sequencer.now given.is given.inbox (sym c.in_ok-response.ensures ∙ c.in_default.is)

pub returns-in_default-clause-inbox : goal.returns-in_default-clause-inbox
returns-in_default-clause-inbox c = λ m p given. given.inbox
