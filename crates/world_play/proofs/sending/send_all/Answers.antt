use Rattle.std.proofs.Common.{sym, ◌∙◌}
use Rattle.world_play.proofs.Sends.{goes_on, smaller, all_sent}
use Rattle.world_play.proofs.sending.send_all.Goals as goal

pub responses-smaller : goal.responses-smaller
responses-smaller c =
    smaller c.args.node.now c.args.sequencer.now c.responses.node c.responses.sequencer c.responses.invariant c.in-Some.response
    (sym c.in_ok-response.ensures ∙ c.in-Some.is) c.sent.new.self c.hand_in_response.new.sequencer c.hand_in_response.ensures.on c.sent.ensures
    c.in_ok-hand_in_response.ensures.ok c.hand_in_response.ensures.behind

pub responses-preserved : goal.responses-preserved
responses-preserved c =
    goes_on c.args.node.now c.args.sequencer.now c.responses.node c.responses.sequencer c.responses.invariant c.in-Some.response
    (sym c.in_ok-response.ensures ∙ c.in-Some.is) c.sent.new.self c.hand_in_response.new.sequencer c.hand_in_response.ensures.on c.sent.ensures
    c.in_ok-hand_in_response.ensures.ok c.hand_in_response.ensures.behind

pub returns-clause-ok : goal.returns-clause-ok
returns-clause-ok c =
    all_sent c.args.node.now c.args.sequencer.now c.responses.node c.responses.sequencer c.responses.invariant
    (sym c.in_ok-response.ensures ∙ c.in_default.is)
