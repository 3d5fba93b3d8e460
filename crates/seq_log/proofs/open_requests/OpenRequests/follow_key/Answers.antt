use Rattle.std.proofs.Common.{Some, sym, ap, ◌∙◌}
use Rattle.seq_log.proofs.Followed.{request_follows, response_follows}
use Rattle.seq_log.proofs.open_requests.OpenRequests.follow_key.Goals as goal

pub returns-in-Request : goal.returns-in-Request
returns-in-Request c = λ message low high is rises.
    let key = c.in-Request in
    c.add_unless.ensures
    ∙ request_follows message c.args.self.now.places.items c.args.is_decided c.args.place key.field-0 key.field-1 (sym (ap Some key.is) ∙ is)

pub returns-in-Response : goal.returns-in-Response
returns-in-Response c = λ message low high is rises.
    let key = c.in-Response in
    response_follows message c.args.self.now.places.items c.args.is_decided c.args.place key.field-0 key.field-1 (sym (ap Some key.is) ∙ is)
