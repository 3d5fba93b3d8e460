use Rattle.world_play.proofs.OwnRequests.{sent_is_own}
use Rattle.world_play.proofs.laws.sent_requests_open_by_the_rules.Goals as goal

pub returns : goal.returns
returns c = λ topology packages capacity now log end what place read_to sent.
    sent_is_own topology packages c.prepared_requests_are_wanted.ensures.given capacity now log end what place read_to sent
